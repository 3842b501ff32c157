-- Lines that were worked out by hand: those of docs/RECORD.md in the compact form.
use Rattle.std.specs.Prelude.{◌≡◌, Ok, Err, codes, refl}
use Rattle.sd_sched.specs.Lines.{event_of_line}
use Rattle.sd_sched.specs.declared.Event.TheVariants.{Tick}
use Rattle.sd_sched.specs.declared.LineFault.TheVariants.{FieldCount, Number, UnknownWord}
use Rattle.sd_record.specs.logs.Lines.{entry_of_line, kind_in}
use Rattle.sd_record.specs.declared.logs.Entry.TheVariants.{Loss, Plain, Receipt}

receipt : entry_of_line (codes "recv 1000110700000 1 110696000 0 1 0 1")
    ≡ Ok (Receipt 1000110700000 110696000 (record { receiver = 1; link = 0; epoch = 1; term = 0; round = 1 }))
unfolding entry_of_line kind_in
receipt = refl

loss : entry_of_line (codes "lose 1000112000000 2 1 1 0 3")
    ≡ Ok (Loss 1000112000000 (record { receiver = 2; link = 1; epoch = 1; term = 0; round = 3 }))
unfolding entry_of_line kind_in
loss = refl

tick : entry_of_line (codes "tick 1000090000000 1 89996000") ≡ Ok (Plain (Tick 1000090000000 1 89996000))
unfolding entry_of_line kind_in event_of_line
tick = refl

-- a line of a schedule names its message by a number
numbered : entry_of_line (codes "recv 1000110700000 1 110696000 1") ≡ Err FieldCount
unfolding entry_of_line kind_in
numbered = refl

one_more : entry_of_line (codes "lose 1000112000000 2 1 1 0 3 7") ≡ Err FieldCount
unfolding entry_of_line kind_in
one_more = refl

past_the_limit : entry_of_line (codes "recv 1000110700000 1 110696000 0 4294967296 0 1") ≡ Err (Number 5)
unfolding entry_of_line kind_in
past_the_limit = refl

no_word : entry_of_line (codes "x") ≡ Err UnknownWord
unfolding entry_of_line kind_in event_of_line
no_word = refl
