use Rattle.std.proofs.Common.{◌≡◌, ◌≢◌, ◌∙◌, sym, ap, length, [], true, false}
use Rattle.sd_commands.proofs.exchanges.Fieldwise.{ReadTo-long, ReadTo-number, ReadTo-refused}
use Rattle.sd_commands.proofs.exchanges.fields.read_numbers.Goals as goal
use Rattle.sd_commands.proofs.exchanges.fields.read_numbers.Goals.{in-Some-number, in-None}

pub loop-place-preserved : goal.loop-place-preserved
loop-place-preserved c =
    let found = c.read_number-found in
    let read = c.loop-place.invariant in
    elim c.match-found.branch [
      | in-Some-number w ↦
          rw (w.numbers-is, w.refused-is)
          (ReadTo-number _ _ _ _ _ c.in-Some.bytes.now _ _ read c.loop-place-test.true c.in-Some.ensures.more (sym w.in-Some-number.is ∙ found.ensures.number)
          (rw w.in-Some-number.is at found.ensures.within) found.ensures.left)
      | in-None w ↦
          rw (w.numbers-is, w.refused-is, w.unwrap_or.ensures)
          (ReadTo-refused _ _ _ _ _ c.in-Some.bytes.now _ read c.loop-place-test.true c.in-Some.ensures.more
          (sym w.in-None.is ∙ found.ensures.number) found.ensures.left)
    ]

pub returns-then-not-is_empty-clause-fault : goal.returns-then-not-is_empty-clause-fault
returns-then-not-is_empty-clause-fault c =
    let more : c.loop-place.left.now ≢ [] =
    λ none. let empty : length c.loop-place.left.now ≡ 0 = ap length none in
    let told : true ≡ false = sym (rw empty at c.is_empty.ensures) ∙ c.if-not-is_empty.true in cc in
    ReadTo-long _ _ _ _ _ c.loop-place.invariant c.loop-place-test.false more
