-- What is seen of marks.
use Rattle.std.specs.Prelude.{ℕ, slice_index, vec_len}
use Rattle.sd_device.specs.declared.msg.marks.Marks.{Marks}

-- the number at a key
abbrev pub mark_of : Marks → ℕ → ℕ
mark_of marks key = slice_index marks.numbers.items key

-- how many keys there are
abbrev pub count_of : Marks → ℕ
count_of marks = vec_len marks.numbers
