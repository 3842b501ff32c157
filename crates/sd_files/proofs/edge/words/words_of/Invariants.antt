use Rattle.std.proofs.Common.{◌≡◌, ◌++◌}
use Rattle.std.specs.Vec.Iter.{into_iter_items}
use Rattle.sd_files.proofs.edge.words.words_of.Given as goal

-- the words so far, and then those that are left, are all but the name
abbrev pub invariant-loop-word : goal.invariant-loop-word
invariant-loop-word l = into_iter_items l.initial.word-iterator ≡ l.words.items ++ into_iter_items l.word-iterator
