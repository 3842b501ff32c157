-- The words of an exchanges text, and the limits of its numbers.
use Rattle.std.specs.Prelude.{ℕ, ◌^◌, ◌<◌, ◌≤◌, Bool, List, slice_index, codes, ◌||◌}
use Rattle.sd_sched.specs.Lines.{same_bytes}
use Rattle.sd_commands.specs.declared.exchanges.ExchangeLine.{ExchangeLine}
use Rattle.sd_commands.specs.declared.exchanges.ExchangeLine.TheVariants.{Exchange as Exchanged, End}
use Rattle.sd_commands.specs.exchanges.Lines.{limits}

-- the bytes spell one of the two words
unfoldable pub is_word : List ℕ → Bool
is_word bytes = same_bytes (codes "exchange") bytes || same_bytes (codes "end") bytes

-- seven numbers are within their limits
abbrev pub AreWithin : List ℕ → Type 0
AreWithin v = (k : ℕ) → k < 7 → slice_index v k ≤ slice_index limits k

-- the numbers of a line are
abbrev pub IsWithin : ExchangeLine → Type 0
IsWithin (Exchanged link side x) = (side ≤ 1) × (x.asym ≤ 10 ^ 12) × (x.t1 ≤ 2 ^ 60) × (x.t2 ≤ 2 ^ 60) × (x.t3 ≤ 2 ^ 60) × (x.t4 ≤ 2 ^ 60)
IsWithin End = Unit {0}
