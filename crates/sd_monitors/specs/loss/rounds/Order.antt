-- What is seen comes in order: references do not fall, and flights are numbered as they are sent.
use Rattle.std.specs.Prelude.{◌≡◌, ℕ, ◌≤◌, true, List, [], ◌∷◌, All, map, nat_le}
use Rattle.sd_num.specs.Lists.{map_or, greatest, ascends}
use Rattle.sd_sched.specs.Events.{reference_of}
use Rattle.sd_history.specs.World.{Setting, Seen}
use Rattle.sd_history.specs.Open.{may_be_seen}
use Rattle.sd_history.specs.Premises.{reaching_flights}

-- the greatest number of a flight, 0 before the first
abbrev pub last_sent : List Seen → ℕ
last_sent seen = greatest (map (λ f. f.number) (reaching_flights seen))

-- The event may be seen after what was seen before. The flights that it sends are due at its reference or later, and their numbers ascend
-- from above all earlier ones. The flight that it receives has a number that is not above those.
pub record Follows (setting : Setting) (earlier : List Seen) (s : Seen) : Type 0 where
  pub allowed : may_be_seen setting earlier s.event ≡ true
  pub due : All (λ f. reference_of s.event ≤ f.due) s.sent
  pub numbers : ascends (last_sent earlier ∷ map (λ f. f.number) s.sent) ≡ true
  pub taken : map_or s.taken true (λ f. nat_le f.number (last_sent earlier)) ≡ true

-- each event follows those before it
abbrev pub IsInOrder : Setting → List Seen → Type 0
IsInOrder setting [] = Unit {0}
IsInOrder setting (s ∷ earlier) = IsInOrder setting earlier × Follows setting earlier s
