-- Lemmas that several crates above share.
use Rattle.std.specs.Prelude.{◌≡◌, List, ◌∷◌, filter, ℕ, zero, suc, ◌+◌, ◌<◌, [], length}
use Rattle.std.proofs.Common.{ap, sym, ◌∙◌, arith, get_or}
use Rattle.sd_device.specs.declared.msg.Flight.{Flight}
use Rattle.sd_history.specs.World.{Setting}
use Rattle.sd_history.specs.Steps.{Step}
use Rattle.sd_history.specs.Accepted.{AreSteps}
use Rattle.sd_history.specs.flights.Flights.{AreNumberedOn}

-- the messages that are seen are those that reach
pub sent_reach : (setting : Setting) (s : Step) (earlier : List Step) → AreSteps setting (s ∷ earlier) → s.seen.sent ≡ filter (λ f. f.reaches) s.sent
sent_reach setting s earlier is = ap (λ (x : Step). x.seen.sent) is.2 ∙ sym (ap (λ (x : Step). filter (λ f. f.reaches) x.sent) is.2)

-- and its number
pub number_at : (n : ℕ) (fs : List Flight) (i : ℕ) (d : Flight) → AreNumberedOn n fs → i < length fs → (get_or fs i d).number ≡ n + i
number_at n [] i d is h = absurd (omega arith)
number_at n (f ∷ fs) zero d is h = let same = is.0 in omega (arith, same)
number_at n (f ∷ fs) (suc i) d is h = let rest = number_at (n + 1) fs i d is.1 (omega arith) in omega (arith, rest)
