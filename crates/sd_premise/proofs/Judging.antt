-- Where each monitor stands for what was seen, all of them do, and what they answer is what breaks.
use Rattle.std.proofs.Common.{◌≡◌, ℕ, ◌+◌, ◌≤◌, Bool, true, false, not, ◌&&◌, List, ◌∷◌, refl, ap, ◌∙◌}
use Rattle.sd_history.specs.declared.BrokenSet.{BrokenSet}
use Rattle.sd_history.specs.World.{Setting, Seen}
use Rattle.sd_history.specs.Premises.{start_holds, drift_holds, delay_holds, tick_holds, loss_holds, domain_holds, renew_holds, broken_in, newly, breaks}
use Rattle.sd_premise.specs.Order.{CanFollow}
use Rattle.sd_premise.specs.Worlds.{world_after}
use Rattle.sd_premise.specs.Standing.{StandsFor, room_of, net_of}
use Rattle.sd_premise.specs.Breaking.{with_held}
use Rattle.sd_premise.specs.Calm.{Sees}
use Rattle.sd_premise.specs.declared.premises.Premises.{Premises}
use Rattle.sd_premise.specs.declared.sets.Held.{Held}

-- what seven monitors answer is what is broken
pub answered : (setting : Setting) (seen : List Seen) (start drift delay tick loss domain renew : Bool)
    → start ≡ start_holds seen → drift ≡ drift_holds setting seen → delay ≡ delay_holds setting seen → tick ≡ tick_holds setting seen
    → loss ≡ loss_holds setting seen → domain ≡ domain_holds setting seen → renew ≡ renew_holds setting seen
    → record { start = not start; drift = not drift; delay = not delay; tick = not tick; loss = not loss; domain = not domain; renew = not renew }
    ≡ broken_in setting seen
answered setting seen start drift delay tick loss domain renew a b c d e f g i =
    record { start = not (a i); drift = not (b i); delay = not (c i); tick = not (d i); loss = not (e i); domain = not (f i); renew = not (g i) }

-- an event that can break those on drift, delays, ticks and loss alone
pub held_answered : (setting : Setting) (s : Seen) (earlier : List Seen) (before : BrokenSet) (held : Held)
    → before ≡ broken_in setting earlier → start_holds earlier ≡ start_holds (s ∷ earlier) → held.drift ≡ drift_holds setting (s ∷ earlier)
    → held.delay ≡ delay_holds setting (s ∷ earlier) → held.tick ≡ tick_holds setting (s ∷ earlier) → held.loss ≡ loss_holds setting (s ∷ earlier)
    → domain_holds setting earlier ≡ domain_holds setting (s ∷ earlier) → renew_holds setting earlier ≡ renew_holds setting (s ∷ earlier)
    → with_held before held ≡ broken_in setting (s ∷ earlier)
held_answered setting s earlier before held is a b c d e f g =
    ap (λ (x : BrokenSet). with_held x held) is
    ∙ (λ i. record { start = not (a i); drift = not (b i); delay = not (c i); tick = not (d i); loss = not (e i); domain = not (f i); renew = not (g i) })

-- what is broken still does not break
pub none_newly : (broken : BrokenSet)
    → record { start = false; drift = false; delay = false; tick = false; loss = false; domain = false; renew = false } ≡ newly broken broken
none_newly broken = λ i.
    record {
      start = never broken.start i;
      drift = never broken.drift i;
      delay = never broken.delay i;
      tick = never broken.tick i;
      loss = never broken.loss i;
      domain = never broken.domain i;
      renew = never broken.renew i;
    }
  where
    never : (b : Bool) → false ≡ (b && not b)
    never true = refl
    never false = refl

-- a premise that was not broken, by what is kept, and holds still
pub still : (b held : Bool) → b ≡ not held → not b ≡ held
still b true is = ap not is
still b false is = ap not is

-- what breaks with an event
pub breaks_with : (setting : Setting) (s : Seen) (earlier : List Seen) (before now : BrokenSet) → before ≡ broken_in setting earlier
    → now ≡ broken_in setting (s ∷ earlier) → newly before now ≡ breaks setting (s ∷ earlier)
breaks_with setting s earlier before now was is = λ i. newly (was i) (is i)

-- so where the monitors stand for the event too, and answer what they break newly, they saw it
pub sees : {IsSuch : Seen → Type 0} {sends : ℕ} {old new : Premises} {answer : BrokenSet}
    → ((setting : Setting) (earlier : List Seen) (s : Seen) → IsSuch s → CanFollow setting earlier s → StandsFor old setting earlier
    → StandsFor new setting (s ∷ earlier))
    → answer ≡ newly old.broken new.broken → room_of old ≤ room_of new + sends
    → ((s : Seen) → IsSuch s → new.world ≡ world_after old.world s) → net_of new ≡ net_of old
    → Sees IsSuch sends old new answer
sees {old = old} {new = new} stands answers room world network = record {
  stands = stands;
  breaks = λ setting earlier s is can stood.
      answers ∙ breaks_with setting s earlier old.broken new.broken stood.broken (stands setting earlier s is can stood).broken;
  room = room;
  world = world;
  network = network;
}
