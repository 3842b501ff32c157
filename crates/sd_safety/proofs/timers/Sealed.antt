-- Since when a device is sealed: a device that was started, and took up no other duty since, is sealed since its start; one that was sealed since its entry
-- is sealed since then. By induction on the steps.
use Rattle.std.specs.Prelude.{◌≡◌, ℕ, ◌≤◌, Bool, true, false, ◌&&◌, List, [], ◌∷◌, nat_eq, Option, Some, None, is_some, refl, if◌then◌else◌}
use Rattle.std.proofs.Common.{arith, ◌∙◌, ap}
use Rattle.sd_num.specs.Lists.{map_or}
use Rattle.sd_device.specs.Calls.{Past}
use Rattle.sd_device.specs.Words.{transition_of, taken_up, takes_up, is_seal, is_sealed}
use Rattle.sd_sched.specs.Events.{reference_of}
use Rattle.sd_history.specs.World.{Setting, latest_reference}
use Rattle.sd_history.specs.Steps.{Act, Makes, Calls, Asks, Passes, Step, seen_of}
use Rattle.sd_history.specs.Chronicle.{past_in}
use Rattle.sd_history.proofs.Given.{some_is}
use Rattle.sd_safety.specs.timers.Times.{AreTimed, did_by, seal_with, seal_after, sealed_in}
use Rattle.sd_safety.specs.timers.Since.{enters_by, SameEntry, at_once, goes_on}
use Rattle.sd_safety.proofs.timers.Deadlines.{due_in}

-- a seal is no later than the latest event
with_within : (o : Option ℕ) (t b : Bool) (r l q : ℕ) → ((y : ℕ) → o ≡ Some y → y ≤ l) → l ≤ r
    → (if t then None else if is_some o then o else if b then Some r else None) ≡ Some q → q ≤ r
with_within o true b r l q each le same = cc
with_within (Some y) false b r l q each le same = let within : y ≤ l = each y refl in let is : y ≡ q = some_is same in omega (arith, within, le, is)
with_within None false true r l q each le same = let is : r ≡ q = some_is same in omega (arith, is)
with_within None false false r l q each le same = cc

after_within : (act : Act) (d r l q : ℕ) (p : Option Past) (o : Option ℕ) → ((y : ℕ) → o ≡ Some y → y ≤ l) → l ≤ r → seal_after r act d p o ≡ Some q → q ≤ r
after_within (Makes m making) d r l q p o each le same = go (nat_eq m d) same
  where
    go : (x : Bool) → (if x then Some r else o) ≡ Some q → q ≤ r
    go true h = let is : r ≡ q = some_is h in omega (arith, is)
    go false h = let within : q ≤ l = each q h in omega (arith, within, le)
after_within (Calls m call) d r l q p o each le same = go (nat_eq m d) p same
  where
    go : (x : Bool) (y : Option Past) → (if x then map_or y o (λ z. seal_with r (did_by z call) o) else o) ≡ Some q → q ≤ r
    go true None h = let within : q ≤ l = each q h in omega (arith, within, le)
    go true (Some z) h = with_within o (takes_up (did_by z call)) (is_seal call) r l q each le h
    go false y h = let within : q ≤ l = each q h in omega (arith, within, le)
after_within (Asks m counter) d r l q p o each le same = let within : q ≤ l = each q same in omega (arith, within, le)
after_within Passes d r l q p o each le same = let within : q ≤ l = each q same in omega (arith, within, le)

pub seal_within : (setting : Setting) (steps : List Step) → AreTimed setting steps → (d q : ℕ) → sealed_in steps d ≡ Some q
    → q ≤ latest_reference (seen_of steps)
seal_within setting [] timed d q same = cc
seal_within setting (s ∷ earlier) timed d q same =
    after_within s.act d (reference_of s.seen.event) (latest_reference (seen_of earlier)) q (past_in earlier d) (sealed_in earlier d)
    (seal_within setting earlier timed.0 d) timed.1.goes_on same

-- a seal stays inside one entry
kept : (t b : Bool) (o : Option ℕ) (r q : ℕ) → t ≡ false → o ≡ Some q → (if t then None else if is_some o then o else if b then Some r else None) ≡ Some q
kept true b o r q e same = cc
kept false b None r q e same = cc
kept false b (Some y) r q e same = same

by_act : (act : Act) (d r q : ℕ) (p : Option Past) (o : Option ℕ) → enters_by act d p ≡ false → o ≡ Some q → seal_after r act d p o ≡ Some q
by_act (Makes m making) d r q p o none same = ap (λ b. if b then Some r else o) none ∙ same
by_act (Calls m call) d r q p o none same = go (nat_eq m d) p none
  where
    go : (x : Bool) (y : Option Past) → (x && map_or y false (λ z. is_some (taken_up (transition_of z call)))) ≡ false
        → (if x then map_or y o (λ z. seal_with r (did_by z call) o) else o) ≡ Some q
    go true None h = same
    go true (Some z) h = kept (takes_up (did_by z call)) (is_seal call) o r q h same
    go false y h = same
by_act (Asks m counter) d r q p o none same = same
by_act Passes d r q p o none same = same

pub seal_stays : (d q : ℕ) (older steps : List Step) → SameEntry d older steps → sealed_in older d ≡ Some q → sealed_in steps d ≡ Some q
seal_stays d q older _ at_once same = same
seal_stays d q older _ (goes_on {s = s} {steps = steps} none since) same =
    by_act s.act d (reference_of s.seen.event) q (past_in steps d) (sealed_in steps d) none (seal_stays d q older steps since same)

-- a device is sealed where there is such a reference, and only there
pub sealed_since : (setting : Setting) (steps : List Step) → AreTimed setting steps → (d : ℕ) (past : Past) → past_in steps d ≡ Some past
    → is_sealed past ≡ true → (q : ℕ) × (sealed_in steps d ≡ Some q)
sealed_since setting steps timed d past is sealed = go (sealed_in steps d) refl ((due_in setting steps timed d past is).sealed ∙ sealed)
  where
    go : (o : Option ℕ) → sealed_in steps d ≡ o → is_some o ≡ true → (q : ℕ) × (sealed_in steps d ≡ Some q)
    go None same some = cc
    go (Some q) same some = (q, same)
