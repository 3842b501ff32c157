-- The references of the invariant's words are those of timers: where a device heard, moved and sent. By induction on the steps.
use Rattle.std.specs.Prelude.{◌≡◌, ℕ, Bool, true, false, ◌||◌, List, [], ◌∷◌, nat_eq, Option, Some, None, is_some, option_map, refl, if◌then◌else◌}
use Rattle.std.proofs.Common.{◌∙◌, ap}
use Rattle.sd_num.specs.Lists.{map_or}
use Rattle.sd_device.specs.Calls.{Call, CallDone, Past}
use Rattle.sd_device.specs.Words.{emits}
use Rattle.sd_sched.specs.Events.{reference_of}
use Rattle.sd_history.specs.World.{Setting, makes}
use Rattle.sd_history.specs.Steps.{Act, Makes, Calls, Asks, Passes, Step}
use Rattle.sd_history.specs.Chronicle.{past_in}
use Rattle.sd_safety.specs.invariant.Eras as eras
use Rattle.sd_safety.specs.invariant.Eras.{latest_such, does, heard_at, moved_at, sent_at}
use Rattle.sd_safety.specs.timers.Times.{AreTimed, did_by, reference_after, reference_by, makes_device, hears, moves, heard_in, moved_in, sent_in}
use Rattle.sd_safety.proofs.timers.Transitions.{heard_counts, move_counts}

told_or : (o : Option ℕ) (t : Bool) (r before : ℕ) → is_some o ≡ t → (if t then r else before) ≡ map_or o before (λ c. r)
told_or None true r before is = cc
told_or None false r before is = refl
told_or (Some c) true r before is = refl
told_or (Some c) false r before is = cc

module _ (test : CallDone → Bool) (f : CallDone → Option ℕ) (same : (past : Past) (call : Call) → is_some (f (did_by past call)) ≡ test (did_by past call)) where
  by_act : (earlier : List Step) (act : Act) (d r before : ℕ)
      → (if makes_device act d || map_or (eras.did_by earlier act d) false test then r else before) ≡ reference_after f r act d (past_in earlier d) before
  by_act earlier (Makes m making) d r before = go (nat_eq m d)
    where
      go : (b : Bool) → (if b || false then r else before) ≡ (if b then r else before)
      go true = refl
      go false = refl
  by_act earlier (Calls m call) d r before = go (nat_eq m d) (past_in earlier d)
    where
      go : (b : Bool) (p : Option Past) → (if false || map_or (if b then option_map (λ past. did_by past call) p else None) false test then r else before)
          ≡ (if b then map_or p before (λ q. map_or (f (did_by q call)) before (λ c. r)) else before)
      go true None = refl
      go true (Some q) = told_or (f (did_by q call)) (test (did_by q call)) r before (same q call)
      go false p = refl
  by_act earlier (Asks m counter) d r before = refl
  by_act earlier Passes d r before = refl

  pub latest_is : (setting : Setting) (steps : List Step) → AreTimed setting steps → (d : ℕ) → latest_such test steps d ≡ reference_by f steps d
  latest_is setting [] timed d = refl
  latest_is setting (s ∷ earlier) timed d =
      ap (λ before. if makes d s.seen.event || does test earlier s d then reference_of s.seen.event else before) (latest_is setting earlier timed.0 d)
      ∙ ap (λ b. if b || does test earlier s d then reference_of s.seen.event else reference_by f earlier d) (timed.1.fits.makes_it d)
      ∙ by_act earlier s.act d (reference_of s.seen.event) (reference_by f earlier d)

pub heard_is : (setting : Setting) (steps : List Step) → AreTimed setting steps → (d : ℕ) → heard_at steps d ≡ heard_in steps d
heard_is setting steps timed d = latest_is eras.hears hears heard_counts setting steps timed d

pub moved_is : (setting : Setting) (steps : List Step) → AreTimed setting steps → (d : ℕ) → moved_at steps d ≡ moved_in steps d
moved_is setting steps timed d = latest_is eras.moves moves move_counts setting steps timed d

pub sent_is : (setting : Setting) (steps : List Step) → AreTimed setting steps → (d : ℕ) → sent_at steps d ≡ sent_in steps d
sent_is setting steps timed d = latest_is eras.sends emits (λ past call. refl) setting steps timed d
