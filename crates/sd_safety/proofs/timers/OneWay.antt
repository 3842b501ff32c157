-- One way, in a list of steps: since its entry a device has not gone from backup to primary, nor from acting to anything else. From Pasts, by induction
-- on the steps since.
use Rattle.std.specs.Prelude.{◌≡◌, ℕ, Bool, true, false, ◌&&◌, List, nat_eq, Option, Some, is_some, option_map, if◌then◌else◌}
use Rattle.std.proofs.Common.{sym, ◌∙◌, ap, subst}
use Rattle.sd_num.specs.Lists.{map_or}
use Rattle.sd_num.proofs.Shared.{none_if_not_some}
use Rattle.sd_device.specs.Calls.{Past}
use Rattle.sd_device.specs.Words.{transition_of, after, taken_up, has_moved, duty_now}
use Rattle.sd_history.specs.Steps.{Act, Makes, Calls, Asks, Passes, Step}
use Rattle.sd_history.specs.Chronicle.{past_in, past_after, new_past}
use Rattle.sd_safety.specs.timers.Since.{enters_by, SameEntry, at_once, goes_on}
use Rattle.sd_safety.proofs.timers.Pasts.{Inside, itself, onward, was_unmoved, inside_duty}
use Rattle.sd_history.proofs.Given.{some_is}

-- the device's past at the later state, of the same entry
pub record Later (steps : List Step) (d : ℕ) (old : Past) : Type 0 where
  pub past : Past
  pub there : past_in steps d ≡ Some past
  pub inside : Inside old past

by_act : (act : Act) (d : ℕ) (old past : Past) (p : Option Past) → p ≡ Some past → Inside old past → enters_by act d p ≡ false
    → (q : Past) × (past_after act d p ≡ Some q) × Inside old q
by_act (Makes m making) d old past p is inside none = (past, ap (λ b. if b then Some (new_past making) else p) none ∙ is, inside)
by_act (Calls m call) d old past p is inside none =
    go (nat_eq m d) (subst (λ o. (nat_eq m d && map_or o false (λ q. is_some (taken_up (transition_of q call)))) ≡ false) is none)
  where
    go : (b : Bool) → (b && is_some (taken_up (transition_of past call))) ≡ false
        → (q : Past) × ((if b then option_map (λ x. after x call) p else p) ≡ Some q) × Inside old q
    go true none' = (after past call, ap (option_map (λ x. after x call)) is, onward call (none_if_not_some (taken_up (transition_of past call)) none') inside)
    go false none' = (past, is, inside)
by_act (Asks m counter) d old past p is inside none = (past, is, inside)
by_act Passes d old past p is inside none = (past, is, inside)

pub later_past : (d : ℕ) (older steps : List Step) (old : Past) → SameEntry d older steps → past_in older d ≡ Some old → Later steps d old
later_past d older _ old at_once is = record { past = old; there = is; inside = itself }
later_past d older _ old (goes_on {s = s} {steps = steps} none since) is =
    let before : Later steps d old = later_past d older steps old since is in
    let now = by_act s.act d old before.past (past_in steps d) before.there before.inside none in
    record { past = now.0; there = now.1; inside = now.2 }

pub same_entry_inside : (d : ℕ) (older steps : List Step) (old past : Past) → SameEntry d older steps → past_in older d ≡ Some old → past_in steps d ≡ Some past
    → Inside old past
same_entry_inside d older steps old past since is now =
    let later : Later steps d old = later_past d older steps old since is in
    subst (Inside old) (some_is (sym later.there ∙ now)) later.inside

-- on its primary now, with the same entry: on its primary then
pub was_on_primary : (d : ℕ) (older steps : List Step) (old past : Past) → SameEntry d older steps → past_in older d ≡ Some old → past_in steps d ≡ Some past
    → has_moved past ≡ false → has_moved old ≡ false
was_on_primary d older steps old past since is now still = was_unmoved old past (same_entry_inside d older steps old past since is now) still

-- and it has the same duty
pub same_duty_since : (d : ℕ) (older steps : List Step) (old past : Past) → SameEntry d older steps → past_in older d ≡ Some old → past_in steps d ≡ Some past
    → duty_now past ≡ duty_now old
same_duty_since d older steps old past since is now = inside_duty old past (same_entry_inside d older steps old past since is now)
