-- The core is kept by a stage: no window was open, so nobody is new and there is no commit before or after it, and all else is alike.
use Rattle.std.specs.Prelude.{◌≡◌, ℕ, Bool, true, false, ◌||◌, List, [], ◌∷◌, Option, Some, None, is_some, refl, if◌then◌else◌}
use Rattle.std.specs.List.{list_any}
use Rattle.std.proofs.Common.{◌∙◌, ap, sym, inr}
use Rattle.std.proofs.lemmas.Bool.{or_parts}
use Rattle.sd_num.specs.Lists.{map_or, same_number}
use Rattle.sd_sched.specs.declared.Event.{Event}
use Rattle.sd_sched.specs.declared.Event.TheVariants as event
use Rattle.sd_sched.specs.Events.{joined, is_commit}
use Rattle.sd_history.specs.World.{Setting, Seen, window, window_is_open, has_commit}
use Rattle.sd_history.specs.Steps.{Step, seen_of}
use Rattle.sd_history.specs.Chronicle.{chronicle, next_step}
use Rattle.sd_history.specs.Refusals.{window_order, window_order_seen}
use Rattle.sd_history.proofs.Clear.{clear}
use Rattle.sd_safety.specs.invariant.Eras.{is_new}
use Rattle.sd_safety.specs.invariant.Invariant.{Core}
use Rattle.sd_safety.specs.invariant.Coming.{IsNextEvent}
use Rattle.sd_safety.specs.invariant.Kept.{Keeps}
use Rattle.sd_safety.proofs.invariant.Closings.{stage_closes_none}
use Rattle.sd_safety.specs.frame.Frames.{IsElsewhere, IsAlike, IsAlikeAt}
use Rattle.sd_safety.proofs.frame.ElsewhereSteps.{heard_alone}
use Rattle.sd_safety.proofs.frame.PlainSteps.{era_kept, failed_kept}
use Rattle.sd_safety.proofs.frame.Steps.{alike_elsewhere}
use Rattle.sd_safety.proofs.frame.Alike.{new, failed_device}
use Rattle.sd_safety.proofs.waits.Beginning.{quiet, still}
use Rattle.sd_safety.proofs.frame.Timely.{touched_now, member_up_now}
use Rattle.sd_safety.proofs.frame.Core.{core_alike, committed_none}
use Rattle.sd_safety.proofs.invariant.Empty.{core_before}
use Rattle.sd_safety.proofs.frame.Lasting.{shadow_same, messages_same}
use Rattle.sd_safety.proofs.frame.Changing.{none_new}

no_window : (o : Option (List Seen)) → is_some o ≡ false → o ≡ None
no_window None shut = refl
no_window (Some w) shut = cc

module _ {setting : Setting} (r : ℕ) (history : List Event) (comes : IsNextEvent setting history (event.Stage r)) where
  abbrev e : Event
  e = event.Stage r

  abbrev one : List Step
  one = chronicle setting history

  abbrev s : Step
  s = next_step setting (chronicle setting history) (event.Stage r)

  abbrev two : List Step
  two = chronicle setting (event.Stage r ∷ history)

  -- no window was open
  shut : window (seen_of (chronicle setting history)) ≡ None
  shut =
      let order : window_order setting one e ≡ false =
      (clear setting one e comes.clean.is.1).in_window in
      no_window (window (seen_of one)) (by (window_is_open (seen_of one)) (or_parts (window_order_seen setting (seen_of one) e) _ order).0)
    where
      by : (b : Bool) → (((b || false) || false) || false) ≡ false → b ≡ false
      by true h = cc
      by false h = refl

  stays : s.seen.closed ≡ false
  stays = stage_closes_none setting history r

  -- and one opens, with nothing in it
  opened : window (seen_of (chronicle setting (event.Stage r ∷ history))) ≡ Some []
  opened = ap (λ b. if b then None else Some []) stays

  uncommitted_before : has_commit (seen_of (chronicle setting history)) ≡ false
  uncommitted_before = ap (λ (o : Option (List Seen)). map_or o false (list_any (λ x. is_commit x.event))) shut

  uncommitted : has_commit (seen_of (chronicle setting (event.Stage r ∷ history))) ≡ false
  uncommitted = ap (λ (o : Option (List Seen)). map_or o false (list_any (λ x. is_commit x.event))) opened

  alone : (x : ℕ) → IsElsewhere (next_step setting (chronicle setting history) (event.Stage r)) x
  alone x = record { changes = refl; unmade = refl; unfailed = refl }

  alike : IsAlike setting (chronicle setting history) (chronicle setting (event.Stage r ∷ history))
  alike =
      record {
        era_is = era_kept setting one s stays;
        failed_is = failed_kept setting one s stays refl;
        commit_is = uncommitted ∙ sym uncommitted_before;
        joined_is = λ d.
            ap (λ (o : Option (List Seen)). map_or o false (list_any (λ x. same_number (joined x.event) d))) opened
            ∙ sym (ap (λ (o : Option (List Seen)). map_or o false (list_any (λ x. same_number (joined x.event) d))) shut);
        links_no_worse = λ l failed. failed;
      }

  each : (x : ℕ) → IsAlikeAt (chronicle setting history) (chronicle setting (event.Stage r ∷ history)) x
  each x = alike_elsewhere setting one s x (alone x)

  core : Core setting (chronicle setting history)
  core = core_before setting history e comes

  stage_keeps : Core setting (chronicle setting (event.Stage r ∷ history))
  stage_keeps =
      core_alike setting one two alike each
      (record {
        calm =
            record {
              quiet = quiet setting (e ∷ history) comes.fair comes.clean;
              still = still setting (e ∷ history) comes.fair comes.clean;
              touched = λ d. touched_now setting e history comes.fair comes.clean core alike.era_is d (inr (each d).untouched_is);
            };
        members_up =
            λ d. member_up_now setting e history comes.fair comes.clean core alike.era_is d (failed_device setting one two alike each d) (inr (each d).up_is);
        shadow = λ x. shadow_same setting one two alike each (λ y. heard_alone one s y (alone y)) x ∙ core.causes.shadow x;
        messages = messages_same setting one two alike refl ∙ core.uncommitted.messages;
        committed =
            committed_none setting two uncommitted
            (λ d. new setting one two alike each d ∙ none_new (has_commit (seen_of one)) (is_new one d) uncommitted_before (core.uncommitted.devices d));
        unclosed = stays;
      })
      core

pub stage : {setting : Setting} → (r : ℕ) → Keeps setting (event.Stage r)
stage r history comes = stage_keeps r history comes
