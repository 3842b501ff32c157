-- A commit keeps the core: the device that commits was old, since before a commit the one that acts is the root, or where that failed the backup root; it is
-- new afterwards and acts on.
use Rattle.std.specs.Prelude.{◌≡◌, ℕ, ◌+◌, Bool, true, false, List, ◌∷◌, nat_eq, refl, ◌⊎◌}
use Rattle.std.proofs.Common.{◌∙◌, ap, sym, subst, inl, inr}
use Rattle.std.proofs.lemmas.Bool.{or_left, eqb-true}
use Rattle.sd_num.specs.Lists.{same_number}
use Rattle.sd_sched.specs.declared.Event.{Event}
use Rattle.sd_sched.specs.declared.Event.TheVariants as event
use Rattle.sd_sched.specs.Events.{is_commit}
use Rattle.sd_history.specs.World.{Setting, has_commit}
use Rattle.sd_history.specs.Steps.{Step, seen_of, epoch_in}
use Rattle.sd_history.specs.Chronicle.{chronicle}
use Rattle.sd_safety.specs.invariant.Eras.{era, is_old, is_blank}
use Rattle.sd_safety.specs.invariant.Invariant.{Core, IsCommitted}
use Rattle.sd_safety.specs.invariant.Coming.{IsNextEvent}
use Rattle.sd_safety.specs.invariant.Kept.{Keeps}
use Rattle.sd_safety.proofs.invariant.Empty.{core_before}
use Rattle.sd_safety.specs.windows.Standing.{HasStanding}
use Rattle.sd_safety.proofs.windows.Frames.{in_window_now}
use Rattle.sd_safety.proofs.windows.Acting.{ActsOld, who_acts}
use Rattle.sd_safety.proofs.windows.Committing.{AtCommit, commit_asks, open_, committer_new, committer_still_acts, committer_is_right, committer_acts_alone}
use Rattle.sd_safety.proofs.windows.Members.{commit_enters}
use Rattle.sd_safety.proofs.windows.Roles.{commit_is_in_time}
use Rattle.sd_safety.proofs.windows.Linked.{commit_links}
use Rattle.sd_safety.proofs.frame.ElsewhereSteps.{heard_alone}
use Rattle.sd_safety.proofs.frame.PlainSteps.{era_kept, failed_kept, joined_kept, untouched_kept}
use Rattle.sd_safety.proofs.frame.Steps.{elsewhere, alike_elsewhere}
use Rattle.sd_safety.proofs.frame.Turning.{GoesOn, Turns, turn_keeps}
use Rattle.sd_safety.proofs.frame.Idles.{step_at}
use Rattle.sd_safety.proofs.receipts.Entries.{next_is_not_this, next_is_not_none}
use Rattle.sd_safety.proofs.renewals.LeavesOut.{standing, commit_leaves_out}

module _ {setting : Setting} (r d c : ℕ) (history : List Event) (comes : IsNextEvent setting history (event.Commit r d c)) where
  abbrev e : Event
  e = event.Commit r d c

  abbrev one : List Step
  one = chronicle setting history

  abbrev two : List Step
  two = chronicle setting (event.Commit r d c ∷ history)

  abbrev s : Step
  s = step_at setting history (event.Commit r d c)

  core : Core setting (chronicle setting history)
  core = core_before setting history (event.Commit r d c) comes

  asks : AtCommit setting (chronicle setting history) d
  asks = commit_asks setting r d c history comes.fair comes.clean

  shut : (step_at setting history (event.Commit r d c)).seen.closed ≡ false
  shut = open_ setting r d c history comes.fair comes.clean

  eras : era (chronicle setting (event.Commit r d c ∷ history)) ≡ era (chronicle setting history)
  eras = era_kept setting one s shut

  stands : HasStanding setting (chronicle setting history)
  stands = standing r d c history comes

  actor : ActsOld setting (chronicle setting history) d
  actor = who_acts setting history comes.clean.is.0 asks.first_one stands d asks.counted asks.acts

  turns : Turns (chronicle setting history) (chronicle setting (event.Commit r d c ∷ history)) d
  turns =
      let new = committer_new setting r d c history comes.fair comes.clean in
      record {
        up_is = refl;
        untouched_is = untouched_kept one s d refl refl;
        was = or_left (is_old one d) (is_blank one d) actor.old;
        old = ap (same_number (epoch_in two d)) eras
            ∙ next_is_not_this (epoch_in two d) (era one) (sym (ap (λ k. same_number (epoch_in two d) (k + 1)) eras) ∙ new);
        new = new;
        blank = next_is_not_none (epoch_in two d) (era two) new;
        acts_is = committer_still_acts setting r d c history comes.fair comes.clean ∙ sym asks.acts;
      }

  each : (x : ℕ) → GoesOn (chronicle setting history) (chronicle setting (event.Commit r d c ∷ history)) x
      ⊎ Turns (chronicle setting history) (chronicle setting (event.Commit r d c ∷ history)) x
  each x = by (nat_eq d x) refl
    where
      by : (b : Bool) → nat_eq d x ≡ b → GoesOn (chronicle setting history) (chronicle setting (event.Commit r d c ∷ history)) x
          ⊎ Turns (chronicle setting history) (chronicle setting (event.Commit r d c ∷ history)) x
      by true is = inr (subst (Turns one two) (eqb-true d x is) turns)
      by false other =
          inl (record {
            alike = alike_elsewhere setting one s x (elsewhere setting one e x other);
            heard_is = heard_alone one s x (elsewhere setting one e x other);
          })

  entering : IsCommitted setting (chronicle setting (event.Commit r d c ∷ history))
  entering =
      record {
        entering = commit_enters setting r d c history comes.fair comes.clean (λ x up. core.census.current x);
        entered = commit_is_in_time setting r d c history comes.clean;
        committer = committer_is_right setting r d c history comes.fair comes.clean stands;
        acting = committer_acts_alone setting r d c history comes.fair comes.clean stands;
        linked = commit_links setting r d c history comes.fair comes.clean;
        left_out = commit_leaves_out r d c history comes;
      }

  committed : has_commit (seen_of (chronicle setting (event.Commit r d c ∷ history))) ≡ true
  committed = in_window_now setting s one shut (λ x. is_commit x.event) refl asks.opened refl

  pub commit_keeps : Core setting (chronicle setting (event.Commit r d c ∷ history))
  commit_keeps =
      turn_keeps setting e history comes.fair comes.clean core eras (failed_kept setting one s shut refl) committed
      (λ x. joined_kept setting one s shut refl x refl) (λ l. refl) each entering shut

pub commit : {setting : Setting} → (r d c : ℕ) → Keeps setting (event.Commit r d c)
commit r d c history comes = commit_keeps r d c history comes
