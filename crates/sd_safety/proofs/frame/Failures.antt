-- The failures of a device and of a link: each is one that Failing speaks of.
use Rattle.std.specs.Prelude.{◌≡◌, ℕ, Bool, true, false, ◌||◌, not, List, ◌∷◌, nat_eq, Some, None, refl, ◌⊎◌, if◌then◌else◌}
use Rattle.std.proofs.Common.{◌∙◌, ap, inl, inr}
use Rattle.std.proofs.lemmas.Bool.{and_right, or_left}
use Rattle.sd_num.specs.Lists.{map_or}
use Rattle.sd_plan.specs.declared.topo.Thing.TheVariants as thing
use Rattle.sd_sched.specs.declared.Event.{Event}
use Rattle.sd_sched.specs.declared.Event.TheVariants as event
use Rattle.sd_history.specs.World.{Setting, is_up, link_has_failed, was_made, has_ever_failed, has_commit}
use Rattle.sd_history.specs.Premises.{has_mend}
use Rattle.sd_history.specs.Steps.{Step, seen_of}
use Rattle.sd_history.specs.Chronicle.{chronicle, next_step}
use Rattle.sd_safety.specs.invariant.Eras.{failed_now, is_among, link_failed_now}
use Rattle.sd_safety.specs.invariant.Invariant.{Core}
use Rattle.sd_safety.specs.invariant.Coming.{IsNextEvent}
use Rattle.sd_safety.specs.invariant.Kept.{Keeps}
use Rattle.sd_safety.proofs.invariant.Orders.{renews}
use Rattle.sd_safety.proofs.invariant.Closings.{failed_device_closes_none, failed_link_closes_none, fails_uncommitted}
use Rattle.sd_safety.proofs.frame.PlainSteps.{era_kept, failed_more, commit_kept, joined_kept, has_failed_kept}
use Rattle.sd_safety.proofs.frame.Steps.{alike_elsewhere}
use Rattle.sd_safety.proofs.invariant.Empty.{core_before}
use Rattle.sd_safety.proofs.frame.Changing.{Stays, IsOutside, change_keeps}
use Rattle.sd_safety.proofs.frame.Failing.{falls}

module _ {setting : Setting} (r d : ℕ) (history : List Event) (comes : IsNextEvent setting history (event.FailDevice r d)) where
  abbrev one : List Step
  one = chronicle setting history

  abbrev s : Step
  s = next_step setting (chronicle setting history) (event.FailDevice r d)

  stays : s.seen.closed ≡ false
  stays = failed_device_closes_none setting history r d comes.clean

  before : has_commit (seen_of (chronicle setting history)) ≡ false
  before = fails_uncommitted (has_mend (seen_of one)) (has_commit (seen_of one)) (renews setting (event.FailDevice r d) history comes.clean).fails

  more : failed_now (chronicle setting (event.FailDevice r d ∷ history)) ≡ thing.Device d ∷ failed_now (chronicle setting history)
  more = failed_more setting one s stays

  each : (x : ℕ) → Stays (chronicle setting history) (chronicle setting (event.FailDevice r d ∷ history)) x
      ⊎ IsOutside setting (chronicle setting history) (chronicle setting (event.FailDevice r d ∷ history)) x
  each x = by (nat_eq x d) refl
    where
      by : (b : Bool) → nat_eq x d ≡ b → Stays (chronicle setting history) (chronicle setting (event.FailDevice r d ∷ history)) x
          ⊎ IsOutside setting (chronicle setting history) (chronicle setting (event.FailDevice r d ∷ history)) x
      by true is =
          inr
          (falls setting (event.FailDevice r d) history comes.fair comes.clean (core_before setting history (event.FailDevice r d) comes)
          (era_kept setting one s stays) (thing.Device d) more x
          (ap (λ b. map_or (if b then Some false else None) (is_up (seen_of one) x) (λ told. told)) is)
          (ap (λ xs. is_among xs (thing.Device x)) more ∙ or_left (nat_eq x d) (is_among (failed_now one) (thing.Device x)) is)
          (and_right (not (was_made (seen_of one) x)) (not (nat_eq x d || has_ever_failed (seen_of one) x))
          (ap not (or_left (nat_eq x d) (has_ever_failed (seen_of one) x) is))))
      by false is =
          inl
          (record {
            alike = alike_elsewhere setting one s x (record { changes = refl; unmade = refl; unfailed = is });
            failed = ap (λ xs. is_among xs (thing.Device x)) more ∙ ap (λ b. b || is_among (failed_now one) (thing.Device x)) is;
            joined_is = joined_kept setting one s stays refl x refl;
            heard_is = refl;
          })

  device_keeps : Core setting (chronicle setting (event.FailDevice r d ∷ history))
  device_keeps =
      change_keeps setting (event.FailDevice r d) history comes.fair comes.clean (core_before setting history (event.FailDevice r d) comes)
      (Some (thing.Device d)) (era_kept setting one s stays) before
      (commit_kept setting one s stays refl refl ∙ before) more each
      (λ l. inr (ap (λ xs. is_among xs (thing.Link l)) more, has_failed_kept one s (thing.Link l) refl refl)) refl stays

module _ {setting : Setting} (r m : ℕ) (history : List Event) (comes : IsNextEvent setting history (event.FailLink r m)) where
  abbrev one_ : List Step
  one_ = chronicle setting history

  abbrev s_ : Step
  s_ = next_step setting (chronicle setting history) (event.FailLink r m)

  stays_ : s_.seen.closed ≡ false
  stays_ = failed_link_closes_none setting history r m comes.clean

  before_ : has_commit (seen_of (chronicle setting history)) ≡ false
  before_ = fails_uncommitted (has_mend (seen_of one_)) (has_commit (seen_of one_)) (renews setting (event.FailLink r m) history comes.clean).fails

  more_ : failed_now (chronicle setting (event.FailLink r m ∷ history)) ≡ thing.Link m ∷ failed_now (chronicle setting history)
  more_ = failed_more setting one_ s_ stays_

  links : (l : ℕ) → (link_failed_now (chronicle setting (event.FailLink r m ∷ history)) l ≡ true)
      ⊎ ((link_failed_now (chronicle setting (event.FailLink r m ∷ history)) l ≡ link_failed_now (chronicle setting history) l)
      × (link_has_failed (seen_of (chronicle setting (event.FailLink r m ∷ history))) l ≡ link_has_failed (seen_of (chronicle setting history)) l))
  links l = by (nat_eq l m) refl
    where
      by : (b : Bool) → nat_eq l m ≡ b → (link_failed_now (chronicle setting (event.FailLink r m ∷ history)) l ≡ true)
          ⊎ ((link_failed_now (chronicle setting (event.FailLink r m ∷ history)) l ≡ link_failed_now (chronicle setting history) l)
          × (link_has_failed (seen_of (chronicle setting (event.FailLink r m ∷ history))) l ≡ link_has_failed (seen_of (chronicle setting history)) l))
      by true is = inl (ap (λ xs. is_among xs (thing.Link l)) more_ ∙ or_left (nat_eq l m) (is_among (failed_now one_) (thing.Link l)) is)
      by false is =
          inr (
            ap (λ xs. is_among xs (thing.Link l)) more_
                ∙ ap (λ b. b || is_among (failed_now one_) (thing.Link l)) is,
            has_failed_kept one_ s_ (thing.Link l) is refl,
          )

  link_keeps : Core setting (chronicle setting (event.FailLink r m ∷ history))
  link_keeps =
      change_keeps setting (event.FailLink r m) history comes.fair comes.clean (core_before setting history (event.FailLink r m) comes) (Some (thing.Link m))
      (era_kept setting one_ s_ stays_) before_
      (commit_kept setting one_ s_ stays_ refl refl ∙ before_) more_
      (λ x.
      inl
      (record {
        alike = alike_elsewhere setting one_ s_ x (record { changes = refl; unmade = refl; unfailed = refl });
        failed = ap (λ xs. is_among xs (thing.Device x)) more_;
        joined_is = joined_kept setting one_ s_ stays_ refl x refl;
        heard_is = refl;
      }))
      links refl stays_

pub fail_device : {setting : Setting} → (r d : ℕ) → Keeps setting (event.FailDevice r d)
fail_device r d history comes = device_keeps r d history comes

pub fail_link : {setting : Setting} → (r l : ℕ) → Keeps setting (event.FailLink r l)
fail_link r l history comes = link_keeps r l history comes
