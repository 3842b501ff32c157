-- C9 b as the clause of the invariant: at a commit each member of the staged plan is new, or old or blank with its duty given; and a receipt keeps it.
use Rattle.std.specs.Prelude.{◌≡◌, ℕ, ◌<◌, Bool, true, false, ◌&&◌, ◌||◌, not, List, ◌∷◌, length, nat_eq, nat_lt, Some, refl}
use Rattle.std.proofs.Common.{◌∙◌, ap, sym}
use Rattle.std.proofs.lemmas.Bool.{and_parts, and_from, or_left, or_right, eqb-true, eq-eqb, ltb-true}
use Rattle.sd_num.specs.Lists.{map_or, same_number}
use Rattle.sd_plan.specs.declared.Plan.{Plan}
use Rattle.sd_plan.specs.Plans.{is_member}
use Rattle.sd_sched.specs.declared.Event.{Event}
use Rattle.sd_sched.specs.declared.Event.TheVariants as event
use Rattle.sd_history.specs.World.{Setting, is_up, has_commit, staged_epoch, is_counted, is_staged_member, joined_in_window}
use Rattle.sd_history.specs.Steps.{Step, seen_of, epoch_in, given_in}
use Rattle.sd_history.specs.Chronicle.{next_step, chronicle}
use Rattle.sd_history.specs.Premises.{was_given}
use Rattle.sd_safety.specs.invariant.Eras.{era, plan_now, will_belong, is_old, is_new, is_blank}
use Rattle.sd_safety.specs.invariant.Clauses.{member_enters, counted_is_current}
use Rattle.sd_safety.specs.invariant.Guarded.{AreGuarded, IsSteady}
use Rattle.sd_safety.proofs.invariant.Prefix.{clean_before}
use Rattle.sd_safety.proofs.windows.Eras.{era_kept}
use Rattle.sd_safety.proofs.windows.Frames.{staged_on, staged_epoch_on, epoch_on, given_on}
use Rattle.sd_safety.proofs.windows.Acting.{not_new}
use Rattle.sd_safety.proofs.windows.Committing.{staged_plan, staged_some, AtCommit, commit_asks, open_, others, committer_new}
use Rattle.sd_safety.proofs.windows.Given.{GivenPast, given_so, answers_given}
use Rattle.sd_safety.proofs.invariant.Opening.{gives}

-- who counts, is up and not new is old or blank
old_or_blank : (up counted old new blank : Bool) → up ≡ true → counted ≡ true → (not counted || not (up && not (old || new || blank))) ≡ true → new ≡ false
    → (old || blank) ≡ true
old_or_blank true true true false blank u c current n = refl
old_or_blank true true false false true u c current n = refl
old_or_blank true true false false false u c current n = cc
old_or_blank true true old true blank u c current n = cc
old_or_blank true false old new blank u c current n = cc
old_or_blank false counted old new blank u c current n = cc

prepared_parts : (up given member joined_ : Bool) → (up && given && (member || joined_)) ≡ true
    → (up ≡ true) × (given ≡ true) × ((up && (member || joined_)) ≡ true)
prepared_parts true true true joined_ is = (refl, refl, refl)
prepared_parts true true false true is = (refl, refl, refl)
prepared_parts true true false false is = cc
prepared_parts true false member joined_ is = cc
prepared_parts false given member joined_ is = cc

module _ (setting : Setting) (r d c : ℕ) (history : List Event) (fair : AreGuarded setting) (clean : IsSteady setting (event.Commit r d c ∷ history))
    (current : (x : ℕ) → is_up (seen_of (chronicle setting history)) x ≡ true → counted_is_current setting (chronicle setting history) x ≡ true) where
  asks : AtCommit setting (chronicle setting history) d
  asks = commit_asks setting r d c history fair clean

  shut : (next_step setting (chronicle setting history) (event.Commit r d c)).seen.closed ≡ false
  shut = open_ setting r d c history fair clean

  -- a member other than the one that commits stands as before
  other_enters : (x : ℕ) → nat_eq d x ≡ false → x < length setting.net.devices → is_member (staged_plan setting (chronicle setting history)) x ≡ true
      → ((is_old (chronicle setting (event.Commit r d c ∷ history)) x || is_blank (chronicle setting (event.Commit r d c ∷ history)) x)
      && same_number (given_in (chronicle setting (event.Commit r d c ∷ history)) x)
      (staged_epoch (seen_of (chronicle setting (event.Commit r d c ∷ history))))) ≡ true
  other_enters x apart known member =
      let s : Step = next_step setting (chronicle setting history) (event.Commit r d c) in
      let left = others setting r d c history fair clean x apart in
      let parts = prepared_parts (is_up (seen_of (chronicle setting history)) x) (was_given (seen_of (chronicle setting history)) x)
      (is_member (plan_now setting (chronicle setting history)) x) (joined_in_window (seen_of (chronicle setting history)) x)
      (asks.prepared x known member) in
      let stands : (is_old (chronicle setting history) x || is_blank (chronicle setting history) x) ≡ true =
      old_or_blank (is_up (seen_of (chronicle setting history)) x) (is_counted setting (seen_of (chronicle setting history)) x)
      (is_old (chronicle setting history) x) (is_new (chronicle setting history) x) (is_blank (chronicle setting history) x)
      parts.0 parts.2 (current x parts.0) (not_new setting history x clean.is.0 asks.first_one) in
      let own : GivenPast (chronicle setting history) x =
      given_so setting history (clean_before setting (event.Commit r d c) history clean) asks.first_one x parts.1 parts.0 in
      let gave : given_in (chronicle setting (event.Commit r d c ∷ history)) x ≡ Some (staged_epoch (seen_of (chronicle setting history))) =
      given_on s (chronicle setting history) x left ∙ answers_given setting history x parts.0 own in
      and_from _ _
      (ap (λ o. same_number o (era (chronicle setting (event.Commit r d c ∷ history))) || same_number o 0) (epoch_on s (chronicle setting history) x left)
      ∙ ap (λ k. same_number (epoch_in (chronicle setting history) x) k || is_blank (chronicle setting history) x) (era_kept s (chronicle setting history) shut)
      ∙ stands)
      (ap (λ o. same_number o (staged_epoch (seen_of (chronicle setting (event.Commit r d c ∷ history))))) gave
      ∙ eq-eqb (staged_epoch (seen_of (chronicle setting history))) (staged_epoch (seen_of (chronicle setting (event.Commit r d c ∷ history))))
      (sym (staged_epoch_on setting s (chronicle setting history) shut)))

  -- C9 b at a commit
  pub commit_enters : (x : ℕ) → member_enters setting (chronicle setting (event.Commit r d c ∷ history)) x ≡ true
  commit_enters x =
      gives (has_commit (seen_of (chronicle setting (event.Commit r d c ∷ history)))
      && will_belong setting (chronicle setting (event.Commit r d c ∷ history)) x) _ shown
    where
      shown : (has_commit (seen_of (chronicle setting (event.Commit r d c ∷ history)))
          && will_belong setting (chronicle setting (event.Commit r d c ∷ history)) x) ≡ true
          → (is_new (chronicle setting (event.Commit r d c ∷ history)) x
          || ((is_old (chronicle setting (event.Commit r d c ∷ history)) x || is_blank (chronicle setting (event.Commit r d c ∷ history)) x)
          && same_number (given_in (chronicle setting (event.Commit r d c ∷ history)) x)
          (staged_epoch (seen_of (chronicle setting (event.Commit r d c ∷ history)))))) ≡ true
      shown both =
          let wb = and_parts (nat_lt x (length setting.net.devices)) (is_staged_member setting (seen_of (chronicle setting (event.Commit r d c ∷ history))) x)
          (and_parts (has_commit (seen_of (chronicle setting (event.Commit r d c ∷ history)))) _ both).1 in
          let member : is_member (staged_plan setting (chronicle setting history)) x ≡ true =
          sym (ap (λ o. map_or o false (λ (plan : Plan). is_member plan x))
          (staged_on setting (next_step setting (chronicle setting history) (event.Commit r d c)) (chronicle setting history) shut refl
          ∙ staged_some setting (chronicle setting history) asks.opened)) ∙ wb.1 in
          by (nat_eq d x) refl (ltb-true x (length setting.net.devices) wb.0) member
        where
          by : (b : Bool) → nat_eq d x ≡ b → x < length setting.net.devices → is_member (staged_plan setting (chronicle setting history)) x ≡ true
              → (is_new (chronicle setting (event.Commit r d c ∷ history)) x
              || ((is_old (chronicle setting (event.Commit r d c ∷ history)) x || is_blank (chronicle setting (event.Commit r d c ∷ history)) x)
              && same_number (given_in (chronicle setting (event.Commit r d c ∷ history)) x)
              (staged_epoch (seen_of (chronicle setting (event.Commit r d c ∷ history)))))) ≡ true
          by true here known member =
              or_left _ _ (ap (is_new (chronicle setting (event.Commit r d c ∷ history))) (sym (eqb-true d x here))
              ∙ committer_new setting r d c history fair clean)
          by false apart known member = or_right _ _ (other_enters x apart known member)
