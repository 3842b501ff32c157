-- Straight ways: while the backup root hears over one of its two ways, nobody on that way, but for the root, has ever moved. So all that came
-- along it came over primary hops.
use Rattle.std.specs.Prelude.{◌≡◌, ℕ, Bool, true, false, ◌||◌, List, [], ◌∷◌, Some, is_some, refl}
use Rattle.std.proofs.Common.{sym, ◌∙◌, ap, subst, inl, inr}
use Rattle.std.proofs.lemmas.Bool.{or_parts, eqb-true, false_from_ne_true, both_ways}
use Rattle.sd_plan.specs.topo.Network.{Network}
use Rattle.sd_plan.specs.declared.topo.Thing.TheVariants as thing
use Rattle.sd_plan.specs.declared.domain.DomainId.{DomainId}
use Rattle.sd_plan.specs.declared.Hop.{Hop}
use Rattle.sd_plan.specs.declared.Plan.{Plan}
use Rattle.sd_plan.specs.Plans.{is_member, is_root, is_backup_root, primary_of, backup_of}
use Rattle.sd_plan.specs.Walks.{on_walk}
use Rattle.sd_plan.proofs.Forest.{on_within, on_member}
use Rattle.sd_device.specs.Calls.{Past}
use Rattle.sd_device.specs.Words.{has_moved, is_acting}
use Rattle.sd_sched.specs.declared.Event.{Event}
use Rattle.sd_sched.specs.Events.{started}
use Rattle.sd_history.specs.World.{Setting, fails, makes, is_up, was_made, has_ever_failed, alone}
use Rattle.sd_history.specs.Steps.{seen_of, act_by}
use Rattle.sd_history.specs.Chronicle.{past_in, next_step, chronicle}
use Rattle.sd_history.proofs.Known.{has_some, kept_past, makes_past}
use Rattle.sd_safety.specs.invariant.Eras.{moved}
use Rattle.sd_safety.proofs.timers.Pasts.{was_unmoved, was_not_acting}
use Rattle.sd_safety.specs.messages.Moments.{Tail, whole, behind}
use Rattle.sd_safety.proofs.messages.Tails.{rest_of}
use Rattle.sd_safety.proofs.frame.Timely.{up_if_made}
use Rattle.sd_bound.specs.Bound.{failures}
use Rattle.sd_bound.specs.Recovering.{steps_under}
use Rattle.sd_bound.proofs.histories.Plain.{IsPlain, tail_plain, plain_event}
use Rattle.sd_bound.proofs.histories.Lives.{PastBy, by_making, by_call, unchanged, past_by, made_by, called_by, called_stays_up, started_is_up, inside_of}
use Rattle.sd_bound.proofs.histories.Failures.{none_failed_before}
use Rattle.sd_bound.proofs.histories.Standing.{IsLive, Stands}
use Rattle.sd_bound.proofs.bases.Planned.{WellPlanned, LeadsRight, on_path, on_fallback}

-- nobody on the walk of x but the root has ever moved, and the backup root is on it only while nothing has failed
pub record IsStraight (net : Network) (plan : Plan) (history : List Event) (x : ℕ) : Type 0 where
  pub off : (y : ℕ) → on_walk net plan x y ≡ true → is_root plan y ≡ false → is_backup_root plan y ≡ true
      → failures (seen_of (steps_under net plan history)) ≡ []
  pub still : (y : ℕ) → on_walk net plan x y ≡ true → is_root plan y ≡ false → (past : Past) → past_in (steps_under net plan history) y ≡ Some past
      → has_moved past ≡ false

-- who was made has a past
made_has_past : (setting : Setting) (history : List Event) (d : ℕ) → was_made (seen_of (chronicle setting history)) d ≡ true
    → is_some (past_in (chronicle setting history) d) ≡ true
made_has_past setting [] d was = cc
made_has_past setting (e ∷ history) d was = go (makes d e) refl (made_has_past setting history d) was
  where
    go : (b : Bool) → makes d e ≡ b → (was_made (seen_of (chronicle setting history)) d ≡ true → is_some (past_in (chronicle setting history) d) ≡ true)
        → (b || was_made (seen_of (chronicle setting history)) d) ≡ true → is_some (past_in (chronicle setting (e ∷ history)) d) ≡ true
    go true is rest was' = makes_past setting (chronicle setting history) e d (past_in (chronicle setting history) d) is
    go false is rest was' = kept_past (act_by setting (chronicle setting history) e) d (past_in (chronicle setting history) d) (rest was')

-- a device that is down after an event was left as it was
left_down : (setting : Setting) (e : Event) (history : List Event) → IsPlain setting (e ∷ history) → (d : ℕ) (past : Past)
    → past_in (chronicle setting (e ∷ history)) d ≡ Some past
    → is_up (seen_of (chronicle setting (e ∷ history))) d ≡ false → past_in (chronicle setting history) d ≡ Some past
left_down setting e history plain d past there down =
    go (past_by (act_by setting (chronicle setting history) e) d (past_in (chronicle setting history) d) past there)
  where
    go : PastBy (act_by setting (chronicle setting history) e) d (past_in (chronicle setting history) d) past
        → past_in (chronicle setting history) d ≡ Some past
    go (by_making making act is) =
        let by = made_by setting (chronicle setting history) e d making (plain_event setting e history plain) act in
        absurd (both_ways (is_up (seen_of (chronicle setting (e ∷ history))) d) down (started_is_up setting history e d (ap started by.event_is)))
    go (by_call old call act was is) =
        absurd (both_ways (is_up (seen_of (chronicle setting (e ∷ history))) d) down
        (called_stays_up setting history e d call plain.is.1
        (called_by setting (chronicle setting history) e d call (plain_event setting e history plain) act)))
    go (unchanged was) = was

-- what never failed had not failed before
sound_before : (setting : Setting) {older history : List Event} → Tail older history → (d : ℕ) → has_ever_failed (seen_of (chronicle setting history)) d ≡ false
    → has_ever_failed (seen_of (chronicle setting older)) d ≡ false
sound_before setting whole d sound = sound
sound_before setting (behind {x = e} {xs = history} t) d sound =
    sound_before setting t d (or_parts (fails (thing.Device d) e) (has_ever_failed (seen_of (chronicle setting history)) d) sound).1

module _ (net : Network) (plan : Plan) (f : DomainId) (well : WellPlanned net plan) (history : List Event) (plain : IsPlain (alone net plan) history)
    (stands : (part : List Event) → Tail part history → Stands net plan f part)
    (past : Past) (up : is_up (seen_of (steps_under net plan history)) plan.backup_root ≡ true)
    (there : past_in (steps_under net plan history) plan.backup_root ≡ Some past) where
  not_backup_root : (hop : Hop) → on_walk net plan hop.parent plan.backup_root ≡ false → (y : ℕ) → on_walk net plan hop.parent y ≡ true
      → is_backup_root plan y ≡ false
  not_backup_root hop off y on =
      false_from_ne_true (is_backup_root plan y)
      (λ is. both_ways (on_walk net plan hop.parent plan.backup_root) off
      (subst (λ z. on_walk net plan hop.parent z ≡ true) (sym (eqb-true plan.backup_root y is)) on))

  -- On its primary

  module _ (unmoved : has_moved past ≡ false) (idle : is_acting past ≡ false) (hop : Hop) (primary : primary_of plan plan.backup_root ≡ Some hop) (y : ℕ)
      (on : on_walk net plan hop.parent y ≡ true) (other : is_root plan y ≡ false) where
    leads : LeadsRight net plan plan.backup_root hop
    leads = well.leads plan.backup_root hop well.backup_within (inl primary)

    member : is_member plan y ≡ true
    member = on_member net plan well.forest y hop.parent leads.within leads.member on

    -- while it was up, or not started yet, nobody above it had moved
    then_still : (part : List Event) → Tail part history → is_up (seen_of (steps_under net plan part)) y ≡ true → moved (steps_under net plan part) y ≡ false
    then_still part t up_y = go (was_made (seen_of (steps_under net plan part)) plan.backup_root) refl
      where
        sound : has_ever_failed (seen_of (steps_under net plan part)) plan.backup_root ≡ false
        sound = sound_before (alone net plan) t plan.backup_root ((stands history whole).sound plan.backup_root well.backup_member up)

        by_past : (old : Past) → past_in (steps_under net plan part) plan.backup_root ≡ Some old
            → is_up (seen_of (steps_under net plan part)) plan.backup_root ≡ true → moved (steps_under net plan part) y ≡ false
        by_past old was up_b =
            let inside = inside_of (alone net plan) t plain plan.backup_root old past was there in
            (stands part t).path old well.backup_member up_b was (was_unmoved old past inside unmoved) (was_not_acting old past inside idle) y member
            (on_path net plan well hop primary y on) other up_y

        go : (b : Bool) → was_made (seen_of (steps_under net plan part)) plan.backup_root ≡ b → moved (steps_under net plan part) y ≡ false
        go true made =
            let some = has_some (past_in (steps_under net plan part) plan.backup_root) (made_has_past (alone net plan) part plan.backup_root made) in
            by_past some.0 some.1 (up_if_made (seen_of (steps_under net plan part)) plan.backup_root made sound)
        go false unmade = (stands part t).beginning well.backup_member well.backup_within unmade sound y

    never_moved : (part : List Event) → Tail part history → (q : Past) → past_in (steps_under net plan part) y ≡ Some q → has_moved q ≡ false
    never_moved [] t q was = cc
    never_moved (e ∷ part) t q was = go (is_up (seen_of (steps_under net plan (e ∷ part))) y) refl (never_moved part (rest_of t))
      where
        go : (b : Bool) → is_up (seen_of (steps_under net plan (e ∷ part))) y ≡ b
            → ((p : Past) → past_in (steps_under net plan part) y ≡ Some p → has_moved p ≡ false) → has_moved q ≡ false
        go true up_y rest = sym ((stands (e ∷ part) t).live y q member up_y was).moved_is ∙ then_still (e ∷ part) t up_y
        go false down rest = rest q (left_down (alone net plan) e part (tail_plain (alone net plan) t plain) y q was down)

  pub path_straight : has_moved past ≡ false → is_acting past ≡ false → (hop : Hop) → primary_of plan plan.backup_root ≡ Some hop
      → IsStraight net plan history hop.parent
  path_straight unmoved idle hop primary =
      record {
        off = λ y on other is. absurd (both_ways (is_backup_root plan y) (not_backup_root hop (well.not_on_path hop primary) y on) is);
        still = λ y on other q was. never_moved unmoved idle hop primary y on other history whole q was;
      }

  -- On its backup

  pub fallback_straight : has_moved past ≡ true → is_acting past ≡ false → (hop : Hop) → backup_of plan plan.backup_root ≡ Some hop
      → IsStraight net plan history hop.parent
  fallback_straight moved_ idle hop backup =
      record {
        off = λ y on other is. absurd (both_ways (is_backup_root plan y) (not_backup_root hop (well.not_on_fallback hop backup) y on) is);
        still = still;
      }
    where
      lives : IsLive net plan history plan.backup_root past
      lives = (stands history whole).live plan.backup_root past well.backup_member up there

      leads_ : LeadsRight net plan plan.backup_root hop
      leads_ = well.leads plan.backup_root hop well.backup_within (inr backup)

      still : (y : ℕ) → on_walk net plan hop.parent y ≡ true → is_root plan y ≡ false → (q : Past) → past_in (steps_under net plan history) y ≡ Some q
          → has_moved q ≡ false
      still y on other q was =
          let member_y = on_member net plan well.forest y hop.parent leads_.within leads_.member on in
          let within_y = on_within net plan well.forest y hop.parent leads_.within on in
          let both = (stands history whole).fallback well.backup_member up (lives.moved_is ∙ moved_) (lives.acts_is ∙ idle) y member_y within_y
          (on_fallback net plan hop backup y on other) in
          sym ((stands history whole).live y q member_y both.0 was).moved_is ∙ both.1

-- a straight way was straight before
pub straight_before : (net : Network) (plan : Plan) (e : Event) (history : List Event) → IsPlain (alone net plan) (e ∷ history) → (x : ℕ)
    → IsStraight net plan (e ∷ history) x → IsStraight net plan history x
straight_before net plan e history plain x straight =
    record {
      off = λ y on other is. (none_failed_before (next_step (alone net plan) (steps_under net plan history) e).seen (seen_of (steps_under net plan history))
          (straight.off y on other is)).1;
      still = λ y on other q was.
          (let some = has_some (past_in (steps_under net plan (e ∷ history)) y)
          (kept_past (act_by (alone net plan) (steps_under net plan history) e) y (past_in (steps_under net plan history) y) (ap is_some was)) in
          was_unmoved q some.0 (inside_of (alone net plan) (behind whole) plain y q some.0 was some.1) (straight.still y on other some.0 some.1));
    }
