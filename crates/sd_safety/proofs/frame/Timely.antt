-- What the passing of time asks for, at an event after which the state is alike: C0 holds in every steady history; members that have not started by
-- r0 + Q failed, by the tick premise of the event itself; and C9 g stays, since by then none is untouched.
use Rattle.std.specs.Prelude.{◌≡◌, ℕ, ◌+◌, ◌≤◌, Bool, true, false, ◌&&◌, ◌||◌, not, List, [], ◌∷◌, length, cond, count_by, filter_map, nat_eq, nat_le, nat_lt, Option, Some, None, refl, if◌then◌else◌, ◌⊎◌}
use Rattle.std.specs.List.{list_any, cons_option}
use Rattle.std.proofs.Common.{arith, ◌∙◌, ap, sym, inl, inr}
use Rattle.std.proofs.lemmas.Bool.{and_parts, and_from, or_right, leb-true, leb-false, le-leb, ltb-true, eqb-true}
use Rattle.std.proofs.lemmas.List.Sums.{sum_by-cons}
use Rattle.sd_num.specs.Lists.{map_or, leading}
use Rattle.sd_plan.specs.declared.topo.Thing.{Thing}
use Rattle.sd_plan.specs.declared.topo.Thing.TheVariants as thing
use Rattle.sd_plan.specs.domain.Things.{same_thing}
use Rattle.sd_plan.specs.Plans.{is_member}
use Rattle.sd_sched.specs.declared.Event.{Event}
use Rattle.sd_sched.specs.Events.{reference_of}
use Rattle.sd_history.specs.Things.{failure_of}
use Rattle.sd_history.specs.World.{Setting, Seen, makes, fails, is_up, was_made, has_ever_failed, is_untouched, latest_reference, epoch_in_force, plan_numbered}
use Rattle.sd_history.specs.Steps.{Step, seen_of}
use Rattle.sd_history.specs.Chronicle.{chronicle}
use Rattle.sd_history.specs.Premises.{failures_since_closing}
use Rattle.sd_history.proofs.Contained.{admitted_time_goes_on}
use Rattle.sd_safety.specs.invariant.Eras.{era, plan_now, belongs, all_started, is_among, device_failed_now}
use Rattle.sd_safety.specs.invariant.Clauses.{is_beginning, was_touched, member_is_up}
use Rattle.sd_safety.specs.invariant.Guarded.{AreGuarded, IsSteady}
use Rattle.sd_safety.proofs.waits.LeastWaits.{Late, timely_of}
use Rattle.sd_safety.proofs.waits.Beginning.{touched}
use Rattle.sd_safety.proofs.frame.Words.{plan_same}
use Rattle.sd_safety.proofs.invariant.Empty.{begins_empty}
use Rattle.sd_safety.specs.invariant.Invariant.{Core}
use Rattle.sd_safety.proofs.invariant.Opening.{gives}

-- In the first era what failed is what ever failed.

more_than_one : (n : ℕ) → 1 + n + 1 ≡ 1 → ⊥
more_than_one n is = omega (arith, is)

shorter : (n : ℕ) → 0 + n + 1 ≡ 1 → n + 1 ≡ 1
shorter n is = omega (arith, is)

among_option : (x : Thing) (o : Option Thing) (xs : List Thing)
    → (map_or o false (same_thing x) || list_any (same_thing x) xs) ≡ list_any (same_thing x) (cons_option o xs)
among_option x None xs = refl
among_option x (Some y) xs = refl

pub failed_ever : (seen : List Seen) → epoch_in_force seen ≡ 1 → (d : ℕ) → has_ever_failed seen d ≡ is_among (failures_since_closing seen) (thing.Device d)
failed_ever [] first_ d = refl
failed_ever (s ∷ seen) first_ d = go s.closed refl (sym (ap (λ n. n + 1) (sum_by-cons (λ (x : Seen). cond x.closed 1 0) s seen)) ∙ first_) (failed_ever seen)
  where
    go : (b : Bool) → s.closed ≡ b → cond s.closed 1 0 + count_by (λ (x : Seen). x.closed) seen + 1 ≡ 1
        → (epoch_in_force seen ≡ 1 → (x : ℕ) → has_ever_failed seen x ≡ is_among (failures_since_closing seen) (thing.Device x))
        → has_ever_failed (s ∷ seen) d ≡ is_among (failures_since_closing (s ∷ seen)) (thing.Device d)
    go true is one rest =
        absurd (more_than_one (count_by (λ (x : Seen). x.closed) seen) (sym (ap (λ b. cond b 1 0 + count_by (λ (x : Seen). x.closed) seen + 1) is) ∙ one))
    go false is one rest =
        let before : epoch_in_force seen ≡ 1 =
        shorter (count_by (λ (x : Seen). x.closed) seen) (sym (ap (λ b. cond b 1 0 + count_by (λ (x : Seen). x.closed) seen + 1) is) ∙ one) in
        let failures : failures_since_closing (s ∷ seen) ≡ cons_option (failure_of s.event) (failures_since_closing seen) =
        ap (λ b. filter_map (λ (x : Seen). failure_of x.event) (if not b then s ∷ leading (λ x. not x.closed) seen else [])) is in
        ap (λ b. map_or (failure_of s.event) false (same_thing (thing.Device d)) || b) (rest before d)
        ∙ among_option (thing.Device d) (failure_of s.event) (failures_since_closing seen)
        ∙ sym (ap (λ xs. is_among xs (thing.Device d)) failures)

-- who was made and never failed is up
pub up_if_made : (seen : List Seen) (d : ℕ) → was_made seen d ≡ true → has_ever_failed seen d ≡ false → is_up seen d ≡ true
up_if_made [] d made failed = cc
up_if_made (s ∷ seen) d made failed = go (makes d s.event) (fails (thing.Device d) s.event) (up_if_made seen d) made failed
  where
    go : (m f : Bool) → (was_made seen d ≡ true → has_ever_failed seen d ≡ false → is_up seen d ≡ true) → (m || was_made seen d) ≡ true
        → (f || has_ever_failed seen d) ≡ false
        → map_or (if m then Some true else if f then Some false else None) (is_up seen d) (λ told. told) ≡ true
    go true f rest made' failed' = refl
    go false true rest made' failed' = cc
    go false false rest made' failed' = rest made' failed'

-- who is not untouched, and never failed, was made
made_if : (m f : Bool) → (not m && not f) ≡ false → f ≡ false → m ≡ true
made_if true f touched_ none = refl
made_if false true touched_ none = cc
made_if false false touched_ none = cc

-- At an event after which the state is alike.

-- while members may start they might have started before
pub begins_before : (setting : Setting) (e : Event) (history : List Event) → IsSteady setting (e ∷ history)
    → era (chronicle setting (e ∷ history)) ≡ era (chronicle setting history)
    → is_beginning setting (chronicle setting (e ∷ history)) ≡ true → is_beginning setting (chronicle setting history) ≡ true
begins_before setting e [] clean eras begins = begins_empty setting
begins_before setting e (x ∷ history) clean eras begins =
    let steps = chronicle setting (x ∷ history) in
    let parts = and_parts (nat_eq (era (chronicle setting (e ∷ x ∷ history))) 1) (nat_le (reference_of e) (all_started setting steps)) begins in
    and_from (nat_eq (era steps) 1) (nat_le (latest_reference (seen_of steps)) (all_started setting steps))
    (sym (ap (λ n. nat_eq n 1) eras) ∙ parts.0)
    (le-leb (latest_reference (seen_of steps)) (all_started setting steps)
    (shorten (reference_of e) (latest_reference (seen_of steps)) (all_started setting steps) (leb-true (reference_of e) (all_started setting steps) parts.1)
    (admitted_time_goes_on setting steps e clean.is.1)))
  where
    shorten : (a b l : ℕ) → a ≤ l → b ≤ a → b ≤ l
    shorten a b l p q = omega (arith, p, q)

-- when it is over in the first era it is late
pub late_after : (setting : Setting) (steps : List Step) → is_beginning setting steps ≡ false → era steps ≡ 1 → Late setting (seen_of steps)
late_after setting steps over one =
    leb-false (latest_reference (seen_of steps)) (all_started setting steps)
    (sym (ap (λ n. nat_eq n 1 && nat_le (latest_reference (seen_of steps)) (all_started setting steps)) one) ∙ over)

pub first_era : (setting : Setting) (steps : List Step) → is_beginning setting steps ≡ true → era steps ≡ 1
first_era setting steps begins =
    eqb-true (era steps) 1 (and_parts (nat_eq (era steps) 1) (nat_le (latest_reference (seen_of steps)) (all_started setting steps)) begins).0

-- when it is over a member of the plan in force is no longer untouched, in the first era
pub touched_late : (setting : Setting) (history : List Event) → AreGuarded setting → IsSteady setting history
    → is_beginning setting (chronicle setting history) ≡ false → era (chronicle setting history) ≡ 1
    → (d : ℕ) → belongs setting.net (plan_now setting (chronicle setting history)) d ≡ true → is_untouched (seen_of (chronicle setting history)) d ≡ false
touched_late setting history fair clean over one d member =
    let parts = and_parts (nat_lt d (length setting.net.devices)) (is_member (plan_now setting (chronicle setting history)) d) member in
    touched setting history (timely_of setting history fair clean) d (ltb-true d (length setting.net.devices) parts.0)
    (sym (ap (λ n. is_member (plan_numbered setting n) d) one) ∙ parts.1)
    (late_after setting (chronicle setting history) over one)

-- and is up, where it did not fail in the era
pub up_late : (setting : Setting) (history : List Event) → AreGuarded setting → IsSteady setting history → is_beginning setting (chronicle setting history) ≡ false
    → era (chronicle setting history) ≡ 1
    → (d : ℕ) → belongs setting.net (plan_now setting (chronicle setting history)) d ≡ true → device_failed_now (chronicle setting history) d ≡ false
    → is_up (seen_of (chronicle setting history)) d ≡ true
up_late setting history fair clean over one d member unfailed =
    let seen = seen_of (chronicle setting history) in
    let never : has_ever_failed seen d ≡ false = failed_ever seen one d ∙ unfailed in
    up_if_made seen d (made_if (was_made seen d) (has_ever_failed seen d) (touched_late setting history fair clean over one d member) never) never

module _ (setting : Setting) (e : Event) (history : List Event) (fair : AreGuarded setting) (clean : IsSteady setting (e ∷ history))
    (core : Core setting (chronicle setting history))
    (eras : era (chronicle setting (e ∷ history)) ≡ era (chronicle setting history)) where
  -- C0: members are touched when the beginning is over
  module _ (d : ℕ) (untouched : is_untouched (seen_of (chronicle setting (e ∷ history))) d ≡ false
      ⊎ (is_untouched (seen_of (chronicle setting (e ∷ history))) d ≡ is_untouched (seen_of (chronicle setting history)) d)) where
    pub touched_now : was_touched setting (chronicle setting (e ∷ history)) d ≡ true
    touched_now = by_time (is_beginning setting two) (is_beginning setting one) refl refl
      where
        one : List Step
        one = chronicle setting history

        two : List Step
        two = chronicle setting (e ∷ history)

        touches_it : (a b : Bool) → b ≡ false → (not a || not b) ≡ true
        touches_it true b isnt = ap not isnt
        touches_it false b isnt = refl

        by_time : (b2 b1 : Bool) → is_beginning setting two ≡ b2 → is_beginning setting one ≡ b1 → was_touched setting two d ≡ true
        by_time true b1 is2 is1 = ap (λ b. not (not b && belongs setting.net (plan_now setting two) d) || not (is_untouched (seen_of two) d)) is2
        by_time false true is2 is1 =
            gives (not (is_beginning setting two) && belongs setting.net (plan_now setting two) d) (not (is_untouched (seen_of two) d))
            (λ both. ap not
            (touched_late setting (e ∷ history) fair clean is2 (eras ∙ first_era setting one is1) d
            (and_parts (not (is_beginning setting two)) (belongs setting.net (plan_now setting two) d) both).1))
        by_time false false is2 is1 = by_touch untouched
          where
            by_touch : is_untouched (seen_of two) d ≡ false ⊎ (is_untouched (seen_of two) d ≡ is_untouched (seen_of one) d) → was_touched setting two d ≡ true
            by_touch (inl isnt) =
                touches_it (not (is_beginning setting two) && belongs setting.net (plan_now setting two) d) (is_untouched (seen_of two) d) isnt
            by_touch (inr same) =
                ap (λ b. not (not b && belongs setting.net (plan_now setting two) d) || not (is_untouched (seen_of two) d)) (is2 ∙ sym is1)
                ∙ ap (λ plan. not (not (is_beginning setting one) && belongs setting.net plan d) || not (is_untouched (seen_of two) d))
                (plan_same setting one two eras)
                ∙ ap (λ b. not (not (is_beginning setting one) && belongs setting.net (plan_now setting one) d) || not b) same ∙ core.calm.touched d

  -- C1: and up, where they did not fail in the era
  module _ (d : ℕ) (failures : device_failed_now (chronicle setting (e ∷ history)) d ≡ device_failed_now (chronicle setting history) d)
      (ups : is_up (seen_of (chronicle setting (e ∷ history))) d ≡ true
      ⊎ (is_up (seen_of (chronicle setting (e ∷ history))) d ≡ is_up (seen_of (chronicle setting history)) d)) where
    pub member_up_now : member_is_up setting (chronicle setting (e ∷ history)) d ≡ true
    member_up_now = by_time (is_beginning setting two) (is_beginning setting one) refl refl
      where
        one : List Step
        one = chronicle setting history

        two : List Step
        two = chronicle setting (e ∷ history)

        by_time : (b2 b1 : Bool) → is_beginning setting two ≡ b2 → is_beginning setting one ≡ b1 → member_is_up setting two d ≡ true
        by_time true b1 is2 is1 =
            ap (λ b. not (not b && belongs setting.net (plan_now setting two) d && not (device_failed_now two d)) || is_up (seen_of two) d) is2
        by_time false true is2 is1 =
            gives (not (is_beginning setting two) && belongs setting.net (plan_now setting two) d && not (device_failed_now two d))
            (is_up (seen_of two) d)
            (λ all.
            let parts = and_parts (not (is_beginning setting two) && belongs setting.net (plan_now setting two) d) (not (device_failed_now two d)) all in
            up_late setting (e ∷ history) fair clean is2 (eras ∙ first_era setting one is1) d
            (and_parts (not (is_beginning setting two)) (belongs setting.net (plan_now setting two) d) parts.0).1
            (from_not (device_failed_now two d) parts.1))
          where
            from_not : (b : Bool) → not b ≡ true → b ≡ false
            from_not true h = cc
            from_not false h = refl
        by_time false false is2 is1 = by_up ups
          where
            by_up : is_up (seen_of two) d ≡ true ⊎ (is_up (seen_of two) d ≡ is_up (seen_of one) d) → member_is_up setting two d ≡ true
            by_up (inl up) =
                or_right (not (not (is_beginning setting two) && belongs setting.net (plan_now setting two) d && not (device_failed_now two d)))
                (is_up (seen_of two) d) up
            by_up (inr same) =
                ap (λ b. not (not b && belongs setting.net (plan_now setting two) d && not (device_failed_now two d)) || is_up (seen_of two) d) (is2 ∙ sym is1)
                ∙ ap (λ plan. not (not (is_beginning setting one) && belongs setting.net plan d && not (device_failed_now two d)) || is_up (seen_of two) d)
                (plan_same setting one two eras)
                ∙ ap (λ b. not (not (is_beginning setting one) && belongs setting.net (plan_now setting one) d && not b) || is_up (seen_of two) d) failures
                ∙ ap (λ b. not (not (is_beginning setting one) && belongs setting.net (plan_now setting one) d && not (device_failed_now one d)) || b) same
                ∙ core.census.members_up d
