-- Two acting roots are seen: where an onlooker counts two of them, the alarm was printed.
use Rattle.std.specs.Prelude.{◌≡◌, ℕ, ◌≤◌, Bool, true, false, ◌&&◌, List, [], ◌∷◌, ◌++◌, length, filter, nat_eq, nat_le, refl}
use Rattle.std.specs.List.{list_any}
use Rattle.std.proofs.Common.{sym, ap, ◌∙◌, arith, inl, inr}
use Rattle.std.proofs.lemmas.Bool.{or_cases, or_left, or_right, leb-true, eqb-true, eq-eqb, both_ways}
use Rattle.std.proofs.lemmas.List.Folds.{list_any-append}
use Rattle.sd_num.specs.Lists.{has, map_or}
use Rattle.sd_plan.specs.topo.Network.{Network, device_numbers}
use Rattle.sd_plan.specs.declared.Plan.{Plan}
use Rattle.sd_sched.specs.declared.Event.{Event}
use Rattle.sd_sched.specs.Events.{reference_of}
use Rattle.sd_history.specs.World.{Setting, is_counted, alone}
use Rattle.sd_history.specs.Steps.{Step, seen_of, acts_in}
use Rattle.sd_history.specs.Chronicle.{next_step, chronicle}
use Rattle.sd_history.specs.Premises.{breaks}
use Rattle.sd_history.specs.Lines.{first_on_loop, roots, broken_lines, loop_lines, root_lines, report_lines, asked_report, lines_of}
use Rattle.sd_beside.specs.needed.Roots.{is_roots_alarm, IsAlarmed, TwoRootsAreSeen}
use Rattle.sd_beside.proofs.needed.Taken.{has_roots}

-- Two that differ are at least two

some_one : (xs : List ℕ) (a : ℕ) → has xs a ≡ true → 1 ≤ length xs
some_one [] a there = cc
some_one (x ∷ xs) a there = omega arith

at_least_two : (xs : List ℕ) (a b : ℕ) → nat_eq a b ≡ false → has xs a ≡ true → has xs b ≡ true → 2 ≤ length xs
at_least_two [] a b apart one other = cc
at_least_two (x ∷ xs) a b apart one other =
    elim (or_cases (nat_eq a x) (has xs a) one) [
      | inl here ↦ elim (or_cases (nat_eq b x) (has xs b) other) [
        | inl same ↦ absurd (both_ways (nat_eq a b) apart (eq-eqb a b (eqb-true a x here ∙ sym (eqb-true b x same))))
        | inr more ↦ (let rest = some_one xs b more in omega (arith, rest))
      ]
      | inr more ↦ (let rest = some_one xs a more in omega (arith, rest))
    ]

-- The alarm

any_behind : {A : Type 0} (p : A → Bool) (xs ys : List A) → list_any p ys ≡ true → list_any p (xs ++ ys) ≡ true
any_behind p xs ys is = list_any-append p xs ys ∙ or_right (list_any p xs) (list_any p ys) is

any_before : {A : Type 0} (p : A → Bool) (xs ys : List A) → list_any p xs ≡ true → list_any p (xs ++ ys) ≡ true
any_before p xs ys is = list_any-append p xs ys ∙ or_left (list_any p xs) (list_any p ys) is

-- where there were fewer before
two_more : (before now : List ℕ) → 2 ≤ length now → nat_le 2 (length before) ≡ false → list_any is_roots_alarm (root_lines before now) ≡ true
two_more before [] two few = absurd (omega (arith, two))
two_more before (d ∷ []) two few = absurd (omega (arith, two))
two_more before (d ∷ e ∷ others) two few = rw few refl

none_kept : {A : Type 0} (p : A → Bool) (xs : List A) → ((x : A) → p x ≡ false) → filter p xs ≡ []
none_kept p [] none = refl
none_kept p (x ∷ xs) none = rw (none x) (none_kept p xs none)

-- at first there is none
no_roots : (setting : Setting) → roots setting [] ≡ []
no_roots setting = none_kept (λ d. is_counted setting (seen_of []) d && acts_in [] d) (device_numbers setting.net) (λ d. refl)

-- the line is printed
printed : (setting : Setting) (s : Step) (earlier : List Step)
    → list_any is_roots_alarm (root_lines (roots setting earlier) (roots setting (s ∷ earlier))) ≡ true
    → list_any is_roots_alarm (lines_of setting (s ∷ earlier)) ≡ true
printed setting s earlier comes =
    any_before is_roots_alarm
    (broken_lines (breaks setting (seen_of (s ∷ earlier)))
    ++ loop_lines (first_on_loop setting earlier) (first_on_loop setting (s ∷ earlier))
    ++ root_lines (roots setting earlier) (roots setting (s ∷ earlier)))
    (map_or (asked_report s) [] (report_lines (reference_of s.seen.event)))
    (any_behind is_roots_alarm
    (broken_lines (breaks setting (seen_of (s ∷ earlier))) ++ loop_lines (first_on_loop setting earlier) (first_on_loop setting (s ∷ earlier)))
    (root_lines (roots setting earlier) (roots setting (s ∷ earlier))) comes)

alarm_comes : (net : Network) (plan : Plan) (history : List Event) → 2 ≤ length (roots (alone net plan) (chronicle (alone net plan) history))
    → IsAlarmed net plan history
alarm_comes net plan [] two = (let none = ap length (no_roots (alone net plan)) in absurd (omega (arith, two, none)))
alarm_comes net plan (e ∷ earlier) two =
    by (nat_le 2 (length (roots (alone net plan) (chronicle (alone net plan) earlier)))) refl (alarm_comes net plan earlier)
  where
    by : (b : Bool) → nat_le 2 (length (roots (alone net plan) (chronicle (alone net plan) earlier))) ≡ b
        → (2 ≤ length (roots (alone net plan) (chronicle (alone net plan) earlier)) → IsAlarmed net plan earlier) → IsAlarmed net plan (e ∷ earlier)
    by true is before =
        let old : IsAlarmed net plan earlier = before (leb-true 2 (length (roots (alone net plan) (chronicle (alone net plan) earlier))) is) in
        record { latest = e ∷ old.latest; until = old.until; whole = ap (λ (es : List Event). e ∷ es) old.whole; alarm = old.alarm }
    by false is before =
        let comes = two_more (roots (alone net plan) (chronicle (alone net plan) earlier))
        (roots (alone net plan) (chronicle (alone net plan) (e ∷ earlier))) two is in
        record {
          latest = [];
          until = e ∷ earlier;
          whole = refl;
          alarm = printed (alone net plan) (next_step (alone net plan) (chronicle (alone net plan) earlier) e) (chronicle (alone net plan) earlier) comes;
        }

pub two_roots_are_seen : (net : Network) (plan : Plan) → TwoRootsAreSeen net plan
two_roots_are_seen net plan structured f makes =
    alarm_comes net plan makes.history
    (at_least_two (roots (alone net plan) (chronicle (alone net plan) makes.history)) plan.root plan.backup_root (has_roots net plan structured).apart
    makes.root makes.backup_root)
