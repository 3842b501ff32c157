-- No device is late exactly where none owes a tick since a reference that is too early.
use Rattle.std.proofs.Common.{◌≡◌, ℕ, zero, suc, ◌+◌, ◌-◌, ◌^◌, ◌<◌, ◌≤◌, Bool, true, false, not, ◌&&◌, ◌||◌, cond, List, [], ◌∷◌, length, get_or, nat_le, Some, None, inl, inr, refl, sym, ap, ◌∙◌, subst, arith}
use Rattle.std.specs.Prelude.{filter, unwrap_or}
use Rattle.std.specs.List.{list_all}
use Rattle.std.proofs.lemmas.Bool.{and_parts, and_from, leb-true, le-leb, not-true, both_ways, cases_lt}
use Rattle.std.proofs.lemmas.Bool.Decides.{same_from_decides}
use Rattle.std.proofs.lemmas.List.{get_or_default}
use Rattle.std.proofs.lemmas.List.Folds.{list_all-append}
use Rattle.std.proofs.lemmas.List.Sums.{AllPass-from_list_all, list_all-from_AllPass}
use Rattle.sd_history.proofs.Shared.{up_made}
use Rattle.sd_num.specs.Lists.{below}
use Rattle.sd_num.proofs.Shared.{all_below}
use Rattle.sd_plan.specs.topo.Network.{device_numbers}
use Rattle.sd_plan.specs.Plans.{is_member, members}
use Rattle.sd_sched.specs.Events.{reference_of}
use Rattle.sd_history.specs.World.{Setting, Seen, is_up, was_made, has_ever_failed, is_untouched, plan_numbered}
use Rattle.sd_history.specs.Premises.{latest_tick, is_current_member, first_reference, ticks_in_time}
use Rattle.sd_monitors.specs.clocks.Owing.{is_awaited, first_of, owed_at}
use Rattle.sd_monitors.specs.clocks.Tickings.{AreOwed}

-- Lists

pub each_below : (test : ℕ → Bool) (n : ℕ) → list_all test (below n) ≡ true → (d : ℕ) → d < n → test d ≡ true
each_below test zero all d within = absurd (omega arith)
each_below test (suc n) all d within =
    let parts = and_parts (list_all test (below n)) (test n && true) (sym (list_all-append test (below n) (n ∷ [])) ∙ all) in
    elim (cases_lt d n) [
      | inl less ↦ each_below test n parts.0 d less
      | inr most ↦ (let same : n ≡ d = omega arith in subst (λ (k : ℕ). test k ≡ true) same (and_parts (test n) true parts.1).0)
    ]

pub all_filter : (test keep : ℕ → Bool) (xs : List ℕ) → list_all test (filter keep xs) ≡ list_all (λ x. not (keep x) || test x) xs
all_filter test keep [] = refl
all_filter test keep (x ∷ xs) = by (keep x) (all_filter test keep xs)
  where
    by : (b : Bool) → list_all test (filter keep xs) ≡ list_all (λ x. not (keep x) || test x) xs
        → list_all test (cond b (x ∷ filter keep xs) (filter keep xs)) ≡ ((not b || test x) && list_all (λ x. not (keep x) || test x) xs)
    by true rest = ap (λ (b : Bool). test x && b) rest
    by false rest = rest

-- A device that is up was made

pub untouched_down : (seen : List Seen) (d : ℕ) → is_untouched seen d ≡ true → is_up seen d ≡ false
untouched_down seen d untouched = by (is_up seen d) refl
  where
    by : (b : Bool) → is_up seen d ≡ b → b ≡ false
    by true up =
        absurd (both_ways (was_made seen d) (not-true (was_made seen d) (and_parts (not (was_made seen d)) (not (has_ever_failed seen d)) untouched).0)
        (up_made seen d up))
    by false down = refl

-- What a device owes, case by case

abbrev ticks_on : Setting → List Seen → ℕ → Bool
ticks_on setting seen d = is_up seen d && is_current_member setting seen d

owed_tick : (setting : Setting) (seen : List Seen) (d : ℕ) → ticks_on setting seen d ≡ true → owed_at setting seen d ≡ latest_tick seen d
owed_tick setting seen d ticks =
    ap (λ (b : Bool). unwrap_or (cond b (Some (latest_tick seen d)) (cond (is_awaited setting seen d) (first_of seen) None)) (2 ^ 64 - 1)) ticks

owed_start : (setting : Setting) (seen : List Seen) (d : ℕ) → ticks_on setting seen d ≡ false → is_awaited setting seen d ≡ true
    → owed_at setting seen d ≡ unwrap_or (first_of seen) (2 ^ 64 - 1)
owed_start setting seen d ticks awaited =
    ap (λ (b : Bool). unwrap_or (cond b (Some (latest_tick seen d)) (cond (is_awaited setting seen d) (first_of seen) None)) (2 ^ 64 - 1)) ticks
    ∙ ap (λ (b : Bool). unwrap_or (cond b (first_of seen) None) (2 ^ 64 - 1)) awaited

owed_never : (setting : Setting) (seen : List Seen) (d : ℕ) → ticks_on setting seen d ≡ false → is_awaited setting seen d ≡ false
    → owed_at setting seen d ≡ 2 ^ 64 - 1
owed_never setting seen d ticks awaited =
    ap (λ (b : Bool). unwrap_or (cond b (Some (latest_tick seen d)) (cond (is_awaited setting seen d) (first_of seen) None)) (2 ^ 64 - 1)) ticks
    ∙ ap (λ (b : Bool). unwrap_or (cond b (first_of seen) None) (2 ^ 64 - 1)) awaited

-- One device

-- the two tests of the premise at the event
abbrev tick_test : Setting → Seen → List Seen → ℕ → Bool
tick_test setting s earlier d = not (ticks_on setting earlier d) || nat_le (reference_of s.event) (latest_tick earlier d + setting.net.params.tick)

abbrev start_test : Setting → Seen → List Seen → ℕ → Bool
start_test setting s earlier d = not (is_untouched earlier d) || nat_le (reference_of s.event) (first_reference earlier s + setting.net.params.tick)

tick_in_time : (setting : Setting) (s : Seen) (earlier : List Seen) (d : ℕ) → reference_of s.event - setting.net.params.tick ≤ owed_at setting earlier d
    → tick_test setting s earlier d ≡ true
tick_in_time setting s earlier d in_time = by (ticks_on setting earlier d) refl
  where
    by : (b : Bool) → ticks_on setting earlier d ≡ b → (not b || nat_le (reference_of s.event) (latest_tick earlier d + setting.net.params.tick)) ≡ true
    by true ticks =
        let at : owed_at setting earlier d ≡ latest_tick earlier d = owed_tick setting earlier d ticks in
        le-leb (reference_of s.event) (latest_tick earlier d + setting.net.params.tick) (omega arith)
    by false ticks = refl

start_in_time : (setting : Setting) (s : Seen) (earlier : List Seen) (d : ℕ) → reference_of s.event - setting.net.params.tick ≤ owed_at setting earlier d
    → is_member (plan_numbered setting 1) d ≡ true → start_test setting s earlier d ≡ true
start_in_time setting s earlier d in_time member = by (is_untouched earlier d) refl
  where
    first : (earlier : List Seen) → reference_of s.event - setting.net.params.tick ≤ unwrap_or (first_of earlier) (2 ^ 64 - 1)
        → nat_le (reference_of s.event) (first_reference earlier s + setting.net.params.tick) ≡ true
    first [] in_time = le-leb (reference_of s.event) (reference_of s.event + setting.net.params.tick) (omega arith)
    first (x ∷ earlier) in_time = le-leb (reference_of s.event) (first_reference earlier x + setting.net.params.tick) (omega arith)

    by : (b : Bool) → is_untouched earlier d ≡ b → (not b || nat_le (reference_of s.event) (first_reference earlier s + setting.net.params.tick)) ≡ true
    by true untouched =
        let off : ticks_on setting earlier d ≡ false = ap (λ (b : Bool). b && is_current_member setting earlier d) (untouched_down earlier d untouched) in
        let awaited : is_awaited setting earlier d ≡ true = and_from (is_untouched earlier d) (is_member (plan_numbered setting 1) d) untouched member in
        first earlier (subst (λ (n : ℕ). reference_of s.event - setting.net.params.tick ≤ n) (owed_start setting earlier d off awaited) in_time)
    by false untouched = refl

both_in_time : (setting : Setting) (s : Seen) (earlier : List Seen) (d : ℕ) → reference_of s.event < 2 ^ 64 → tick_test setting s earlier d ≡ true
    → (is_member (plan_numbered setting 1) d ≡ true → start_test setting s earlier d ≡ true)
    → reference_of s.event - setting.net.params.tick ≤ owed_at setting earlier d
both_in_time setting s earlier d small ticked started = by (ticks_on setting earlier d) (is_awaited setting earlier d) refl refl
  where
    first : (earlier : List Seen) → nat_le (reference_of s.event) (first_reference earlier s + setting.net.params.tick) ≡ true
        → reference_of s.event - setting.net.params.tick ≤ unwrap_or (first_of earlier) (2 ^ 64 - 1)
    first [] in_time = omega (arith, small)
    first (x ∷ earlier) in_time = omega (arith, leb-true (reference_of s.event) (first_reference earlier x + setting.net.params.tick) in_time)

    by : (ticks awaited : Bool) → ticks_on setting earlier d ≡ ticks → is_awaited setting earlier d ≡ awaited
        → reference_of s.event - setting.net.params.tick ≤ owed_at setting earlier d
    by true awaited on waits =
        let test : nat_le (reference_of s.event) (latest_tick earlier d + setting.net.params.tick) ≡ true =
        sym (ap (λ (b : Bool). not b || nat_le (reference_of s.event) (latest_tick earlier d + setting.net.params.tick)) on) ∙ ticked in
        omega (arith, owed_tick setting earlier d on, leb-true (reference_of s.event) (latest_tick earlier d + setting.net.params.tick) test)
    by false true off waits =
        let parts = and_parts (is_untouched earlier d) (is_member (plan_numbered setting 1) d) waits in
        let test : nat_le (reference_of s.event) (first_reference earlier s + setting.net.params.tick) ≡ true =
        sym (ap (λ (b : Bool). not b || nat_le (reference_of s.event) (first_reference earlier s + setting.net.params.tick)) parts.0) ∙ started parts.1 in
        subst (λ (n : ℕ). reference_of s.event - setting.net.params.tick ≤ n) (sym (owed_start setting earlier d off waits)) (first earlier test)
    by false false off waits = omega (arith, owed_never setting earlier d off waits, small)

-- All devices

-- the event comes in time for each
abbrev InTime : Setting → Seen → List Seen → Type 0
InTime setting s earlier = (d : ℕ) → d < length setting.net.devices → reference_of s.event - setting.net.params.tick ≤ owed_at setting earlier d

holds_in_time : (setting : Setting) (s : Seen) (earlier : List Seen) → InTime setting s earlier → ticks_in_time setting s earlier ≡ true
holds_in_time setting s earlier in_time =
    and_from (list_all (tick_test setting s earlier) (device_numbers setting.net))
    (list_all (start_test setting s earlier) (members setting.net (plan_numbered setting 1)))
    (all_below (tick_test setting s earlier) (length setting.net.devices) (λ d within. tick_in_time setting s earlier d (in_time d within)))
    (all_filter (start_test setting s earlier) (is_member (plan_numbered setting 1)) (device_numbers setting.net)
    ∙ all_below (λ d. not (is_member (plan_numbered setting 1) d) || start_test setting s earlier d) (length setting.net.devices)
    (λ d within. one d (in_time d within)))
  where
    one : (d : ℕ) → reference_of s.event - setting.net.params.tick ≤ owed_at setting earlier d
        → (not (is_member (plan_numbered setting 1) d) || start_test setting s earlier d) ≡ true
    one d in_time = by (is_member (plan_numbered setting 1) d) refl
      where
        by : (b : Bool) → is_member (plan_numbered setting 1) d ≡ b → (not b || start_test setting s earlier d) ≡ true
        by true member = start_in_time setting s earlier d in_time member
        by false member = refl

in_time_holds : (setting : Setting) (s : Seen) (earlier : List Seen) → reference_of s.event < 2 ^ 64 → ticks_in_time setting s earlier ≡ true
    → InTime setting s earlier
in_time_holds setting s earlier small holds d within =
    let parts = and_parts (list_all (tick_test setting s earlier) (device_numbers setting.net))
    (list_all (start_test setting s earlier) (members setting.net (plan_numbered setting 1))) holds in
    let start : (not (is_member (plan_numbered setting 1) d) || start_test setting s earlier d) ≡ true =
    each_below (λ d. not (is_member (plan_numbered setting 1) d) || start_test setting s earlier d) (length setting.net.devices)
    (sym (all_filter (start_test setting s earlier) (is_member (plan_numbered setting 1)) (device_numbers setting.net)) ∙ parts.1) d within in
    both_in_time setting s earlier d small (each_below (tick_test setting s earlier) (length setting.net.devices) parts.0 d within)
    (λ member. sym (ap (λ (b : Bool). not b || start_test setting s earlier d) member) ∙ start)

-- so one look at all references since which devices owe a tick tells
pub all_tell : (setting : Setting) (s : Seen) (earlier : List Seen) (owed : List ℕ) → reference_of s.event < 2 ^ 64 → length owed ≡ length setting.net.devices
    → AreOwed setting earlier owed → list_all (nat_le (reference_of s.event - setting.net.params.tick)) owed ≡ ticks_in_time setting s earlier
all_tell setting s earlier owed small devices are =
    let due : ℕ = reference_of s.event - setting.net.params.tick in
    same_from_decides (list_all (nat_le due) owed) (ticks_in_time setting s earlier) (
      λ none. λ d inside.
          (let known : d < length owed = subst (λ (n : ℕ). d < n) (sym devices) inside in
          let bound = leb-true due (get_or owed d 0) (AllPass-from_list_all (nat_le due) owed none d 0 known) in
          let at = are d known in
          omega (arith, bound, at)),
      λ in_time. list_all-from_AllPass (nat_le due) owed (
          λ d other within.
          (let bound : due ≤ owed_at setting earlier d = in_time d (subst (λ (n : ℕ). d < n) devices within) in
          let at = are d within in
          le-leb due (get_or owed d other) (omega (arith, bound, at, get_or_default owed d other 0 within)))
          ),
    )
    (in_time_holds setting s earlier small, holds_in_time setting s earlier)
