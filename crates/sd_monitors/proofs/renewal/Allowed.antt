-- What an event that may be seen says of windows: where it may come, and that there is a plan for each.
use Rattle.std.proofs.Common.{◌≡◌, ℕ, ◌<◌, Bool, true, false, not, ◌&&◌, ◌||◌, List, ◌∷◌, length, nat_eq, nat_le, [], Option, Some, None, is_some, option_map, refl, sym, ap, ◌∙◌, subst}
use Rattle.std.specs.Prelude.{if◌then◌else◌}
use Rattle.std.proofs.lemmas.Bool.{or_parts, not-true, leb-false}
use Rattle.sd_history.proofs.Shared.{epoch_kept}
use Rattle.sd_num.specs.Lists.{map_or}
use Rattle.sd_sched.specs.declared.Event.{Event}
use Rattle.sd_sched.specs.Events.{device_of, joined, given, is_stage, is_commit, is_seal}
use Rattle.sd_history.specs.Things.{mended}
use Rattle.sd_history.specs.World.{Setting, Seen, window, window_is_open, has_commit, epoch_in_force, staged}
use Rattle.sd_history.specs.Refusals.{unknown_device, unknown_link, dead_device, dead_link, time_falls, counter_falls, not_started, started_twice, no_plan_left, past_preparing, window_order_seen, after_end, not_failed, not_member, too_many}
use Rattle.sd_history.specs.Open.{may_be_seen}
use Rattle.sd_monitors.proofs.clocks.Ticking.{window_kept}
use Rattle.sd_monitors.specs.renewal.Renewals.{IsPlanned}

-- three of fourteen causes that do not hold
three_of : (a b c d e f g h i j k l m n : Bool) → not (a || b || c || d || e || f || g || h || i || j || k || l || m || n) ≡ true
    → (i ≡ false) × (j ≡ false) × (n ≡ false)
three_of a b c d e f g h i j k l m n none =
    let at_n = or_parts (a || b || c || d || e || f || g || h || i || j || k || l || m) n
    (not-true (a || b || c || d || e || f || g || h || i || j || k || l || m || n) none) in
    let at_m = or_parts (a || b || c || d || e || f || g || h || i || j || k || l) m at_n.0 in
    let at_l = or_parts (a || b || c || d || e || f || g || h || i || j || k) l at_m.0 in
    let at_k = or_parts (a || b || c || d || e || f || g || h || i || j) k at_l.0 in
    let at_j = or_parts (a || b || c || d || e || f || g || h || i) j at_k.0 in
    ((or_parts (a || b || c || d || e || f || g || h) i at_j.0).1, at_j.1, at_n.1)

pub record IsAllowed (setting : Setting) (earlier : List Seen) (e : Event) : Type 0 where
  pub plan : no_plan_left setting earlier e ≡ false
  pub order : window_order_seen setting earlier e ≡ false
  pub few : too_many earlier ≡ false

pub is_allowed : (setting : Setting) (earlier : List Seen) (e : Event) → may_be_seen setting earlier e ≡ true → IsAllowed setting earlier e
is_allowed setting earlier e may =
    let three = three_of (unknown_device setting e) (unknown_link setting e) (dead_device earlier e) (dead_link earlier e) (time_falls earlier e)
    (counter_falls earlier e) (not_started earlier e)
    (started_twice setting earlier e) (no_plan_left setting earlier e) (window_order_seen setting earlier e) (after_end earlier) (not_failed earlier e)
    (not_member setting earlier e) (too_many earlier) may in
    record { plan = three.0; order = three.1; few = three.2 }

-- the four ways in which an event comes where the window does not allow it
pub record ComesInPlace (setting : Setting) (earlier : List Seen) (e : Event) : Type 0 where
  pub stage : (is_stage e && window_is_open earlier) ≡ false
  pub preparing : ((is_some (given e) || is_some (joined e) || is_some (mended e) || is_commit e) && past_preparing earlier) ≡ false
  pub seal : (is_seal e && (not (window_is_open earlier) || not (has_commit earlier))) ≡ false

pub in_place : (setting : Setting) (earlier : List Seen) (e : Event) → may_be_seen setting earlier e ≡ true → ComesInPlace setting earlier e
in_place setting earlier e may = record { stage = two.0; preparing = two.1; seal = last.1 }
  where
    stages : Bool
    stages = is_stage e && window_is_open earlier

    prepares : Bool
    prepares = (is_some (given e) || is_some (joined e) || is_some (mended e) || is_commit e) && past_preparing earlier

    other : Bool
    other = is_commit e && map_or (device_of e) false (λ d. not (map_or (staged setting earlier) false (λ plan. nat_eq plan.root d)))

    last : ((stages || prepares || other) ≡ false) × ((is_seal e && (not (window_is_open earlier) || not (has_commit earlier))) ≡ false)
    last = or_parts (stages || prepares || other) (is_seal e && (not (window_is_open earlier) || not (has_commit earlier)))
        (is_allowed setting earlier e may).order

    two : (stages ≡ false) × (prepares ≡ false)
    two = or_parts stages prepares (or_parts (stages || prepares) other last.0).0

-- a commit comes in an open window
pub commit_opened : (setting : Setting) (earlier : List Seen) (e : Event) → may_be_seen setting earlier e ≡ true → is_commit e ≡ true
    → window_is_open earlier ≡ true
commit_opened setting earlier e may commits =
    by (is_some (given e) || is_some (joined e) || is_some (mended e)) (is_commit e) (window_is_open earlier) (has_commit earlier) commits
    (in_place setting earlier e may).preparing
  where
    by : (other commit opened committed : Bool) → commit ≡ true → ((other || commit) && (not opened || committed)) ≡ false → opened ≡ true
    by other true true committed is none = refl
    by true true false committed is none = cc
    by false true false committed is none = cc
    by other false opened committed is none = cc

-- an open window brings in a plan that there is, after the event too
pub planned_next : (setting : Setting) (s : Seen) (earlier : List Seen) → may_be_seen setting earlier s.event ≡ true → IsPlanned setting earlier
    → IsPlanned setting (s ∷ earlier)
planned_next setting s earlier may planned = by s.closed (is_stage s.event) refl refl
  where
    -- a stage has a plan left
    left : (stage opened late : Bool) → stage ≡ true → (stage && not opened && late) ≡ false → (stage && opened) ≡ false → late ≡ false
    left true true late is none order = cc
    left true false late is none order = none
    left false opened late is none order = cc

    shut : (o : Option (List Seen)) → o ≡ None → is_some o ≡ true → ⊥
    shut None is opened = cc
    shut (Some w) is opened = cc

    still : (o : Option (List Seen)) → is_some (option_map (λ w. s ∷ w) o) ≡ true → is_some o ≡ true
    still None opened = opened
    still (Some w) opened = refl

    by : (closed stage : Bool) → s.closed ≡ closed → is_stage s.event ≡ stage → window_is_open (s ∷ earlier) ≡ true
        → epoch_in_force (s ∷ earlier) < length setting.plans
    by true stage closes is opened =
        absurd (shut (window (s ∷ earlier))
        (ap (λ (b : Bool). if b then None else if is_stage s.event then Some [] else option_map (λ w. s ∷ w) (window earlier)) closes) opened)
    by false true stays is opened =
        subst (λ (n : ℕ). n < length setting.plans) (sym (epoch_kept s earlier stays))
        (leb-false (length setting.plans) (epoch_in_force earlier)
        (left (is_stage s.event) (window_is_open earlier) (nat_le (length setting.plans) (epoch_in_force earlier)) is
        (is_allowed setting earlier s.event may).plan (in_place setting earlier s.event may).stage))
    by false false stays is opened =
        subst (λ (n : ℕ). n < length setting.plans) (sym (epoch_kept s earlier stays))
        (planned (still (window earlier) (sym (ap (λ (o : Option (List Seen)). is_some o) (window_kept s earlier stays is)) ∙ opened)))
