-- Each wait of a device's duty, of whichever plan the duty is, has a Low of twice V at least; a plan that is staged is one of the plans; and
-- what the tick premise says of a member that has not started.
use Rattle.std.specs.Prelude.{◌≡◌, ℕ, ◌+◌, ◌-◌, ◌*◌, ◌<◌, ◌≤◌, Bool, true, false, ◌&&◌, ◌||◌, not, List, [], ◌∷◌, filter, length, nat_eq, nat_le, Option, Some, None, is_some, option_map, refl, if◌then◌else◌}
use Rattle.std.proofs.Common.{arith, sym, ap, subst}
use Rattle.std.proofs.lemmas.Bool.{and_parts, leb-true, leb-false}
use Rattle.sd_num.specs.Lists.{map_or, below}
use Rattle.sd_plan.specs.topo.Network.{Network, Each, least_low}
use Rattle.sd_plan.specs.topo.Limits.{IsNetwork}
use Rattle.sd_plan.specs.declared.Plan.{Plan}
use Rattle.sd_plan.specs.declared.Duty.{Duty}
use Rattle.sd_plan.specs.declared.Role.{Role}
use Rattle.sd_plan.specs.declared.Role.TheVariants as role
use Rattle.sd_plan.specs.Plans.{is_member}
use Rattle.sd_plan.specs.Duties.{duty_of, role_of}
use Rattle.sd_checker.specs.check_root.Timing.{silence}
use Rattle.sd_safety.specs.invariant.Guarded.{IsGuarded, AreGuarded, IsSteady}
use Rattle.sd_device.specs.declared.msg.Flight.{Flight}
use Rattle.sd_device.specs.Calls as calls
use Rattle.sd_device.specs.Calls.{Past}
use Rattle.sd_device.specs.Words.{duty_now, wait_to_move}
use Rattle.sd_sched.specs.declared.Event.{Event}
use Rattle.sd_sched.specs.declared.Event.TheVariants as event
use Rattle.sd_sched.specs.Events.{reference_of, is_stage}
use Rattle.sd_history.specs.World.{Setting, Seen, window, window_is_open, epoch_in_force, staged_epoch, in_force, plan_numbered, latest_reference, is_untouched}
use Rattle.sd_history.specs.Steps.{Calls, Passes, Step, seen_of, act_by, flight_numbered}
use Rattle.sd_history.specs.Refusals.{no_plan_left}
use Rattle.sd_history.specs.Chronicle.{past_in, chronicle, next_step}
use Rattle.sd_history.specs.Admitted.{IsAdmitted}
use Rattle.sd_history.specs.Premises.{first_reference, ticks_in_time}
use Rattle.sd_history.proofs.Among.{Among, first, later, passes}
use Rattle.sd_history.proofs.Clear.{clear}
use Rattle.sd_history.proofs.Given.{some_is}
use Rattle.sd_history.proofs.Shared.{among_below, epoch_kept}
use Rattle.sd_safety.specs.invariant.Eras.{era, beginning}
use Rattle.sd_safety.specs.invariant.Clauses.{is_beginning}
use Rattle.sd_safety.proofs.invariant.InForce.{in_force_too, of_each}
use Rattle.sd_safety.proofs.invariant.Timed.{IsTimed, timed as plan_is_timed}
use Rattle.sd_safety.specs.timers.Times.{gives_duty}
use Rattle.sd_safety.proofs.timers.Periods.{EachGives, duties_in}
use Rattle.sd_safety.proofs.timers.Histories.{Timely, timely}

-- Waits are as long as twice V.

abbrev pub LongPlan : Network → Plan → Type 0
LongPlan net plan = (2 * (silence net + net.params.tick) ≤ least_low net plan.wait_first) × (2 * (silence net + net.params.tick) ≤ least_low net plan.wait)

abbrev pub LongDuty : Network → Duty → Type 0
LongDuty net duty = (wait : ℕ) → wait_to_move duty ≡ Some wait → 2 * (silence net + net.params.tick) ≤ least_low net wait

guarded_is_long : (net : Network) (plan : Plan) → IsNetwork net → IsGuarded net plan → LongPlan net plan
guarded_is_long net plan is guarded =
    let t : IsTimed net plan = plan_is_timed net plan guarded.timing in (
      t.first,
      longest (silence net) net.params.tick _ _ (least_low net plan.wait) t.wait,
    )
  where
    longest : (s q a b l : ℕ) → a + b + 6 * (s + q) ≤ l → 2 * (s + q) ≤ l
    longest s q a b l le = omega (arith, le)

long_duty : (net : Network) (plan : Plan) (epoch d : ℕ) → LongPlan net plan → LongDuty net (duty_of net plan epoch d)
long_duty net plan epoch d long = go (role_of plan d) (is_some (duty_of net plan epoch d).backup)
  where
    is : (a b : ℕ) → Some a ≡ Some b → 2 * (silence net + net.params.tick) ≤ least_low net a → 2 * (silence net + net.params.tick) ≤ least_low net b
    is a b same lt = subst (λ n. 2 * (silence net + net.params.tick) ≤ least_low net n) (some_is same) lt

    ordinary : (b : Bool) (w : ℕ) → (if b then Some plan.wait else None) ≡ Some w → 2 * (silence net + net.params.tick) ≤ least_low net w
    ordinary true w same = is plan.wait w same long.1
    ordinary false w same = cc

    go : (r : Role) (b : Bool) (w : ℕ)
        → elim r as (λ (x : Role). Option ℕ) [ role.Root ↦ None | role.BackupRoot ↦ Some plan.wait_first | role.Ordinary ↦ if b then Some plan.wait else None ]
        ≡ Some w
        → 2 * (silence net + net.params.tick) ≤ least_low net w
    go role.Root b w same = cc
    go role.BackupRoot b w same = is plan.wait_first w same long.0
    go role.Ordinary b w same = ordinary b w same

-- A plan that is staged is one of the plans.

-- what is true of each plan is true of one with a number

left : (stage opened : Bool) (l epoch : ℕ) → (stage && not opened && nat_le l epoch) ≡ false → stage ≡ true → opened ≡ false → epoch < l
left true false l epoch none staged closed = leb-false l epoch none
left true true l epoch none staged closed = cc
left false opened l epoch none staged closed = cc

pub staged_within : (setting : Setting) (history : List Event) → IsAdmitted setting history → window_is_open (seen_of (chronicle setting history)) ≡ true
    → epoch_in_force (seen_of (chronicle setting history)) < length setting.plans
staged_within setting [] is opened = cc
staged_within setting (e ∷ earlier) is opened =
    let steps : List Step = chronicle setting earlier in
    let s : Seen = (next_step setting steps e).seen in
    let some_left : no_plan_left setting (seen_of steps) e ≡ false =
    (clear setting steps e is.1).plan_left in
    by s.closed (is_stage e) (window (seen_of steps)) refl refl refl some_left (staged_within setting earlier is.0) opened
  where
    s : Seen
    s = (next_step setting (chronicle setting earlier) e).seen

    up_one : s.closed ≡ false → epoch_in_force (seen_of (chronicle setting earlier)) < length setting.plans
        → epoch_in_force (seen_of (chronicle setting (e ∷ earlier))) < length setting.plans
    up_one open_ lt = subst (λ n. n < length setting.plans) (sym (epoch_kept s (seen_of (chronicle setting earlier)) open_)) lt

    by : (c g : Bool) (w : Option (List Seen)) → s.closed ≡ c → is_stage e ≡ g → window (seen_of (chronicle setting earlier)) ≡ w
        → no_plan_left setting (seen_of (chronicle setting earlier)) e ≡ false
        → (window_is_open (seen_of (chronicle setting earlier)) ≡ true → epoch_in_force (seen_of (chronicle setting earlier)) < length setting.plans)
        → is_some (if c then None else if g then Some [] else option_map (λ v. s ∷ v) w) ≡ true
        → epoch_in_force (seen_of (chronicle setting (e ∷ earlier))) < length setting.plans
    by true g w ec eg ew some rest opened' = cc
    by false g (Some v) ec eg ew some rest opened' = up_one ec (rest (ap is_some ew))
    by false true None ec eg ew some rest opened' =
        up_one ec (left (is_stage e) (window_is_open (seen_of (chronicle setting earlier))) (length setting.plans)
        (epoch_in_force (seen_of (chronicle setting earlier))) some eg (ap is_some ew))
    by false false None ec eg ew some rest opened' = cc

-- Each duty of a device waits so long.

long_plans : (setting : Setting) → AreGuarded setting → Each (LongPlan setting.net) setting.plans
long_plans setting fair i plan at = guarded_is_long setting.net plan fair.network (fair.guarded i plan at)

module _ (setting : Setting) (fair : AreGuarded setting) where
  given_long : (steps : List Step) (m : ℕ) (w : Option (List Seen)) → (is_some w ≡ true → epoch_in_force (seen_of steps) < length setting.plans) → (duty : Duty)
      → gives_duty
      (map_or (option_map (λ v. plan_numbered setting (staged_epoch (seen_of steps))) w) Passes
      (λ plan. Calls m (calls.Give (duty_of setting.net plan (staged_epoch (seen_of steps)) m)))) ≡ Some duty → LongDuty setting.net duty
  given_long steps m None within duty same = cc
  given_long steps m (Some v) within duty same =
      subst (LongDuty setting.net) (some_is same)
      (long_duty setting.net (plan_numbered setting (staged_epoch (seen_of steps))) (staged_epoch (seen_of steps)) m
      (of_each (LongPlan setting.net) setting.plans (staged_epoch (seen_of steps) - 1) (long_plans setting fair) (lower (within refl))))
    where
      lower : epoch_in_force (seen_of steps) < length setting.plans → epoch_in_force (seen_of steps) + 1 - 1 < length setting.plans
      lower lt = omega (arith, lt)

  received_long : (m c : ℕ) (o : Option Flight) (duty : Duty) → gives_duty (map_or o Passes (λ f. Calls m (calls.Receive f.link f.message c))) ≡ Some duty
      → LongDuty setting.net duty
  received_long m c None duty same = cc
  received_long m c (Some f) duty same = cc

  act_long : (history : List Event) → IsAdmitted setting history → (e : Event) (duty : Duty)
      → gives_duty (act_by setting (chronicle setting history) e) ≡ Some duty → LongDuty setting.net duty
  act_long history is (event.Start r m c clock eps) duty same =
      subst (LongDuty setting.net) (some_is same)
      (long_duty setting.net (in_force setting (seen_of (chronicle setting history))) (epoch_in_force (seen_of (chronicle setting history))) m
      (in_force_too (LongPlan setting.net) setting history (long_plans setting fair) fair.some_plan is))
  act_long history is (event.Recv r m c n) duty same = received_long m c (flight_numbered (chronicle setting history) n) duty same
  act_long history is (event.Give r m) duty same =
      given_long (chronicle setting history) m (window (seen_of (chronicle setting history))) (staged_within setting history is) duty same
  act_long history is _ duty same = cc

  each_long : (history : List Event) → IsAdmitted setting history → EachGives (LongDuty setting.net) (chronicle setting history)
  each_long [] is = tt
  each_long (e ∷ earlier) is = (each_long earlier is.0, act_long earlier is.0 e)

  -- what waits to move waits so long
  pub waits_are_long : (history : List Event) → IsAdmitted setting history → (d : ℕ) (past : Past) → past_in (chronicle setting history) d ≡ Some past
      → (duty : Duty) → duty_now past ≡ Some duty → LongDuty setting.net duty
  waits_are_long history is d past there' duty has =
      (duties_in (LongDuty setting.net) (chronicle setting history) (each_long history is) d past there').duty duty has

-- Late: later than a tick gap after the first event.

abbrev pub Late : Setting → List Seen → Type 0
Late setting seen = beginning seen + setting.net.params.tick < latest_reference seen

pub not_late : (setting : Setting) (steps : List Step) → is_beginning setting steps ≡ true → Late setting (seen_of steps) → ⊥
not_late setting steps begins late =
    let le : latest_reference (seen_of steps) ≤ beginning (seen_of steps) + setting.net.params.tick =
    leb-true (latest_reference (seen_of steps)) (beginning (seen_of steps) + setting.net.params.tick) (and_parts (nat_eq (era steps) 1) _ begins).1 in
    omega (arith, late, le)

pub timely_of : (setting : Setting) (history : List Event) → AreGuarded setting → IsSteady setting history → Timely setting history
timely_of setting history fair clean = timely setting history fair.network clean.is clean.premises

-- members of the first plan start in time
among_filtered : (p : ℕ → Bool) (d : ℕ) (xs : List ℕ) → p d ≡ true → Among d xs → Among d (filter p xs)
among_filtered p d (x ∷ xs) has (later a) = go (p x) (among_filtered p d xs has a)
  where
    go : (b : Bool) → Among d (filter p xs) → Among d (if b then x ∷ filter p xs else filter p xs)
    go true b = later b
    go false b = b
among_filtered p d _ has (first {xs = xs}) = go (p d) has
  where
    go : (b : Bool) → b ≡ true → Among d (if b then d ∷ filter p xs else filter p xs)
    go true h = first
    go false h = cc

pub starts_in_time : (setting : Setting) (s : Seen) (earlier : List Seen) (d : ℕ) → d < length setting.net.devices
    → is_member (plan_numbered setting 1) d ≡ true → ticks_in_time setting s earlier ≡ true
    → (not (is_untouched earlier d) || nat_le (reference_of s.event) (first_reference earlier s + setting.net.params.tick)) ≡ true
starts_in_time setting s earlier d known member ticks =
    passes (λ x. not (is_untouched earlier x) || nat_le (reference_of s.event) (first_reference earlier s + setting.net.params.tick))
    (among_filtered (is_member (plan_numbered setting 1)) d (below (length setting.net.devices)) member (among_below (length setting.net.devices) d known))
    ((and_parts _ _ ticks).1)
