-- A device is exact: it does what the words say of each life for which its registers stand.
use Rattle.std.proofs.Common.{◌≡◌, ℕ, ◌+◌, ◌≤◌, Bool, true, false, List, [], ◌∷◌, Option, Some, None, refl, sym, ◌∙◌, ap, subst, arith}
use Rattle.std.specs.Prelude.{IfSome, nat_eq, nat_le, ◌||◌, if◌then◌else◌, option_map, option_and_then}
use Rattle.std.proofs.lemmas.Bool.{le-leb}
use Rattle.sd_num.specs.Lists.{map_or}
use Rattle.sd_plan.specs.declared.Duty.{Duty}
use Rattle.sd_plan.specs.declared.Edge.{Edge}
use Rattle.sd_plan.specs.declared.Role.{Role}
use Rattle.sd_plan.specs.declared.Role.TheVariants as role
use Rattle.sd_device.specs.declared.msg.Message.{Message}
use Rattle.sd_device.specs.msg.Stamps.{stamp}
use Rattle.sd_device.specs.declared.Effect.{Effect}
use Rattle.sd_device.specs.declared.registers.Registers.{Registers}
use Rattle.sd_device.specs.declared.registers.Mode.{Mode}
use Rattle.sd_device.specs.declared.registers.Mode.TheVariants.{Primary, Acting, Idle}
use Rattle.sd_device.specs.declared.turns.Turn.{Turn}
use Rattle.sd_device.specs.declared.turns.Turn.TheVariants.{Emit, TakeOver, Move, Stay}
use Rattle.sd_device.specs.Calls.{Making, Started, Joined, Call, Tick, Receive, Fix, Give, Commit, Seal, Past}
use Rattle.sd_device.specs.Living.{Life}
use Rattle.sd_device.specs.Words.{duty_now, is_acting, has_moved, parent_edge, parent_now, over_link, counter_of}
use Rattle.sd_device.specs.Lives.{past_by, past_of, longer, latest_counter, NeverFalls, BeginsOfAPlan, GivesOfAPlan, AreOfPlans, IsOrderly}
use Rattle.sd_device.specs.Rules.{made, called, report_in, parent_in, acts_in, epoch_in, edge_in, follows_a_plan, is_acting_mode, turn_of, turned, entering, accepting, accepted, entered, quietly, committed}
use Rattle.sd_device.specs.Standing.{StandsFor, registers_of, last_of, mode_of}
use Rattle.sd_device.specs.Exact.{IsExact}
use Rattle.sd_device.specs.contracts.device.DeviceNode.TheImpl.{ghosts}
use Rattle.sd_device.proofs.Reached.{reached}
use Rattle.sd_device.proofs.Receiving.{edges}
use Rattle.sd_device.proofs.Stands.{IsDue, Stood, steps, stands_after, acting_is}
use Rattle.sd_device.proofs.Keeping.{no_turn}
use Rattle.sd_device.proofs.Orderly.{in_order, due_by}

-- Each duty of an orderly life is of a plan, and without one its device is idle.

abbrev IsOfAPlan : Duty → Type 0
IsOfAPlan duty = 1 ≤ duty.epoch

record IsPlanned (r : Registers) : Type 0 where
  duty : IfSome r.duty IsOfAPlan
  given : IfSome r.given IsOfAPlan
  idle : r.duty ≡ None → r.mode ≡ Idle

planned_turn : (r : Registers) (counter : ℕ) (turn : Turn) → turn_of r counter ≡ turn → IsPlanned r → IsPlanned (turned r counter turn).0
planned_turn r counter Emit is planned = record { duty = planned.duty; given = planned.given; idle = planned.idle }
planned_turn r counter TakeOver is planned =
    record { duty = planned.duty; given = planned.given; idle = λ none. let h : Stay ≡ TakeOver = no_turn r counter TakeOver is none in cc }
planned_turn r counter Move is planned =
    record { duty = planned.duty; given = planned.given; idle = λ none. let h : Stay ≡ Move = no_turn r counter Move is none in cc }
planned_turn r counter Stay is planned = planned

abbrev EntersPlanned : Option (Duty × Edge) → Type 0
EntersPlanned enters = IfSome enters (λ by. IsOfAPlan by.0)

enters_planned : (given : Option Duty) (link : ℕ) (message : Message) → IfSome given IsOfAPlan
    → EntersPlanned (option_and_then
    (λ duty. if nat_eq duty.epoch message.epoch then option_map (λ (edge : Edge). (duty, edge)) (option_and_then (over_link link) duty.primary) else None)
    given)
enters_planned None link message planned = tt
enters_planned (Some duty) link message planned = go (nat_eq duty.epoch message.epoch) (option_and_then (over_link link) duty.primary)
  where
    go : (same : Bool) (edge : Option Edge) → EntersPlanned (if same then option_map (λ (edge : Edge). (duty, edge)) edge else None)
    go true (Some edge) = planned
    go true None = tt
    go false edge = tt

planned_receipt : (r : Registers) (message : Message) (counter : ℕ) (enter : Option (Duty × Edge)) (accept : Option Edge)
    → EntersPlanned enter → IsPlanned r
    → IsPlanned
    (map_or enter (map_or accept (quietly r) (λ edge. accepted r edge message counter)) (λ by. accepted (entered r by.0) by.1 message counter)).0
planned_receipt r message counter (Some by) accept fits planned = record { duty = fits; given = tt; idle = λ none. cc }
planned_receipt r message counter None (Some edge) fits planned = record { duty = planned.duty; given = planned.given; idle = planned.idle }
planned_receipt r message counter None None fits planned = planned

planned_commit : (r : Registers) (counter : ℕ) (given : Option Duty) → IfSome given IsOfAPlan → IsPlanned r
    → IsPlanned (map_or given r (committed r counter))
planned_commit r counter None fits planned = planned
planned_commit r counter (Some duty) fits planned = go (is_acting_mode r.mode)
  where
    go : (acts : Bool)
        → IsPlanned (if acts then record r { duty = Some duty; given = None; sealed = false; rates = duty.rates } else record r {
          duty = Some duty;
          given = None;
          mode = Acting;
          sealed = false;
          stamp = stamp (r.stamp.term + 1) 0;
          sent = counter;
          rates = duty.rates;
        })
    go true = record { duty = fits; given = tt; idle = λ none. cc }
    go false = record { duty = fits; given = tt; idle = λ none. cc }

planned_after : (r : Registers) (call : Call) → GivesOfAPlan call → IsPlanned r → IsPlanned (called r call).0
planned_after r (Tick counter) fits planned = planned_turn r counter (turn_of r counter) refl planned
planned_after r (Receive link message counter) fits planned =
    planned_receipt r message counter (entering r link message) (accepting r link message) (enters_planned r.given link message planned.given) planned
planned_after r (Fix counter clock eps) fits planned = record { duty = planned.duty; given = planned.given; idle = planned.idle }
planned_after r (Give duty) fits planned = record { duty = planned.duty; given = fits; idle = planned.idle }
planned_after r (Commit counter) fits planned = planned_commit r counter r.given planned.given planned
planned_after r Seal fits planned = record { duty = planned.duty; given = planned.given; idle = planned.idle }

first_mode_is : (r : Role) → elim r as (λ (x : Role). Mode) [ role.Root ↦ Acting | _ ↦ Primary ]
    ≡ (if elim r as (λ (x : Role). Bool) [ role.Root ↦ true | _ ↦ false ] || false then Acting else Primary)
first_mode_is role.Root = refl
first_mode_is role.BackupRoot = refl
first_mode_is role.Ordinary = refl

pub made_is : (making : Making) → made making ≡ registers_of (past_by making [])
made_is (Started duty counter clock eps) = ap (λ m. record (made (Started duty counter clock eps)) { mode = m }) (first_mode_is duty.role)
made_is (Joined rates counter clock eps) = refl

planned_made : (making : Making) → BeginsOfAPlan making → IsPlanned (made making)
planned_made (Started duty counter clock eps) fits = record { duty = fits; given = tt; idle = λ none. cc }
planned_made (Joined rates counter clock eps) fits = record { duty = tt; given = tt; idle = λ none. refl }

-- a call after an orderly life is due
due_after : (making : Making) (calls : List Call) (call : Call) → NeverFalls making (call ∷ calls) → IsDue (last_of (past_by making calls)) (counter_of call)
due_after making calls call falls =
    due_by (last_of (past_by making calls)) (latest_counter making calls) (counter_of call) (in_order making calls falls.0).kept falls.1

planned : (making : Making) (calls : List Call) → NeverFalls making calls → AreOfPlans making calls → IsPlanned (registers_of (past_by making calls))
planned making [] falls fits = subst IsPlanned (made_is making) (planned_made making fits)
planned making (call ∷ earlier) falls fits =
    let past = past_by making earlier in
    subst IsPlanned (steps past call (reached making earlier) (in_order making earlier falls.0).order (due_after making earlier call falls)).registers
    (planned_after (registers_of past) call fits.1 (planned making earlier falls.0 fits.0))

-- What the registers of a past answer is what its words say.

no_edge : (a m : Bool) → (if a then None else if m then map_or None None (λ (u : Duty). u.backup) else map_or None None (λ (u : Duty). u.primary)) ≡ None
no_edge true m = refl
no_edge false true = refl
no_edge false false = refl

follows : (past : Past) (u : Duty) → duty_now past ≡ Some u → IsOfAPlan u → follows_a_plan (registers_of past) ≡ true
follows past u is plan = ap (λ v. nat_le 1 (map_or v 0 (λ w. w.epoch))) is ∙ le-leb 1 u.epoch plan

parent_by : (past : Past) (o : Option Duty) → duty_now past ≡ o → IfSome o IsOfAPlan → parent_in (registers_of past) ≡ parent_now past
parent_by past None is plan =
    let none : parent_edge past ≡ None =
    ap (λ u. if is_acting past then None else if has_moved past then map_or u None (λ v. v.backup) else map_or u None (λ v. v.primary)) is
    ∙ no_edge (is_acting past) (has_moved past) in
    ap (λ u. if nat_le 1 (map_or u 0 (λ v. v.epoch)) then option_map (λ (edge : Edge). edge.parent) (edge_in (registers_of past)) else None) is
    ∙ sym (ap (option_map (λ edge. edge.parent)) none)
parent_by past (Some u) is plan =
    ap (λ b. if b then option_map (λ (edge : Edge). edge.parent) (edge_in (registers_of past)) else None) (follows past u is plan)
    ∙ ap (option_map (λ edge. edge.parent)) (sym (edges past))

acts_by : (past : Past) (o : Option Duty) → duty_now past ≡ o → IfSome o IsOfAPlan → (o ≡ None → mode_of past ≡ Idle)
    → acts_in (registers_of past) ≡ is_acting past
acts_by past None is plan idle =
    ap (λ u. if nat_le 1 (map_or u 0 (λ v. v.epoch)) then is_acting_mode (mode_of past) else false) is
    ∙ sym (sym (acting_is past) ∙ ap is_acting_mode (idle refl))
acts_by past (Some u) is plan idle = ap (λ b. if b then is_acting_mode (mode_of past) else false) (follows past u is plan) ∙ acting_is past

-- The device

called_so : (old new : Registers) (call : Call) (effect : Effect) (life : Life) → called old call ≡ (new, effect) → StandsFor old life
    → IsOrderly (longer life call) → Stood life call (new, effect)
called_so old new call effect life steps_ stands orderly =
    subst (Stood life call) steps_
    (stands_after old life call stands
    (subst (λ (r : Registers). IsDue r.last (counter_of call)) (sym stands.are) (due_after life.making life.calls call orderly.never_falls)))

is_planned : (life : Life) → IsOrderly life → IsPlanned (registers_of (past_of life))
is_planned life orderly = planned life.making life.calls orderly.never_falls orderly.of_plans

pub device_is_exact : IsExact ghosts StandsFor
device_is_exact =
    record {
      made = λ making r is. record { are = is ∙ made_is making; in_order = omega arith };
      called = λ old new call effect life steps_ stands orderly. (called_so old new call effect life steps_ stands orderly).stands;
      sent = λ old new call effect life steps_ stands orderly. (called_so old new call effect life steps_ stands orderly).sends;
      reported = λ r counter report life is stands. is ∙ ap (λ x. report_in x counter) stands.are;
      parent = λ r life stands orderly.
          ap parent_in stands.are ∙ parent_by (past_of life) (duty_now (past_of life)) refl (is_planned life orderly).duty;
      acts = λ r life stands orderly.
          let p : IsPlanned (registers_of (past_of life)) = is_planned life orderly in
          ap acts_in stands.are ∙ acts_by (past_of life) (duty_now (past_of life)) refl p.duty p.idle;
      epoch = λ r life stands orderly. ap epoch_in stands.are;
      given = λ r life stands orderly. ap (λ (x : Registers). x.given) stands.are;
      sealed = λ r life stands orderly. ap (λ (x : Registers). x.sealed) stands.are;
    }
