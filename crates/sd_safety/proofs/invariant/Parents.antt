-- Whom a device of a chronicle follows: its duties are those of the plan with their number, so an old device follows its primary hop of the plan
-- in force before its move, its backup hop after it, and nobody while it acts.
use Rattle.std.specs.Prelude.{◌≡◌, ℕ, ◌+◌, Bool, true, false, List, [], ◌∷◌, nat_eq, Option, Some, None, option_map, option_and_then, refl, if◌then◌else◌}
use Rattle.std.proofs.Common.{arith, ◌∙◌, ap, sym, subst}
use Rattle.std.proofs.lemmas.Bool.{eqb-true}
use Rattle.sd_num.specs.Lists.{map_or, same_number}
use Rattle.sd_plan.specs.topo.Network.{Network}
use Rattle.sd_plan.specs.declared.Hop.{Hop}
use Rattle.sd_plan.specs.declared.Plan.{Plan}
use Rattle.sd_plan.specs.declared.Duty.{Duty}
use Rattle.sd_plan.specs.Plans.{primary_of, backup_of}
use Rattle.sd_plan.specs.Duties.{duty_of, edge_of}
use Rattle.sd_device.specs.declared.msg.Flight.{Flight}
use Rattle.sd_device.specs.Calls as calls
use Rattle.sd_device.specs.Calls.{Call, Making, Past}
use Rattle.sd_device.specs.Words.{after, duty_now, is_acting, has_moved, primary_now, backup_now, parent_now}
use Rattle.sd_sched.specs.declared.Event.{Event}
use Rattle.sd_sched.specs.declared.Event.TheVariants as event
use Rattle.sd_history.specs.World.{Setting, Seen, is_up, window, epoch_in_force, staged_epoch, plan_numbered}
use Rattle.sd_history.specs.Steps.{Act, Makes, Calls, Asks, Passes, Answers, Step, seen_of, act_by, flight_numbered, answers_in, live_answers, parent_in, acts_in}
use Rattle.sd_history.specs.Chronicle.{answers_by, new_past, past_in, past_after, chronicle}
use Rattle.sd_history.proofs.Bridges.{answers_by_words}
use Rattle.sd_history.proofs.Given.{some_is, HasDuties, GivesSuch, duties_after}
use Rattle.sd_safety.specs.invariant.Eras.{era, plan_now, is_old, live_past, moved}
use Rattle.sd_safety.proofs.invariant.Cycles.{Over}

-- Duties

-- the duty is what the plan with its number tells the device
pub record IsPlanned (setting : Setting) (d : ℕ) (duty : Duty) : Type 0 where
  pub is : duty ≡ duty_of setting.net (plan_numbered setting duty.epoch) duty.epoch d

-- an act brings its device such duties alone
abbrev BringsSuch : (ℕ → Duty → Type 0) → Act → Type 0
BringsSuch P (Makes e making) = HasDuties (P e) (new_past making)
BringsSuch P (Calls e call) = GivesSuch (P e) call
BringsSuch P (Asks e counter) = Unit {0}
BringsSuch P Passes = Unit {0}

duties_made : (P : ℕ → Duty → Type 0) (e d : ℕ) (making : Making) (p : Option Past) (past : Past) (b : Bool) → nat_eq e d ≡ b
    → HasDuties (P e) (new_past making) → ((q : Past) → p ≡ Some q → HasDuties (P d) q)
    → (if b then Some (new_past making) else p) ≡ Some past → HasDuties (P d) past
duties_made P e d making p past true same brings had is =
    subst (λ c. HasDuties (P c) past) (eqb-true e d same) (subst (λ q. HasDuties (P e) q) (some_is is) brings)
duties_made P e d making p past false same brings had is = had past is

duties_called : (P : ℕ → Duty → Type 0) (e d : ℕ) (call : Call) (p : Option Past) (past : Past) (b : Bool) → nat_eq e d ≡ b → GivesSuch (P e) call
    → ((q : Past) → p ≡ Some q → HasDuties (P d) q)
    → (if b then option_map (λ q. after q call) p else p) ≡ Some past → HasDuties (P d) past
duties_called P e d call None past true same brings had is = cc
duties_called P e d call (Some q) past true same brings had is =
    subst (λ r. HasDuties (P d) r) (some_is is) (duties_after (P d) q call (had q refl) (subst (λ c. GivesSuch (P c) call) (eqb-true e d same) brings))
duties_called P e d call p past false same brings had is = had past is

duties_kept : (P : ℕ → Duty → Type 0) (act : Act) (d : ℕ) (p : Option Past) (past : Past) → BringsSuch P act → ((q : Past) → p ≡ Some q → HasDuties (P d) q)
    → past_after act d p ≡ Some past → HasDuties (P d) past
duties_kept P (Makes e making) d p past brings had is = duties_made P e d making p past (nat_eq e d) refl brings had is
duties_kept P (Calls e call) d p past brings had is = duties_called P e d call p past (nat_eq e d) refl brings had is
duties_kept P (Asks e counter) d p past brings had is = had past is
duties_kept P Passes d p past brings had is = had past is

planned_made : (setting : Setting) (d c clock eps epoch : ℕ)
    → HasDuties (IsPlanned setting d) (new_past (calls.Started (duty_of setting.net (plan_numbered setting epoch) epoch d) c clock eps))
planned_made setting d c clock eps epoch =
    record { duty = λ u same. subst (IsPlanned setting d) (some_is same) (record { is = refl }); given = λ u same. cc }

planned_receipt : (setting : Setting) (d c : ℕ) (o : Option Flight)
    → BringsSuch (IsPlanned setting) (map_or o Passes (λ f. Calls d (calls.Receive f.link f.message c)))
planned_receipt setting d c None = tt
planned_receipt setting d c (Some f) = tt

planned_give : (setting : Setting) (d epoch : ℕ) (w : Option (List Seen))
    → BringsSuch (IsPlanned setting)
    (map_or (option_map (λ v. plan_numbered setting epoch) w) Passes (λ plan. Calls d (calls.Give (duty_of setting.net plan epoch d))))
planned_give setting d epoch None = tt
planned_give setting d epoch (Some w) = record { is = refl }

planned_act : (setting : Setting) (steps : List Step) (e : Event) → BringsSuch (IsPlanned setting) (act_by setting steps e)
planned_act setting steps (event.Start r d c clock eps) = planned_made setting d c clock eps (epoch_in_force (seen_of steps))
planned_act setting steps (event.Join r d c clock eps) = record { duty = λ u same. cc; given = λ u same. cc }
planned_act setting steps (event.Recv r d c n) = planned_receipt setting d c (flight_numbered steps n)
planned_act setting steps (event.Give r d) = planned_give setting d (staged_epoch (seen_of steps)) (window (seen_of steps))
planned_act setting steps _ = tt

-- each device of a chronicle has duties of its plans
pub duties_planned : (setting : Setting) (history : List Event) (d : ℕ) (past : Past) → past_in (chronicle setting history) d ≡ Some past
    → HasDuties (IsPlanned setting d) past
duties_planned setting [] d past is = cc
duties_planned setting (e ∷ earlier) d past is =
    let steps = chronicle setting earlier in
    duties_kept (IsPlanned setting) (act_by setting steps e) d (past_in steps d) past (planned_act setting steps e)
    (λ q was. duties_planned setting earlier d q was) is

-- Old devices

live_when : (b : Bool) (answers : Option Answers) (p : Option Past) → answers ≡ option_map answers_by p
    → (if b then answers else None) ≡ option_map answers_by (if b then p else None)
live_when true answers p same = same
live_when false answers p same = refl

-- what a live device answers is what the words say of its past
pub live_is : (setting : Setting) (history : List Event) (d : ℕ) → let steps = chronicle setting history in
    live_answers steps d ≡ option_map answers_by (live_past steps d)
live_is setting history d =
    let steps = chronicle setting history in
    live_when (is_up (seen_of steps) d) (answers_in steps d) (past_in steps d) (answers_by_words setting history d)

-- an old device, with its past and its duty
pub record IsOld (setting : Setting) (steps : List Step) (d : ℕ) : Type 0 where
  pub past : Past
  pub live : live_past steps d ≡ Some past
  pub duty : duty_now past ≡ Some (duty_of setting.net (plan_now setting steps) (era steps) d)

up_past : (b : Bool) (p : Option Past) (past : Past) → (if b then p else None) ≡ Some past → p ≡ Some past
up_past true p past is = is
up_past false p past is = cc

duty_is : (setting : Setting) (d epoch : ℕ) (past : Past) (o : Option Duty) → duty_now past ≡ o → ((u : Duty) → o ≡ Some u → IsPlanned setting d u)
    → map_or o 0 (λ u. u.epoch) ≡ epoch + 1
    → duty_now past ≡ Some (duty_of setting.net (plan_numbered setting (epoch + 1)) (epoch + 1) d)
duty_is setting d epoch past None is planned same = absurd (omega (arith, same))
duty_is setting d epoch past (Some u) is planned same =
    is ∙ ap Some ((planned u refl).is ∙ ap (λ n. duty_of setting.net (plan_numbered setting n) n d) same)

old_when : (setting : Setting) (history : List Event) (d : ℕ) (o : Option Past) → live_past (chronicle setting history) d ≡ o
    → same_number (option_map (λ a. a.epoch) (option_map answers_by o)) (era (chronicle setting history)) ≡ true → IsOld setting (chronicle setting history) d
old_when setting history d None is old = cc
old_when setting history d (Some past) is old =
    let steps = chronicle setting history in
    record {
      past = past;
      live = is;
      duty =
          duty_is setting d _ past (duty_now past) refl
          (duties_planned setting history d past (up_past (is_up (seen_of steps) d) (past_in steps d) past is)).duty
          (eqb-true _ (era steps) old);
    }

pub old_is : (setting : Setting) (history : List Event) (d : ℕ) → is_old (chronicle setting history) d ≡ true → IsOld setting (chronicle setting history) d
old_is setting history d old =
    let steps = chronicle setting history in
    old_when setting history d (live_past steps d) refl (sym (ap (λ o. same_number (option_map (λ a. a.epoch) o) (era steps)) (live_is setting history d))
    ∙ old)

-- Parents

pub over_hop : (net : Network) (d : ℕ) (o : Option Hop) (z : ℕ) → option_map (λ edge. edge.parent) (option_map (edge_of net d) o) ≡ Some z → Over o z
over_hop net d None z same = cc
over_hop net d (Some hop) z same = record { hop = hop; is = refl; leads = some_is same }

-- what is known of an old device with a parent: it does not act, and its parent is that of its hop
pub record Follows (setting : Setting) (steps : List Step) (d z : ℕ) : Type 0 where
  pub idle : acts_in steps d ≡ false
  pub hop : Over (if moved steps d then backup_of (plan_now setting steps) d else primary_of (plan_now setting steps) d) z

hop_of : (net : Network) (plan : Plan) (epoch d z : ℕ) (past : Past) (a m : Bool) → duty_now past ≡ Some (duty_of net plan epoch d)
    → option_map (λ edge. edge.parent) (if a then None else if m then backup_now past else primary_now past) ≡ Some z
    → (a ≡ false) × Over (if m then backup_of plan d else primary_of plan d) z
hop_of net plan epoch d z past true m duty same = cc
hop_of net plan epoch d z past false true duty same =
    (refl, over_hop net d (backup_of plan d) z (sym (ap (λ o. option_map (λ edge. edge.parent) (map_or o None (λ u. u.backup))) duty) ∙ same))
hop_of net plan epoch d z past false false duty same =
    (refl, over_hop net d (primary_of plan d) z (sym (ap (λ o. option_map (λ edge. edge.parent) (map_or o None (λ u. u.primary))) duty) ∙ same))

pub follows_of : (setting : Setting) (history : List Event) (d z : ℕ) → IsOld setting (chronicle setting history) d
    → parent_in (chronicle setting history) d ≡ Some z
    → Follows setting (chronicle setting history) d z
follows_of setting history d z old same =
    let steps = chronicle setting history in
    let answers : live_answers steps d ≡ Some (answers_by old.past) = live_is setting history d ∙ ap (option_map answers_by) old.live in
    let parent : parent_now old.past ≡ Some z = sym (ap (option_and_then (λ a. a.parent)) answers) ∙ same in
    let both = hop_of setting.net (plan_now setting steps) (era steps) d z old.past (is_acting old.past) (has_moved old.past) old.duty parent in
    record {
      idle = ap (λ o. map_or o false (λ a. a.acts)) answers ∙ both.0;
      hop = subst (λ m. Over (if m then backup_of (plan_now setting steps) d else primary_of (plan_now setting steps) d) z)
          (sym (ap (λ o. map_or o false has_moved) old.live)) both.1;
    }

parentless : (past : Past) (a : Bool) → a ≡ true
    → option_map (λ edge. edge.parent) (if a then None else if has_moved past then backup_now past else primary_now past) ≡ None
parentless past true acts = refl
parentless past false acts = cc

acting_when : (o : Option Past) → map_or (option_map answers_by o) false (λ a. a.acts) ≡ true
    → option_and_then (λ a. a.parent) (option_map answers_by o) ≡ None
acting_when None acts = refl
acting_when (Some past) acts = parentless past (is_acting past) acts

-- a device that acts follows nobody
pub acting_follows_nobody : (setting : Setting) (history : List Event) (d : ℕ) → acts_in (chronicle setting history) d ≡ true
    → parent_in (chronicle setting history) d ≡ None
acting_follows_nobody setting history d acts =
    let steps = chronicle setting history in
    let same = live_is setting history d in
    ap (option_and_then (λ a. a.parent)) same ∙ acting_when (live_past steps d) (sym (ap (λ o. map_or o false (λ a. a.acts)) same) ∙ acts)
