-- The duties of a device in a chronicle are its own: its oscillator's rates, and the corrections of its links towards it.
use Rattle.std.specs.Prelude.{◌≡◌, ℕ, Bool, true, false, ◌&&◌, nat_eq, Option, Some, None, option_map, option_and_then, refl, if◌then◌else◌}
use Rattle.std.proofs.Common.{◌∙◌, ap, subst}
use Rattle.std.proofs.lemmas.Bool.{eqb-true}
use Rattle.sd_num.specs.Lists.{map_or}
use Rattle.sd_plan.specs.topo.Network.{Network, rates_of, bounds_of}
use Rattle.sd_plan.specs.declared.Hop.{Hop}
use Rattle.sd_plan.specs.declared.Plan.{Plan}
use Rattle.sd_plan.specs.declared.Edge.{Edge}
use Rattle.sd_plan.specs.declared.Duty.{Duty}
use Rattle.sd_plan.specs.Plans.{primary_of, backup_of}
use Rattle.sd_plan.specs.Duties.{duty_of, edge_of}
use Rattle.sd_device.specs.declared.msg.Message.{Message}
use Rattle.sd_device.specs.msg.Stamps.{is_newer}
use Rattle.sd_device.specs.Calls.{Call, Receive, Transition, Entered, Accepted, Nothing, Past}
use Rattle.sd_device.specs.Words.{transition_of, after, accepted_over, duty_now, given_now, rates_now, first_rates, accepted_by, over_link, parent_edge, primary_now, backup_now, epoch_now, stamp_now, is_acting, has_moved}
use Rattle.sd_history.proofs.Given.{some_is, HasDuties, GivesSuch, duties_after}

pub record OwnEdge (net : Network) (d : ℕ) (edge : Edge) : Type 0 where
  pub bounds : edge.bounds ≡ bounds_of net edge.link d

pub record OwnDuty (net : Network) (d : ℕ) (duty : Duty) : Type 0 where
  pub rates : duty.rates ≡ rates_of net d
  pub primary : (edge : Edge) → duty.primary ≡ Some edge → OwnEdge net d edge
  pub backup : (edge : Edge) → duty.backup ≡ Some edge → OwnEdge net d edge

own_hop : (net : Network) (d : ℕ) (hop : Option Hop) (edge : Edge) → option_map (edge_of net d) hop ≡ Some edge → OwnEdge net d edge
own_hop net d None edge same = cc
own_hop net d (Some hop) edge same = subst (OwnEdge net d) (some_is same) (record { bounds = refl })

pub own_duty : (net : Network) (plan : Plan) (epoch d : ℕ) → OwnDuty net d (duty_of net plan epoch d)
own_duty net plan epoch d =
    record {
      rates = refl;
      primary = λ edge same. own_hop net d (primary_of plan d) edge same;
      backup = λ edge same. own_hop net d (backup_of plan d) edge same;
    }

-- what the device has is its own
pub record OwnPast (net : Network) (d : ℕ) (past : Past) : Type 0 where
  pub first : first_rates past.making ≡ rates_of net d
  pub duties : HasDuties (OwnDuty net d) past

-- a call that gives a duty gives an own one
abbrev pub OwnCall : Network → ℕ → Call → Type 0
OwnCall net d call = GivesSuch (OwnDuty net d) call

-- An accepted receipt came over an own edge of the link.

pub over_is : (link : ℕ) (e edge : Edge) (b : Bool) → nat_eq e.link link ≡ b → (if b then Some e else None) ≡ Some edge → (e ≡ edge) × (e.link ≡ link)
over_is link e edge true same found = (some_is found, eqb-true e.link link same)
over_is link e edge false same found = cc

-- the edge is the device's own, and leads over the link
pub record OwnLink (net : Network) (d link : ℕ) (edge : Edge) : Type 0 where
  pub bounds : edge.bounds ≡ bounds_of net link d

own_over : (net : Network) (d link : ℕ) (o : Option Edge) (edge : Edge) → ((e : Edge) → o ≡ Some e → OwnEdge net d e)
    → option_and_then (over_link link) o ≡ Some edge → OwnLink net d link edge
own_over net d link None edge own same = cc
own_over net d link (Some e) edge own same =
    let both : (e ≡ edge) × (e.link ≡ link) = over_is link e edge (nat_eq e.link link) refl same in
    subst (OwnLink net d link) both.0 (record { bounds = (own e refl).bounds ∙ ap (λ l. bounds_of net l d) both.1 })

own_parent : (net : Network) (d : ℕ) (past : Past) → OwnPast net d past → (a m : Bool) (e : Edge)
    → (if a then None else if m then backup_now past else primary_now past) ≡ Some e → OwnEdge net d e
own_parent net d past own true m e same = cc
own_parent net d past own false true e same = of_backup (duty_now past) refl same
  where
    of_backup : (u : Option Duty) → duty_now past ≡ u → map_or u None (λ duty. duty.backup) ≡ Some e → OwnEdge net d e
    of_backup None is same' = cc
    of_backup (Some duty) is same' = (own.duties.duty duty is).backup e same'
own_parent net d past own false false e same = of_primary (duty_now past) refl same
  where
    of_primary : (u : Option Duty) → duty_now past ≡ u → map_or u None (λ duty. duty.primary) ≡ Some e → OwnEdge net d e
    of_primary None is same' = cc
    of_primary (Some duty) is same' = (own.duties.duty duty is).primary e same'

entered_over : (net : Network) (d link : ℕ) (g : Option Duty) (message : Message) (rest : Transition) (edge : Edge)
    → ((u : Duty) → g ≡ Some u → OwnDuty net d u) → (accepted_over rest ≡ Some edge → OwnLink net d link edge)
    → accepted_over
    (map_or (option_and_then
    (λ duty. if nat_eq duty.epoch message.epoch then option_map (Entered duty) (option_and_then (over_link link) duty.primary) else None) g) rest
    (λ transition. transition)) ≡ Some edge
    → OwnLink net d link edge
entered_over net d link None message rest edge own others same = others same
entered_over net d link (Some v) message rest edge own others same = in_epoch (nat_eq v.epoch message.epoch) same
  where
    by_edge : (o : Option Edge) → option_and_then (over_link link) v.primary ≡ o
        → accepted_over (map_or (option_map (Entered v) o) rest (λ transition. transition)) ≡ Some edge → OwnLink net d link edge
    by_edge None is e = others e
    by_edge (Some x) is e = own_over net d link v.primary edge (own v refl).primary (is ∙ e)

    in_epoch : (b : Bool)
        → accepted_over (map_or (if b then option_map (Entered v) (option_and_then (over_link link) v.primary) else None) rest (λ transition. transition))
        ≡ Some edge → OwnLink net d link edge
    in_epoch true e = by_edge (option_and_then (over_link link) v.primary) refl e
    in_epoch false e = others e

accepted_own : (net : Network) (d link : ℕ) (b : Bool) (o : Option Edge) (edge : Edge) → (o ≡ Some edge → OwnLink net d link edge)
    → accepted_over (map_or (if b then option_map Accepted o else None) Nothing (λ transition. transition)) ≡ Some edge → OwnLink net d link edge
accepted_own net d link true None edge own same = cc
accepted_own net d link true (Some e) edge own same = own same
accepted_own net d link false o edge own same = cc

pub accepts_own : (net : Network) (d : ℕ) (past : Past) (link : ℕ) (message : Message) (counter : ℕ) (edge : Edge) → OwnPast net d past
    → accepted_over (transition_of past (Receive link message counter)) ≡ Some edge → OwnLink net d link edge
accepts_own net d past link message counter edge own same =
    entered_over net d link (given_now past) message (map_or (accepted_by past link message) Nothing (λ transition. transition)) edge own.duties.given
    (λ e. accepted_own net d link (nat_eq (epoch_now past) message.epoch && is_newer message.stamp (stamp_now past))
    (option_and_then (over_link link) (parent_edge past)) edge
    (λ same'. own_over net d link (parent_edge past) edge (λ x found. own_parent net d past own (is_acting past) (has_moved past) x found) same') e) same

-- Own pasts stay own.

pub own_after : (net : Network) (d : ℕ) (past : Past) (call : Call) → OwnPast net d past → OwnCall net d call → OwnPast net d (after past call)
own_after net d past call own gives = record { first = own.first; duties = duties_after (OwnDuty net d) past call own.duties gives }

rates_by : (net : Network) (d : ℕ) (past : Past) → OwnPast net d past → (o : Option Duty) → duty_now past ≡ o
    → map_or o (first_rates past.making) (λ duty. duty.rates) ≡ rates_of net d
rates_by net d past own None is = own.first
rates_by net d past own (Some u) is = (own.duties.duty u is).rates

pub rates_are_own : (net : Network) (d : ℕ) (past : Past) → OwnPast net d past → rates_now past ≡ rates_of net d
rates_are_own net d past own = rates_by net d past own (duty_now past) refl
