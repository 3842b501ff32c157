-- A round comes down the path of the backup root, where no device of it has moved or acted in the plan in force: who accepts it takes it over its primary
-- edge, also on entering, and nobody but the root begins it.
use Rattle.std.specs.Prelude.{◌≡◌, ℕ, Bool, true, false, ◌∷◌, Option, Some, None, option_map, refl, if◌then◌else◌}
use Rattle.std.proofs.Common.{◌∙◌, ap, sym, subst}
use Rattle.std.proofs.lemmas.Bool.{and_parts}
use Rattle.sd_num.specs.Lists.{map_or, has}
use Rattle.sd_plan.specs.topo.Network.{Network}
use Rattle.sd_plan.specs.declared.Edge.{Edge}
use Rattle.sd_plan.specs.declared.Duty.{Duty}
use Rattle.sd_plan.specs.declared.Hop as declared
use Rattle.sd_plan.specs.Plans.{primary_of}
use Rattle.sd_plan.specs.Duties.{edge_of}
use Rattle.sd_device.specs.declared.msg.Message.{Message}
use Rattle.sd_device.specs.declared.msg.Stamp.{Stamp}
use Rattle.sd_device.specs.Calls as calls
use Rattle.sd_device.specs.Calls.{Call, Transition, Past}
use Rattle.sd_device.specs.Words.{after, transition_of, duty_now, epoch_now, has_moved, is_acting, parent_edge, primary_now, backup_now}
use Rattle.sd_history.specs.World.{Setting, plan_numbered}
use Rattle.sd_history.specs.Chronicle.{past_in}
use Rattle.sd_history.proofs.Given.{some_is, HasDuties}
use Rattle.sd_safety.proofs.timers.Turns.{IsEmission, is_emission, IsTakeover, is_takeover}
use Rattle.sd_safety.proofs.timers.Pasts.{takeover_from_backup}
use Rattle.sd_safety.specs.messages.Moments as moments
use Rattle.sd_safety.specs.messages.Moments.{IsChronicle, Moment, upto, Accepts, entering, following}
use Rattle.sd_safety.proofs.messages.Sending.{sends_own}
use Rattle.sd_safety.proofs.messages.Parents.{IsPlanned, planned, entering_primary, hop_parent}
use Rattle.sd_safety.specs.frame.Descents.{TakesFromAbove, LinksTell}

-- the parent edge of who has neither moved nor acts is its primary one
on_primary_edge : (past : Past) (a m : Bool) → is_acting past ≡ a → has_moved past ≡ m → a ≡ false → m ≡ false → parent_edge past ≡ primary_now past
on_primary_edge past a m acts moved_ no_act no_move =
    ap (λ b. if b then None else if has_moved past then backup_now past else primary_now past) (acts ∙ no_act)
    ∙ ap (λ b. if b then backup_now past else primary_now past) (moved_ ∙ no_move)

-- and that is the edge of its primary hop
pub primary_edge : (setting : Setting) (y : ℕ) (past : Past) (edge : Edge) (o : Option Duty) → HasDuties (IsPlanned setting y) past → duty_now past ≡ o
    → map_or o None (λ (u : Duty). u.primary) ≡ Some edge
    → option_map (edge_of setting.net y) (primary_of (plan_numbered setting (map_or o 0 (λ (u : Duty). u.epoch))) y) ≡ Some edge
primary_edge setting y past edge None has is same = cc
primary_edge setting y past edge (Some u) has is same = sym (ap (λ (v : Duty). v.primary) (has.duty u is)) ∙ same

parent_of_edge : (net : Network) (y : ℕ) (h : declared.Hop) (o : Option declared.Hop) (edge : Edge) → o ≡ Some h → option_map (edge_of net y) o ≡ Some edge
    → h.parent ≡ edge.parent
parent_of_edge net y h None edge is same = cc
parent_of_edge net y h (Some g) edge is same = ap (λ (k : declared.Hop). k.parent) (sym (some_is is)) ∙ ap (λ (k : Edge). k.parent) (some_is same)

-- by why it accepted
pub edge_above : (setting : Setting) (y epoch : ℕ) (past : Past) (m : Message) (edge : Edge) → HasDuties (IsPlanned setting y) past → m.epoch ≡ epoch
    → (epoch_now past ≡ epoch → (has_moved past ≡ false) × (is_acting past ≡ false))
    → Accepts past m edge → option_map (edge_of setting.net y) (primary_of (plan_numbered setting epoch) y) ≡ Some edge
edge_above setting y epoch past m edge has of_epoch stood (entering duty given number primary) =
    subst (λ n. option_map (edge_of setting.net y) (primary_of (plan_numbered setting n) y) ≡ Some edge) (number ∙ of_epoch)
    (entering_primary setting y past duty edge has given primary)
edge_above setting y epoch past m edge has of_epoch stood (following number parent newer) =
    let here = stood (number ∙ of_epoch) in
    subst (λ n. option_map (edge_of setting.net y) (primary_of (plan_numbered setting n) y) ≡ Some edge) (number ∙ of_epoch)
    (primary_edge setting y past edge (duty_now past) has refl (sym (on_primary_edge past (is_acting past) (has_moved past) refl refl here.1 here.0) ∙ parent))

-- an emission is of who acts, or has moved
emission_of : (past : Past) (call : Call) (transition : Transition) → transition_of past call ≡ transition → moments.is_emission transition ≡ true
    → has_moved past ≡ false → is_acting past ≡ false → ⊥
emission_of past call calls.Emitted is emission unmoved idle =
    let e : IsEmission past call = is_emission past call is in
    let acts : is_acting past ≡ true = (and_parts (is_acting past) _ e.emits).0 in
    cc
emission_of past call calls.TookOver is emission unmoved idle =
    let t : IsTakeover past call = is_takeover past call is in
    let moved_ : has_moved past ≡ true = (takeover_from_backup past t.counter t.takes).moved in
    cc
emission_of past call _ is emission unmoved idle = cc

-- and leaves the plan
emission_epoch : (past : Past) (call : Call) (transition : Transition) → transition_of past call ≡ transition → moments.is_emission transition ≡ true
    → epoch_now (after past call) ≡ epoch_now past
emission_epoch past call calls.Emitted is emission =
    ap (λ transition. epoch_now (record { making = past.making; did = record { call = call; transition = transition } ∷ past.did })) is
emission_epoch past call calls.TookOver is emission =
    ap (λ transition. epoch_now (record { making = past.making; did = record { call = call; transition = transition } ∷ past.did })) is
emission_epoch past call _ is emission = cc

-- so at each moment at which the device has neither moved nor acted in that plan
pub takes_from_above : (setting : Setting) → LinksTell setting → (stamp : Stamp) (epoch : ℕ) (q : Moment) (y : ℕ) → IsChronicle setting (upto q)
    → ((past : Past) → past_in q.earlier y ≡ Some past → epoch_now past ≡ epoch → (has_moved past ≡ false) × (is_acting past ≡ false))
    → TakesFromAbove setting (plan_numbered setting epoch) stamp epoch q y
takes_from_above setting tells stamp epoch q y is stood =
    record {
      takes = λ x from hop h primary.
          parent_of_edge setting.net y h (primary_of (plan_numbered setting epoch) y) hop.receipt.edge primary
          (edge_above setting y epoch hop.receipt.past hop.flight.message hop.receipt.edge
          (planned setting q.earlier y hop.receipt.past is.0 hop.receipt.there) hop.epoch_is (stood hop.receipt.past hop.receipt.there) hop.receipt.accepts)
          ∙ hop_parent setting stamp epoch from q x y is (tells epoch) hop;
      begins_none = λ m emits same number.
          let past = emits.sends.past in
          let call = emits.sends.call in
          let own : epoch_now past ≡ epoch =
          sym (emission_epoch past call (transition_of past call) refl emits.emission) ∙ sym (sends_own past call m emits.sends.effect).1 ∙ number in
          let here = stood past emits.sends.there own in
          emission_of past call (transition_of past call) refl emits.emission here.0 here.1;
    }
