-- A hop that a round took once nothing failed any more: its device did not fail and does not act, it is on the hop of the plan that leads to the sender, and
-- the
-- link of that did not fail.
use Rattle.std.specs.Prelude.{◌≡◌, ℕ, ◌+◌, ◌<◌, ◌≤◌, Bool, true, false, List, ◌∷◌, length, Option, Some, None, option_map, refl, ◌⊎◌, if◌then◌else◌}
use Rattle.std.proofs.Common.{arith, ap, sym, ◌∙◌, subst, inl, inr}
use Rattle.std.proofs.lemmas.Bool.{or_right}
use Rattle.sd_num.specs.Lists.{map_or}
use Rattle.sd_plan.specs.topo.Network.{Network}
use Rattle.sd_plan.specs.declared.topo.Thing.{Thing}
use Rattle.sd_plan.specs.declared.topo.Thing.TheVariants as thing
use Rattle.sd_plan.specs.declared.Duty.{Duty}
use Rattle.sd_plan.specs.declared.Edge.{Edge}
use Rattle.sd_plan.specs.declared.Hop as declared
use Rattle.sd_plan.specs.declared.PlanRow.{PlanRow}
use Rattle.sd_plan.specs.declared.Plan.{Plan}
use Rattle.sd_plan.specs.Duties.{duty_of, edge_of}
use Rattle.sd_plan.specs.Plans.{is_member, is_root, has_row, row_of, primary_of, backup_of}
use Rattle.sd_plan.proofs.Rules.{KeepsRules, member_is}
use Rattle.sd_device.specs.declared.msg.Stamp.{Stamp}
use Rattle.sd_device.specs.declared.msg.Message.{Message}
use Rattle.sd_device.specs.Words as words
use Rattle.sd_device.specs.Calls.{Past}
use Rattle.sd_device.specs.Words.{duty_now, has_moved, is_acting, parent_edge, backup_now, primary_now}
use Rattle.sd_sched.specs.declared.Event.{Event}
use Rattle.sd_history.specs.World.{Setting, is_up, plan_numbered}
use Rattle.sd_history.specs.Steps.{seen_of, acts_in}
use Rattle.sd_history.specs.Chronicle.{past_in, chronicle}
use Rattle.sd_history.proofs.Given.{some_is}
use Rattle.sd_history.proofs.Known.{admitted_up_is_known}
use Rattle.sd_safety.specs.invariant.Eras.{era, is_among, failed_now, moved}
use Rattle.sd_safety.proofs.invariant.Facts.{IsSound}
use Rattle.sd_safety.specs.messages.Moments.{IsChronicle, Moment, upto, when, IsIn, Accepts, entering, following}
use Rattle.sd_safety.specs.messages.Traces.{Hop}
use Rattle.sd_safety.proofs.messages.Tails.{tail_trans, rest_of, tail_chronicle, before_is_earlier}
use Rattle.sd_safety.specs.messages.Hops.{IsPlanHop, Leads}
use Rattle.sd_safety.proofs.messages.Parents.{hop_in_plan, hop_parent}
use Rattle.sd_safety.proofs.frame.Telling.{links_tell}
use Rattle.sd_safety.proofs.waits.Standing.{clean, sound}
use Rattle.sd_safety.proofs.moves.Ahead.{IsAhead, always_ahead}
use Rattle.sd_bound.specs.timeouts.Settled.{the_plan, IsSettled, IsSoundMember, Place, Scene, hop_on}
use Rattle.sd_bound.proofs.timeouts.Settled.{era_is, all_chronicle, StageAt, stage_at}
use Rattle.sd_bound.proofs.timeouts.Scenes.{scene_at}

-- who has a hop is a member
row_there : (plan : Plan) (d : ℕ) (o : Option PlanRow) (hop : declared.Hop)
    → (option_map (λ row. row.primary) o ≡ Some hop) ⊎ (map_or o None (λ (row : PlanRow). row.backup) ≡ Some hop) → map_or o false (λ row. true) ≡ true
row_there plan d None hop (inl is) = cc
row_there plan d None hop (inr is) = cc
row_there plan d (Some row) hop is = refl

pub hop_member : (net : Network) (plan : Plan) → KeepsRules net plan → (d : ℕ) → d < length net.devices → (hop : declared.Hop) → IsPlanHop plan d hop
    → is_member plan d ≡ true
hop_member net plan rules d known hop is = sym (member_is net plan d rules known)
    ∙ or_right (is_root plan d) (has_row plan d) (row_there plan d (row_of plan d) hop is)

-- the edge to a parent is that of a hop
pub record IsEdgeOf (plan : Plan) (d : ℕ) (put : Bool) (edge : Edge) : Type 0 where
  pub hop : declared.Hop
  pub is : hop_on plan put d ≡ Some hop
  pub link : hop.link ≡ edge.link
  pub parent : hop.parent ≡ edge.parent

map_edge : (net : Network) (plan : Plan) (d : ℕ) (put : Bool) (o : Option declared.Hop) (edge : Edge) → hop_on plan put d ≡ o
    → option_map (edge_of net d) o ≡ Some edge → IsEdgeOf plan d put edge
map_edge net plan d put None edge is same = cc
map_edge net plan d put (Some hop) edge is same =
    let equal = some_is same in
    record { hop = hop; is = is; link = ap (λ (k : Edge). k.link) equal; parent = ap (λ (k : Edge). k.parent) equal }

edge_hop : (net : Network) (plan : Plan) (n d : ℕ) (past : Past) (edge : Edge) (a m : Bool) → is_acting past ≡ a → has_moved past ≡ m
    → duty_now past ≡ Some (duty_of net plan n d) → parent_edge past ≡ Some edge → (a ≡ false) × IsEdgeOf plan d m edge
edge_hop net plan n d past edge true m acts put duty is =
    let clash : None ≡ Some edge = sym (ap (λ b. if b then None else if has_moved past then backup_now past else primary_now past) acts) ∙ is in
    cc
edge_hop net plan n d past edge false true acts put duty is = (
  refl,
  map_edge net plan d true (backup_of plan d) edge refl
      (sym (ap (λ (o : Option Duty). map_or o None (λ u. u.backup)) duty)
      ∙ sym (ap (λ b. if b then backup_now past else primary_now past) put)
      ∙ sym (ap (λ b. if b then None else if has_moved past then backup_now past else primary_now past) acts) ∙ is),
)
edge_hop net plan n d past edge false false acts put duty is = (
  refl,
  map_edge net plan d false (primary_of plan d) edge refl
      (sym (ap (λ (o : Option Duty). map_or o None (λ u. u.primary)) duty)
      ∙ sym (ap (λ b. if b then backup_now past else primary_now past) put)
      ∙ sym (ap (λ b. if b then None else if has_moved past then backup_now past else primary_now past) acts) ∙ is),
)

two_numbers : (n k j : ℕ) → n ≡ j → k ≡ n + 1 → k ≡ j → ⊥
two_numbers n k j one two three = omega (arith, one, two, three)

-- the device of such a hop
pub record Came (setting : Setting) (epoch : ℕ) (failed : List Thing) (to : Moment) (x d : ℕ) : Type 0 where
  pub well : IsSoundMember setting epoch failed d
  pub hop : declared.Hop
  pub is : hop_on (the_plan setting epoch) (moved to.earlier d) d ≡ Some hop
  pub parent : hop.parent ≡ x
  pub link : is_among failed (thing.Link hop.link) ≡ false
  pub still : acts_in to.earlier d ≡ false

module _ (setting : Setting) (epoch : ℕ) (history : List Event) (e : Event) (calm : ℕ) (settled : IsSettled setting epoch history e calm) where
  abbrev failed : List Thing
  failed = failed_now (chronicle setting history)

  -- the plan of the run is guarded
  pub fine_at : (q : Moment) → IsIn q (chronicle setting (e ∷ history)) → calm < when q → IsSound setting.net (plan_numbered setting epoch)
  fine_at q here late =
      let st : StageAt setting epoch calm (chronicle setting history) q = stage_at setting epoch history e calm settled q here late in
      subst (λ n. IsSound setting.net (plan_numbered setting n)) (era_is setting epoch (st.x ∷ st.h) st.e calm st.settled)
      (sound setting st.x st.h st.e st.settled.comes)

  -- who is up is a device of the network
  pub known_at : (q : Moment) → IsIn q (chronicle setting (e ∷ history)) → calm < when q → (d : ℕ) → is_up (seen_of q.earlier) d ≡ true
      → d < length setting.net.devices
  known_at q here late d up =
      let st : StageAt setting epoch calm (chronicle setting history) q = stage_at setting epoch history e calm settled q here late in
      admitted_up_is_known setting (st.x ∷ st.h) st.settled.comes.clean.is.0 d (subst (λ (p : Moment). is_up (seen_of p.earlier) d ≡ true) st.is up)

  -- nothing is given
  none_ahead : (q : Moment) → IsIn q (chronicle setting (e ∷ history)) → calm < when q → (d : ℕ) → is_up (seen_of q.earlier) d ≡ true → (past : Past)
      → past_in q.earlier d ≡ Some past → (u : Duty) → words.given_now past ≡ Some u → u.epoch ≡ epoch → ⊥
  none_ahead q here late d up past there u given number =
      let st : StageAt setting epoch calm (chronicle setting history) q = stage_at setting epoch history e calm settled q here late in
      let ahead : IsAhead setting (chronicle setting (st.x ∷ st.h)) d past u =
      always_ahead setting (st.x ∷ st.h) st.settled.comes.fair (clean setting st.x st.h st.e st.settled.comes) st.settled.comes.before d past
      (subst (λ (p : Moment). is_up (seen_of p.earlier) d ≡ true) st.is up)
      (subst (λ (p : Moment). past_in p.earlier d ≡ Some past) st.is there) u given in
      two_numbers (era (chronicle setting (st.x ∷ st.h))) u.epoch epoch (era_is setting epoch (st.x ∷ st.h) st.e calm st.settled) ahead.number number

  pub came : (stamp : Stamp) (from to : Moment) (x d : ℕ) → IsIn to (chronicle setting (e ∷ history)) → calm < when from → Hop setting stamp epoch from x to d
      → Came setting epoch (failed_now (chronicle setting history)) to x d
  came stamp from to x d to_in late hop =
      let chronicle_ : IsChronicle setting (upto to) = tail_chronicle setting to_in (all_chronicle setting epoch history e calm settled) in
      let from_in : IsIn from (chronicle setting (e ∷ history)) = tail_trans hop.before (rest_of to_in) in
      let goes : when from ≤ when to = before_is_earlier setting from to chronicle_ hop.before in
      let to_late : calm < when to = omega (arith, late, goes) in
      let fine : IsSound setting.net (plan_numbered setting epoch) = fine_at from from_in late in
      let then_ : Scene setting epoch (failed_now (chronicle setting history)) from = scene_at setting epoch history e calm settled from from_in late in
      let now_ : Scene setting epoch (failed_now (chronicle setting history)) to = scene_at setting epoch history e calm settled to to_in to_late in
      let led : Leads (plan_numbered setting epoch) d x hop.flight.link = hop_in_plan setting stamp epoch from to x d chronicle_ hop in
      let known : d < length setting.net.devices = known_at from from_in late d hop.receiver_up in
      let member : is_member (plan_numbered setting epoch) d ≡ true = hop_member setting.net (plan_numbered setting epoch) fine.rules d known led.hop led.is in
      let well : IsSoundMember setting epoch (failed_now (chronicle setting history)) d =
      record { known = known; member = member; self = then_.well d hop.receiver_up member } in
      let place : Place setting epoch to d = now_.place d well in
      let r = hop.receipt in
      let same : r.past ≡ place.past = some_is (sym r.there ∙ place.there) in
      let edge : parent_edge r.past ≡ Some r.edge = edge_by to to_in to_late d place.up r.past r.there hop.flight.message r.edge hop.epoch_is r.accepts in
      let found = edge_hop setting.net (plan_numbered setting epoch) epoch d place.past r.edge (is_acting place.past) (has_moved place.past) refl refl place.duty
      (sym (ap parent_edge same) ∙ edge) in
      let sound_link : is_among (failed_now (chronicle setting history)) (thing.Link hop.flight.link) ≡ false = then_.sound hop.flight.link hop.link_whole in
      record {
        well = well;
        hop = found.1.hop;
        is = ap (λ b. hop_on (the_plan setting epoch) b d) place.moved_is ∙ found.1.is;
        parent = found.1.parent ∙ hop_parent setting stamp epoch from to x d chronicle_ (links_tell settled.comes.fair epoch) hop;
        link = subst (λ l. is_among (failed_now (chronicle setting history)) (thing.Link l) ≡ false) (sym (found.1.link ∙ r.link)) sound_link;
        still = place.acts_is ∙ found.0;
      }
    where
      edge_by : (q : Moment) → IsIn q (chronicle setting (e ∷ history)) → calm < when q → (d : ℕ) → is_up (seen_of q.earlier) d ≡ true → (past : Past)
          → past_in q.earlier d ≡ Some past → (m : Message) (edge : Edge) → m.epoch ≡ epoch → Accepts past m edge → parent_edge past ≡ Some edge
      edge_by q here late d up past there m edge number (entering duty given of primary) =
          absurd (none_ahead q here late d up past there duty given (of ∙ number))
      edge_by q here late d up past there m edge number (following own parent newer) = parent
