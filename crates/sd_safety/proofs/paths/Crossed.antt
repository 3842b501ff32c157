-- Up a walk along a trace: where each device of the walk but the root took the round over its primary hop, the round crossed each link and each device of the
-- walk at the moment at which it was emitted, or later.
use Rattle.std.specs.Prelude.{◌≡◌, ℕ, zero, suc, Bool, true, false, ◌||◌, List, [], ◌∷◌, map, nat_eq, Option, Some, None, option_map, refl}
use Rattle.std.specs.List.{list_any}
use Rattle.std.proofs.Common.{◌∙◌, ap, sym, subst}
use Rattle.std.proofs.lemmas.Bool.{or_left, or_right, or_from, eq-eqb}
use Rattle.sd_num.specs.Lists.{has}
use Rattle.sd_plan.specs.topo.Network.{Network}
use Rattle.sd_plan.specs.declared.topo.Thing.{Thing}
use Rattle.sd_plan.specs.declared.topo.Thing.TheVariants as thing
use Rattle.sd_plan.specs.declared.Edge.{Edge}
use Rattle.sd_plan.specs.declared.Hop as declared
use Rattle.sd_plan.specs.declared.Plan.{Plan}
use Rattle.sd_plan.specs.Plans.{is_root, primary_of}
use Rattle.sd_plan.specs.Duties.{edge_of}
use Rattle.sd_plan.specs.Walks.{things_of}
use Rattle.sd_device.specs.declared.msg.Stamp.{Stamp}
use Rattle.sd_device.specs.Calls.{Past}
use Rattle.sd_device.specs.Words.{epoch_now, has_moved, is_acting}
use Rattle.sd_history.specs.World.{Setting, link_has_failed, plan_numbered}
use Rattle.sd_history.specs.Steps.{seen_of}
use Rattle.sd_history.specs.Chronicle.{past_in}
use Rattle.sd_history.proofs.Given.{some_is}
use Rattle.sd_safety.specs.messages.Moments.{behind, IsChronicle, Moment, upto, IsIn, IsBefore}
use Rattle.sd_safety.specs.messages.Traces.{Hop, Trace, begins, goes_on}
use Rattle.sd_safety.proofs.messages.Tails.{tail_trans}
use Rattle.sd_safety.proofs.messages.Parents.{planned}
use Rattle.sd_safety.proofs.messages.Latest.{trace_first}
use Rattle.sd_safety.proofs.silences.WalkWays.{Walks, over, walks, IsPrimary}
use Rattle.sd_safety.specs.frame.Descents.{TakesFromAbove}
use Rattle.sd_safety.proofs.messages.Flowing.{tail_rest}
use Rattle.sd_safety.proofs.frame.Descending.{edge_above}

-- The link over which a device that has neither moved nor acts accepts is that of its primary hop.

link_of_edge : (net : Network) (y : ℕ) (h : declared.Hop) (o : Option declared.Hop) (edge : Edge) → o ≡ Some h → option_map (edge_of net y) o ≡ Some edge
    → h.link ≡ edge.link
link_of_edge net y h None edge is same = cc
link_of_edge net y h (Some g) edge is same = ap (λ (k : declared.Hop). k.link) (sym (some_is is)) ∙ ap (λ (k : Edge). k.link) (some_is same)

pub over_primary : (setting : Setting) (stamp : Stamp) (epoch : ℕ) (from q : Moment) (x y : ℕ) → IsChronicle setting (upto q)
    → (hop : Hop setting stamp epoch from x q y)
    → ((past : Past) → past_in q.earlier y ≡ Some past → epoch_now past ≡ epoch → (has_moved past ≡ false) × (is_acting past ≡ false)) → (h : declared.Hop)
    → primary_of (plan_numbered setting epoch) y ≡ Some h → h.link ≡ hop.flight.link
over_primary setting stamp epoch from q x y is hop stood h primary =
    link_of_edge setting.net y h (primary_of (plan_numbered setting epoch) y) hop.receipt.edge primary
    (edge_above setting y epoch hop.receipt.past hop.flight.message hop.receipt.edge
    (planned setting q.earlier y hop.receipt.past is.0 hop.receipt.there) hop.epoch_is (stood hop.receipt.past hop.receipt.there) hop.receipt.accepts)
    ∙ hop.receipt.link

-- What is false of each link that was whole, and of each device that sent, at such a moment is false of all things of the walk.

module _ (setting : Setting) (plan : Plan) (stamp : Stamp) (epoch : ℕ) (p : Moment) (on : ℕ → Bool)
    (down : (y : ℕ) → on y ≡ true → is_root plan y ≡ false → (q : Moment) → IsIn q (upto p) → TakesFromAbove setting plan stamp epoch q y)
    (straight : (y : ℕ) → on y ≡ true → is_root plan y ≡ false → (q : Moment) → IsIn q (upto p) → (from : Moment) (x : ℕ)
    → (hop : Hop setting stamp epoch from x q y) → (h : declared.Hop) → primary_of plan y ≡ Some h → h.link ≡ hop.flight.link)
    (first : Moment) (source : ℕ) (bad : Thing → Bool) (links : (from : Moment) → IsIn first (upto from) → IsIn from (upto p) → (l : ℕ)
    → link_has_failed (seen_of from.earlier) l ≡ false → bad (thing.Link l) ≡ false)
    (senders : (from : Moment) → IsIn first (upto from) → IsIn from (upto p) → (m z : ℕ) → Trace setting stamp epoch first source m from z
    → bad (thing.Device z) ≡ false) where
  abbrev parents : List declared.Hop → List ℕ
  parents hs = map (λ (h : declared.Hop). h.parent) hs

  pub crossed : (hs : List declared.Hop) (y : ℕ) → Walks plan (IsPrimary plan) y hs → (q : Moment) (m : ℕ) → Trace setting stamp epoch first source m q y
      → IsIn q (upto p) → on y ≡ true → ((z : ℕ) → has (parents hs) z ≡ true → on z ≡ true)
      → list_any bad (things_of hs) ≡ false
  crossed [] y over q m trace here on_ within = refl
  crossed (h ∷ hs) y (walks at rest) q zero (begins message emits carries epoch_is) here on_ within =
      absurd ((down y on_ at.1 first here).begins_none message emits carries epoch_is)
  crossed (h ∷ hs) y (walks at rest) q (suc m) (goes_on {from = from} {x = z} trace hop) here on_ within =
      let parent : h.parent ≡ z = (down y on_ at.1 q here).takes z from hop h at.0 in
      let before : IsBefore from p = tail_trans hop.before (tail_rest here) in
      let since : IsIn first (upto from) = trace_first setting stamp epoch first source m from z trace in
      let up : Trace setting stamp epoch first source m from h.parent = subst (λ v. Trace setting stamp epoch first source m from v) (sym parent) trace in
      let link : bad (thing.Link h.link) ≡ false =
      links from since (behind before) h.link
      (subst (λ l. link_has_failed (seen_of from.earlier) l ≡ false) (sym (straight y on_ at.1 q here from z hop h at.0)) hop.link_whole) in
      or_from (bad (thing.Link h.link)) (bad (thing.Device h.parent) || list_any bad (things_of hs)) link
      (or_from (bad (thing.Device h.parent)) (list_any bad (things_of hs)) (senders from since (behind before) m h.parent up)
      (crossed hs h.parent rest from m up (behind before)
      (within h.parent (or_left (nat_eq h.parent h.parent) (has (parents hs) h.parent) (eq-eqb h.parent h.parent refl)))
      (λ v a. within v (or_right (nat_eq v h.parent) (has (parents hs) v) a))))
