use Rattle.std.proofs.Common.{◌≡◌, length, map, subst, sym, ap, ◌∙◌, arith}
use Rattle.std.proofs.lemmas.List.{length-replicate}
use Rattle.sd_num.specs.Lists.{below}
use Rattle.sd_plan.specs.topo.Network.{device_numbers}
use Rattle.sd_plan.specs.topo.Topologies.{network}
use Rattle.sd_plan.specs.IndexedPlan.{usable_ends, no_span}
use Rattle.sd_plan.specs.Joining.{part_of, AreOrdered}
use Rattle.sd_plan.specs.Subtrees.{children}
use Rattle.sd_plan.proofs.Numbered.{length-numbered}
use Rattle.sd_plan.proofs.Below.{AreChildren}
use Rattle.sd_plan.proofs.Indexing.{root_within, root_room, index_is, parts_are, carried_devices}
use Rattle.sd_plan.proofs.index.WalkIndex.new.Goals as goal

pub preorder-requires-clause-within : goal.preorder-requires-clause-within
preorder-requires-clause-within c =
    root_within (network c.args.topo.now) c.args.plan.now c.deref.result.now c.params.result.depth c.requires.fits c.requires.structured
    (c.deref.ensures.value ∙ c.in_ok-children.ensures) (ap (λ p. p.depth) c.params.ensures)

pub preorder-requires-clause-room : goal.preorder-requires-clause-room
preorder-requires-clause-room c =
    omega (
      arith,
      root_room (network c.args.topo.now) c.args.plan.now c.deref.result.now c.params.result.depth c.requires.fits c.requires.structured
          (c.deref.ensures.value ∙ c.in_ok-children.ensures) (ap (λ p. p.depth) c.params.ensures),
      c.args.topo.now.is_network.devices,
    )

pub invariant_of-result : goal.invariant_of-result
invariant_of-result c =
    let net = network c.args.topo.now in
    let rows : length c.deref-2.result.now ≡ length net.devices =
    ap length (c.deref-2.ensures.value ∙ c.in_ok-rows.ensures) ∙ length-numbered (usable_ends net c.args.plan.now) (length net.devices) in
    let lists : length c.deref.result.now ≡ length net.devices =
    ap length (c.deref.ensures.value ∙ c.in_ok-children.ensures) ∙ length-numbered (children net c.args.plan.now) (length net.devices) in
    let spans : length c.in_ok-places.places.spans.items ≡ length net.devices =
    c.in_ok-places.ensures.size ∙ length-replicate (length c.deref.result.now) no_span ∙ lists in
    record {
      ordered = subst (λ n. AreOrdered n c.in_ok-joined.joined.ends.items c.in_ok-joined.joined.offsets.items)
          (rows ∙ sym spans) c.in_ok-joined.ensures.ordered;
      cut = omega (arith, c.requires.fits.backup_root, spans);
      children = carried_devices net c.args.plan.now c.in_ok-carried.carried.items (length c.in_ok-places.places.spans.items) c.in_ok-carried.ensures spans;
    }

pub returns : goal.returns
returns c =
    let net = network c.args.topo.now in
    let are : AreChildren net c.args.plan.now c.deref.result.now = c.deref.ensures.value ∙ c.in_ok-children.ensures in
    let lists : length c.deref.result.now ≡ length net.devices = ap length are ∙ length-numbered (children net c.args.plan.now) (length net.devices) in
    let spans : length c.in_ok-places.places.spans.items ≡ length net.devices =
    c.in_ok-places.ensures.size ∙ length-replicate (length c.deref.result.now) no_span ∙ lists in
    let parts =
    parts_are (usable_ends net c.args.plan.now) (length net.devices) c.deref-2.result.now c.in_ok-joined.joined.ends.items c.in_ok-joined.joined.offsets.items
    (c.deref-2.ensures.value ∙ c.in_ok-rows.ensures) c.in_ok-joined.ensures
    in
    index_is net c.args.plan.now c.deref.result.now c.params.result.depth c.in_ok-places.places.order.items c.in_ok-places.places.spans.items
    c.in_ok-carried.carried.items _ c.requires.fits c.requires.structured are
    (ap (λ p. p.depth) c.params.ensures) c.in_ok-places.ensures c.in_ok-carried.ensures
    (subst (λ n. map (part_of c.in_ok-joined.joined.ends.items c.in_ok-joined.joined.offsets.items) (below n)
    ≡ map (usable_ends net c.args.plan.now) (device_numbers net)) (sym spans) parts)
