use Rattle.std.proofs.Common.{map, not, length, ap, ◌∙◌, arith}
use Rattle.sd_num.specs.Lists.{below, has}
use Rattle.sd_plan.specs.topo.Topologies.{network}
use Rattle.sd_plan.proofs.Numbered.{length-numbered}
use Rattle.sd_planner.specs.Usable.{is_usable, takes_part}
use Rattle.sd_planner.specs.Gathered.{over_links}
use Rattle.sd_planner.proofs.Turned.{all_is, rows_within}
use Rattle.sd_planner.proofs.present.Present.new.Goals as goal

pub usable_links-requires-clause-members : goal.usable_links-requires-clause-members
usable_links-requires-clause-members c =
    c.deref.ensures.value ∙ c.in_ok-members.ensures
    ∙ ap (λ xs. map (λ x. not (has xs x)) (below c.devices.result)) c.as_slice.ensures
    ∙ ap (λ n. map (takes_part (network c.args.topo.now) c.args.absent.now) (below n)) c.devices.ensures

pub neighbours_by_link-requires : goal.neighbours_by_link-requires
neighbours_by_link-requires c =
    let net = network c.args.topo.now in
    record { flags = ap length (c.deref-2.ensures.value ∙ c.in_ok-usable.ensures) ∙ length-numbered (is_usable net c.args.absent.now) (length net.links) }

pub neighbours_by_number-requires-clause-few : goal.neighbours_by_number-requires-clause-few
neighbours_by_number-requires-clause-few c =
    let net = network c.args.topo.now in
    omega (
      arith,
      ap length (c.deref-3.ensures.value ∙ c.in_ok-by_link.ensures),
      length-numbered (over_links net c.deref-2.result.now)
          (length net.devices),
      c.args.topo.now.is_network.devices,
    )

pub neighbours_by_number-requires-clause-within : goal.neighbours_by_number-requires-clause-within
neighbours_by_number-requires-clause-within c =
    rows_within (network c.args.topo.now) c.deref-2.result.now c.deref-3.result.now c.args.topo.now.is_network
    (c.deref-3.ensures.value ∙ c.in_ok-by_link.ensures)

pub invariant_of-result : goal.invariant_of-result
invariant_of-result c =
    record {
      is_absent = c.requires.absent;
      members_are =
          c.in_ok-members.ensures
          ∙ ap (λ xs. map (λ x. not (has xs x)) (below c.devices.result)) c.as_slice.ensures
          ∙ ap (λ n. map (takes_part (network c.args.topo.now) c.args.absent.now) (below n)) c.devices.ensures;
      rows_are =
          all_is (network c.args.topo.now) c.args.absent.now c.deref-2.result.now c.deref-3.result.now c.in_ok-rows.rows.items c.args.topo.now.is_network
          (c.deref-2.ensures.value ∙ c.in_ok-usable.ensures) (c.deref-3.ensures.value ∙ c.in_ok-by_link.ensures) c.in_ok-rows.ensures;
    }
