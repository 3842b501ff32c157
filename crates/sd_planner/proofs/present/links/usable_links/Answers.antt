use Rattle.std.proofs.Common.{ap, ◌∙◌, not, ◌++◌, ◌∷◌, [], sym, length, map, arith}
use Rattle.sd_num.specs.Lists.{has, below}
use Rattle.sd_plan.specs.topo.Topologies.{network}
use Rattle.sd_plan.proofs.Numbered.{length-numbered, numbered_more}
use Rattle.sd_planner.specs.Usable.{is_usable, takes_part}
use Rattle.sd_planner.proofs.Flags.{flags_usable}
use Rattle.sd_planner.proofs.present.links.usable_links.Goals as goal

pub is_flagged-requires-clause-members : goal.is_flagged-requires-clause-members
is_flagged-requires-clause-members c =
    let net = network c.args.topo.now in
    ap length c.requires.members ∙ length-numbered (takes_part net c.args.absent.now) (length net.devices)

pub is_flagged-requires-clause-links : goal.is_flagged-requires-clause-links
is_flagged-requires-clause-links c =
    ap length (c.deref.ensures.value ∙ c.in_ok-links.ensures) ∙ length-numbered (λ x. not (has c.as_slice.result.now x)) c.links.result ∙ c.links.ensures

pub loop-l-preserved : goal.loop-l-preserved
loop-l-preserved c =
    let net = network c.args.topo.now in
    c.in-Ok.ensures.items ∙ ap (λ xs. xs ++ c.is_flagged.result ∷ []) c.loop-l.invariant
    ∙ ap (λ b. map (is_usable net c.args.absent.now) (below c.loop-l.l) ++ b ∷ [])
    (c.is_flagged.ensures
    ∙ flags_usable net c.args.absent.now c.loop-l.l c.args.members.now c.deref.result.now c.as_slice.result.now c.args.topo.now.is_network
    (omega (arith, c.links-l-end.ensures)) c.requires.members c.as_slice.ensures
    (c.deref.ensures.value ∙ c.in_ok-links.ensures ∙ ap (λ n. map (λ x. not (has c.as_slice.result.now x)) (below n)) c.links.ensures))
    ∙ sym (numbered_more (is_usable net c.args.absent.now) c.loop-l.l)
