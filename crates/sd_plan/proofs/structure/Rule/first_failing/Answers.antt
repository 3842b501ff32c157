use Rattle.std.proofs.Common.{ℕ, not, option_map, ap, sym, arith, length}
use Rattle.sd_plan.specs.topo.Topologies.{network}
use Rattle.sd_plan.specs.Rules.{keeps, number_of}
use Rattle.sd_num.proofs.Firsts.{find_below_here, find_below_more}
use Rattle.sd_plan.proofs.structure.Rule.first_failing.Goals as goal

pub returns-then-not-is_kept_at : goal.returns-then-not-is_kept_at
returns-then-not-is_kept_at c =
    let net = network c.args.topo.now in
    let within = c.loop-d-test.true in
    ap (option_map (λ (d : ℕ). (number_of c.args.self, d)))
    (sym (find_below_here (λ d. not (keeps c.args.self net c.args.plan.now d)) c.loop-d.d (length net.devices)
    (omega (arith, within, c.devices-d-end.ensures)) c.loop-d.invariant (ap not (sym (c.if-not-is_kept_at.ensures)))))

pub loop-d-preserved : goal.loop-d-preserved
loop-d-preserved c =
    find_below_more (λ d. not (keeps c.args.self (network c.args.topo.now) c.args.plan.now d)) c.loop-d.d c.loop-d.invariant
    (ap not (sym (c.if-not-is_kept_at.ensures)))
