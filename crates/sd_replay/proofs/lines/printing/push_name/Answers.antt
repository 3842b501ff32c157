use Rattle.std.proofs.Common.{◌≤◌, ℕ, List, length, arith, subst, sym, ap, ◌∙◌}
use Rattle.std.proofs.lemmas.List.{length-append}
use Rattle.sd_plan.specs.topo.Topologies.{network}
use Rattle.sd_replay.specs.lines.Printed.{printed}
use Rattle.sd_replay.proofs.lines.Names.{name_short}
use Rattle.sd_replay.proofs.lines.printing.push_name.Goals as goal

pub push-requires : goal.push-requires
push-requires c =
    let short : length c.as_bytes.result.now ≤ 64 =
    subst (λ (name : List ℕ). length name ≤ 64) (sym (c.as_bytes.ensures.value ∙ c.device_name.ensures))
    (name_short (network c.args.topo.now) c.args.d c.args.topo.now.is_network) in
    omega (arith, short, c.requires.room)

pub returns-clause-short : goal.returns-clause-short
returns-clause-short c =
    let short : length c.as_bytes.result.now ≤ 64 =
    subst (λ (name : List ℕ). length name ≤ 64) (sym (c.as_bytes.ensures.value ∙ c.device_name.ensures))
    (name_short (network c.args.topo.now) c.args.d c.args.topo.now.is_network) in
    let all = ap length c.push.ensures ∙ length-append (printed c.args.out.now) c.as_bytes.result.now in
    omega (arith, short, all)
