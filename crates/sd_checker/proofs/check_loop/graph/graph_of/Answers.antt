use Rattle.std.proofs.Common.{◌<◌, length, get_or, arith}
use Rattle.std.proofs.lemmas.Option.{slice_get-get_or}
use Rattle.sd_checker.specs.check_hit.Outages.{net_of, plan_of}
use Rattle.sd_checker.proofs.check_hit.HitList.{hit_at}
use Rattle.sd_checker.proofs.check_loop.graph.graph_of.Goals as goal

pub successors_of-requires : goal.successors_of-requires
successors_of-requires c =
    let o = c.args.outage.now in
    let hit = o.hit.now in
    let k = c.loop-d.d-index in
    let inside : k < length hit = omega arith in
    (hit_at (net_of o) (plan_of o) o.domain hit k (get_or hit k 0) o.hits (slice_get-get_or hit k 0 inside)).1
