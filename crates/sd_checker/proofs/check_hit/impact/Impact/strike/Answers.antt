use Rattle.std.proofs.Common.{◌≡◌, ◌<◌, length, All, ap, sym, ◌∙◌, subst, arith}
use Rattle.sd_plan.specs.topo.Topologies.{network}
use Rattle.sd_checker.proofs.check_hit.HitList.{hit_within, hit_once, hit_few}
use Rattle.sd_checker.proofs.check_hit.impact.Impact.strike.Goals as goal

pub note_places-requires-clause-within : goal.note_places-requires-clause-within
note_places-requires-clause-within c =
    let net = network c.args.planned.topo.now in
    let room : length net.devices ≡ length c.deref_mut.result.now = sym (ap length c.deref_mut.ensures.value ∙ c.requires.room.places) in
    subst (λ n. All (λ d. d < n) c.as_slice.result.now) room
    (hit_within net c.args.planned.plan.now c.args.domain c.as_slice.result.now (c.as_slice.ensures ∙ c.in_ok-self.ensures))

pub note_places-requires-clause-once : goal.note_places-requires-clause-once
note_places-requires-clause-once c =
    hit_once (network c.args.planned.topo.now) c.args.planned.plan.now c.args.domain c.as_slice.result.now (c.as_slice.ensures ∙ c.in_ok-self.ensures)

pub note_places-requires-clause-room : goal.note_places-requires-clause-room
note_places-requires-clause-room c =
    omega (
      arith,
      hit_few (network c.args.planned.topo.now) c.args.planned.plan.now c.args.domain c.as_slice.result.now
          (c.as_slice.ensures ∙ c.in_ok-self.ensures),
      c.args.planned.topo.now.is_network.devices.1,
    )
