use Rattle.std.proofs.Common.{◌<◌, length, get_or, ap, ◌∙◌, refl, arith}
use Rattle.std.specs.FinSet as set
use Rattle.sd_plan.proofs.domain.Adding.{added_more}
use Rattle.sd_plan.proofs.domain.failure.Failure.add_devices.Goals as goal

pub loop-d-preserved : goal.loop-d-preserved
loop-d-preserved c =
    let i = c.loop-d.d-index in
    let xs = c.args.devices.now in
    let kept = c.loop-d.invariant in
    let within : i < length xs = omega arith in
    record {
      added = λ d. ap (λ f. set.contains f.devices d) c.add.ensures
          ∙ added_more xs i (get_or xs i 0) c.args.self.now.devices c.loop-d.self.devices within refl kept.added d;
      links = ap (λ f. f.links) c.add.ensures ∙ kept.links;
      device_room = ap (λ f. f.device_room) c.add.ensures ∙ kept.device_room;
      link_room = ap (λ f. f.link_room) c.add.ensures ∙ kept.link_room;
    }
