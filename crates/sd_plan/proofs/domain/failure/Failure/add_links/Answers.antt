use Rattle.std.proofs.Common.{◌<◌, length, get_or, ap, ◌∙◌, refl, arith}
use Rattle.std.specs.FinSet as set
use Rattle.sd_plan.proofs.domain.Adding.{added_more}
use Rattle.sd_plan.proofs.domain.failure.Failure.add_links.Goals as goal

pub loop-l-preserved : goal.loop-l-preserved
loop-l-preserved c =
    let i = c.loop-l.l-index in
    let xs = c.args.links.now in
    let kept = c.loop-l.invariant in
    let within : i < length xs = omega arith in
    record {
      added = λ d. ap (λ f. set.contains f.links d) c.add.ensures
          ∙ added_more xs i (get_or xs i 0) c.args.self.now.links c.loop-l.self.links within refl kept.added d;
      devices = ap (λ f. f.devices) c.add.ensures ∙ kept.devices;
      device_room = ap (λ f. f.device_room) c.add.ensures ∙ kept.device_room;
      link_room = ap (λ f. f.link_room) c.add.ensures ∙ kept.link_room;
    }
