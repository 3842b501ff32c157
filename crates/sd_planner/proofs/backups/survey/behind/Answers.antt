use Rattle.std.proofs.Common.{set, true, false, length, replicate, ap, ◌∙◌, arith}
use Rattle.std.proofs.lemmas.List.{length-set, length-replicate}
use Rattle.std.proofs.lemmas.Result.{IfOk-weaker}
use Rattle.sd_planner.proofs.FoundDevices.{over_one}
use Rattle.sd_planner.proofs.backups.survey.behind.Goals as goal

pub returns : goal.returns
returns c =
    IfOk-weaker c.led_over.result _ _ (λ over are.
    over_one c.args.placement.now.order c.args.device c.devices.result c.links.result c.as_slice.result.now c.as_slice-2.result.now over.items
    (omega (arith, c.requires.range, c.devices.ensures)) (c.as_slice.ensures.value ∙ ap (λ items. set items c.args.device true) c.in_ok-devices.ensures)
    (c.as_slice-2.ensures.value ∙ c.in_ok-links.ensures) are) c.led_over.ensures

pub led_over-requires : goal.led_over-requires
led_over-requires c =
    let t = c.requires.grown in
    record {
      net = t.net;
      root = t.root;
      absent = t.absent;
      grown = t.grown;
      size =
          ap length (c.as_slice.ensures.value ∙ ap (λ items. set items c.args.device true) c.in_ok-devices.ensures)
          ∙ length-set (replicate c.devices.result false) c.args.device true ∙ length-replicate c.devices.result false ∙ c.devices.ensures ∙ t.size;
    }
