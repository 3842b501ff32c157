use Rattle.std.proofs.Common.{◌≡◌, Bool, if◌then◌else◌, sym, ap, ◌∙◌}
use Rattle.std.proofs.lemmas.Bool.{eqb-true}
use Rattle.sd_checker.specs.check_hit.Outages.{net_of, plan_of}
use Rattle.sd_plan.specs.domain.Domains.{holds_device}
use Rattle.sd_checker.specs.check_reach.Reach.{acting_end}
use Rattle.sd_checker.proofs.check_reach.Chosen.{nobody_hit, held_harmless}
use Rattle.sd_checker.proofs.check_reach.aftermath.Aftermath.of.Goals as goal
use Rattle.sd_checker.proofs.check_reach.aftermath.Aftermath.of.Goals.{then-holds_device, else-holds_device, then-is_empty-via-then-is_empty, then-is_empty-via-else-is_empty+then-holds_device-2}

pub returns-then-is_empty : goal.returns-then-is_empty
returns-then-is_empty c =
    let o = c.args.outage in
    let net = net_of o in
    let plan = plan_of o in
    let domain = o.domain in
    let acting : c.if-holds_device.acting ≡ acting_end net plan domain = elim c.if-holds_device.branch [
      | then-holds_device w ↦ w.acting-is
          ∙ sym (ap (λ (b : Bool). if b then plan.backup_root else plan.root) (sym c.holds_device.ensures ∙ w.if-holds_device.true))
      | else-holds_device w ↦ w.acting-is
          ∙ sym (ap (λ (b : Bool). if b then plan.backup_root else plan.root) (sym c.holds_device.ensures ∙ w.if-holds_device.false))
    ] in
    elim c.then-is_empty.branch [
      | then-is_empty-via-then-is_empty w ↦ nobody_hit net plan domain o.hit.now o.hits (eqb-true _ _ (sym c.is_empty.ensures ∙ w.if-is_empty.true))
      | then-is_empty-via-else-is_empty+then-holds_device-2 w ↦ held_harmless net plan domain
          (ap (holds_device net domain) (sym acting) ∙ sym w.holds_device-else-is_empty.ensures ∙ w.if-holds_device-2.true)
    ]
