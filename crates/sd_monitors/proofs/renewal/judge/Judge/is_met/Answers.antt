use Rattle.std.proofs.Common.{◌≡◌, true, ◌&&◌, sym, ap, ◌∙◌}
use Rattle.sd_history.specs.Premises.{leaves_out_cleanly}
use Rattle.sd_monitors.specs.renewal.Moments.{staged_plan}
use Rattle.sd_monitors.specs.renewal.Judging.{is_ready}
use Rattle.sd_monitors.proofs.renewal.Orderly.{ready_so}
use Rattle.sd_monitors.proofs.renewal.judge.Judge.is_met.Goals as goal

pub returns-then-is_ready : goal.returns-then-is_ready
returns-then-is_ready c setting seen is opened =
    let ready : is_ready setting seen ≡ true = sym (c.is_ready.ensures setting seen is) ∙ c.if-is_ready.true in
    c.leaves_out_cleanly.ensures setting seen is.moment (ready_so setting seen opened is.planned ready)
    ∙ sym (ap (λ b. b && leaves_out_cleanly setting seen (staged_plan setting seen)) ready)
