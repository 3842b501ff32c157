use Rattle.std.proofs.Common.{sym, ◌∙◌}
use Rattle.sd_history.specs.World.{setting_over}
use Rattle.sd_resume.proofs.Honest.{is_honest}
use Rattle.sd_resume.proofs.honesty.is_honest.Goals as goal

pub returns-clause-honest : goal.returns-clause-honest
returns-clause-honest c shift net front plans one other of_first of_second alike =
    is_honest c.args.first.now c.args.second.now shift net front plans one other of_first of_second alike
    (sym (c.none_is_broken.ensures (setting_over net plans) other (c.broken.ensures (setting_over net plans) other of_second)) ∙ c.if-not-none_is_broken.false)
    (c.in_ok-compare_devices.ensures.honest shift net front plans one other of_first of_second alike)
    (c.in_ok-compare_links.ensures.honest shift net front plans one other of_first of_second alike)
