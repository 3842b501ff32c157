use Rattle.std.proofs.Common.{find, Some, option_map, sym, ap, ◌∙◌}
use Rattle.sd_num.proofs.Firsts.{find-map}
use Rattle.sd_checker.specs.check_root.Inequalities.{breach_of}
use Rattle.sd_checker.specs.check_root.Timing.{is_broken}
use Rattle.sd_checker.proofs.check_root.waits.timing_breach.Goals as goal

pub returns-in-Some : goal.returns-in-Some
returns-in-Some c =
    ap (λ breach. Some breach) c.breach.ensures
    ∙ sym
    (ap (find is_broken) (sym c.inequalities_of.ensures) ∙ find-map breach_of is_broken c.inequalities_of.result
    ∙ ap (option_map breach_of) (sym c.first_broken.ensures ∙ c.in-Some.is))

pub returns-in-None : goal.returns-in-None
returns-in-None c =
    sym
    (ap (find is_broken) (sym c.inequalities_of.ensures) ∙ find-map breach_of is_broken c.inequalities_of.result
    ∙ ap (option_map breach_of) (sym c.first_broken.ensures ∙ c.in-None.is))
