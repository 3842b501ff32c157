use Rattle.std.proofs.Common.{ℕ, ap, sym, ◌∙◌, refl, subst, unwrap_or, arith}
use Rattle.sd_monitors.specs.loss.flights.Runs.{ReachesBack}
use Rattle.sd_monitors.specs.loss.flights.RunsKept.{beside}
use Rattle.sd_monitors.proofs.loss.flights.Joining.{looked_back}
use Rattle.sd_monitors.proofs.loss.flights.runs.first_before.Goals as goal

pub returns-in-Some : goal.returns-in-Some
returns-in-Some c =
    let ends = beside c.args.ends.now c.args.term in
    let before = c.in-Some.before in
    subst (λ (n : ℕ). ReachesBack ends c.args.round n) (sym (c.unwrap_or.ensures ∙ ap (λ o. unwrap_or o c.args.round) (c.copied.ensures ∙ c.get.ensures.value)))
    (looked_back ends c.args.round before (ends before) (c.requires.runs c.args.term) c.requires.absent (omega (arith, c.in-Some.ensures)) refl)
