use Rattle.std.proofs.Common.{ℕ, ap, sym, ◌∙◌, subst, unwrap_or, arith}
use Rattle.sd_monitors.specs.loss.flights.Runs.{ReachesOn}
use Rattle.sd_monitors.specs.loss.flights.RunsKept.{beside}
use Rattle.sd_monitors.proofs.loss.flights.Joining.{looked_on, none_after}
use Rattle.sd_monitors.proofs.loss.flights.runs.last_after.Goals as goal

pub returns-in-Some : goal.returns-in-Some
returns-in-Some c =
    let ends = beside c.args.ends.now c.args.term in
    subst (λ (n : ℕ). ReachesOn ends c.args.round n) (sym (c.unwrap_or.ensures ∙ ap (λ o. unwrap_or o c.args.round) (c.copied.ensures ∙ c.get.ensures.value)))
    (looked_on ends c.args.round (ends c.in-Some.after) (c.requires.runs c.args.term) c.requires.absent (ap ends (sym c.in-Some.ensures.1)))

pub returns-in-None : goal.returns-in-None
returns-in-None c = none_after (beside c.args.ends.now c.args.term) c.args.round (c.requires.runs c.args.term) (omega (arith, c.in-None.ensures))
