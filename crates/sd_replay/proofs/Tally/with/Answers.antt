use Rattle.std.proofs.Common.{ℕ, sym, ap, ◌∙◌, ◌+◌, max, refl}
use Rattle.sd_replay.specs.Counting.{one, tally_with}
use Rattle.sd_replay.proofs.Counted.{broken_found}
use Rattle.sd_replay.proofs.Telling.{same_tally, of_counts}
use Rattle.sd_replay.proofs.Tally.with.Goals as goal

pub returns : goal.returns
returns c =
    same_tally (of_counts (c.args.self.events + 1) (c.args.self.reports + c.one.result) (c.args.self.broken + c.broken_count.result)
    (c.args.self.alarms + c.alarm_count.result) c.max.result) (tally_with c.args.self c.args.findings.now)
    refl
    (ap (λ (n : ℕ). c.args.self.reports + n) (c.one.ensures.count ∙ ap one c.is_some.ensures))
    (ap (λ (n : ℕ). c.args.self.broken + n) (c.broken_count.ensures.count ∙ sym (broken_found c.args.findings.now)))
    (ap (λ (n : ℕ). c.args.self.alarms + n) c.alarm_count.ensures.count)
    (c.max.ensures ∙ ap (λ (n : ℕ). max c.args.self.greatest_eps n) c.eps_of.ensures)
