use Rattle.std.proofs.Common.{false, ◌&&◌, sym, ap, ◌∙◌, subst}
use Rattle.std.proofs.lemmas.Bool.{both_ways}
use Rattle.sd_monitors.specs.clocks.Sights.{sight_of}
use Rattle.sd_monitors.specs.renewal.Progressing.{progress_after, ProgressStands}
use Rattle.sd_monitors.specs.renewal.Renewals.{RenewalKept}
use Rattle.sd_monitors.specs.declared.renewal.renewal.RenewalMonitor.TheInside.{Inside}
use Rattle.sd_monitors.proofs.renewal.Orderly.{renewal_stands}
use Rattle.sd_monitors.proofs.renewal.renewal.RenewalMonitor.observe.Goals as goal
use Rattle.sd_monitors.proofs.renewal.renewal.RenewalMonitor.observe.Goals.{then-self, else-self}

pub returns-clause-stands : goal.returns-clause-stands
returns-clause-stands c setting earlier is may stands =
    let old = ap (λ (k : RenewalKept). k.holds) c.self.view_is in
    let progress : ProgressStands c.self.inside.progress earlier =
    subst (λ (k : RenewalKept). ProgressStands k.progress earlier) (sym c.self.view_is) stands.progress in
    elim c.if-self.branch [
      | then-self w ↦
          renewal_stands setting c.args.self.now (sight_of c.args.seen.now) earlier w.is_orderly-self-inside.result _ may stands
          (w.self-is ∙ sym (ap (λ b. b && w.is_orderly-self-inside.result) (sym old ∙ w.if-self.true)))
          (λ held. w.is_orderly-self-inside.ensures setting earlier (record { moment = is; progress = progress; planned = stands.planned }) may)
          (c.observe.ensures.kept ∙ ap (λ (i : Inside). progress_after (sight_of c.args.seen.now) i.progress) w.self-inside-is
          ∙ ap (λ (k : RenewalKept). progress_after (sight_of c.args.seen.now) k.progress) c.self.view_is)
      | else-self w ↦
          renewal_stands setting c.args.self.now (sight_of c.args.seen.now) earlier false _ may stands
          (w.self-is ∙ w.if-self.false ∙ sym (ap (λ b. b && false) (sym old ∙ w.if-self.false)))
          (λ held. absurd (both_ways c.args.self.now.holds (sym old ∙ w.if-self.false) held))
          (c.observe.ensures.kept ∙ ap (λ (i : Inside). progress_after (sight_of c.args.seen.now) i.progress) w.self-inside-is
          ∙ ap (λ (k : RenewalKept). progress_after (sight_of c.args.seen.now) k.progress) c.self.view_is)
    ]
