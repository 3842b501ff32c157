use Rattle.std.proofs.Common.{Some, ap, refl, sym, ◌∙◌, ◌≡◌, None, true, inl, inr}
use Rattle.std.proofs.lemmas.Bool.{not-false}
use Rattle.sd_sched.specs.declared.Event.TheVariants as event
use Rattle.sd_commands.specs.solo.Histories.{refusal_in, rates}
use Rattle.sd_commands.specs.solo.Registers.{situation_of}
use Rattle.sd_commands.proofs.solo.Accepted.{started_before}
use Rattle.sd_commands.proofs.solo.Standing.{stands_after, history_after}
use Rattle.sd_commands.proofs.solo.Contained.{report_contains}
use Rattle.sd_num.specs.declared.clock.Estimate.{Estimate}
use Rattle.sd_num.specs.clock.Estimates.{report_of}
use Rattle.sd_commands.proofs.solo.Solo.apply.Goals as goal

pub returns-in-Ask-clause-stands : goal.returns-in-Ask-clause-stands
returns-in-Ask-clause-stands c =
    λ events h. stands_after c.args.self.now _ c.args.event.now events c.requires.known (sym c.refusal.ensures ∙ c.in_default.is)
    (rw (c.reference-self.ensures, c.in-Ask.is) refl) (rw c.in-Ask.is refl) (rw c.in-Ask.is refl) h

pub returns-in-End-clause-stands : goal.returns-in-End-clause-stands
returns-in-End-clause-stands c =
    λ events h. stands_after c.args.self.now _ c.args.event.now events c.requires.known (sym c.refusal.ensures ∙ c.in_default.is)
    (rw (c.reference-self.ensures, c.in-End.is) refl) (rw c.in-End.is refl) (rw c.in-End.is refl) h

pub returns-in-Start-clause-stands : goal.returns-in-Start-clause-stands
returns-in-Start-clause-stands c =
    λ events h. stands_after c.args.self.now _ c.args.event.now events c.requires.known (sym c.refusal.ensures ∙ c.in_default.is)
    (elim c.in-Start.is [
      | inl start ↦ rw (c.reference-self.ensures, start.2) refl
      | inr fix ↦ (
          let accepted : refusal_in (situation_of c.args.self.now) (event.Fix fix.0 fix.1 c.in-Start.counter c.in-Start.clock c.in-Start.eps) ≡ None =
          rw (← fix.2) (sym c.refusal.ensures ∙ c.in_default.is) in
          let started : c.args.self.now.started ≡ true = not-false c.args.self.now.started (started_before _ _ accepted) in
          rw (c.reference-self.ensures, fix.2, started) refl
          )
    ])
    (elim c.in-Start.is [ inl start ↦ rw start.2 c.set-self.ensures | inr fix ↦ rw fix.2 c.set-self.ensures ])
    (elim c.in-Start.is [ inl start ↦ rw start.2 refl | inr fix ↦ rw fix.2 refl ])
    h

pub returns-in-Ask-clause-contained : goal.returns-in-Ask-clause-contained
returns-in-Ask-clause-contained c =
    λ events h truly drifts. report_contains c.args.event.now events c.report.result
    (history_after c.args.self.now c.args.event.now events c.requires.known (sym c.refusal.ensures ∙ c.in_default.is) h)
    (rw c.in-Ask.is (ap Some (sym (c.report.ensures ∙ ap (λ (x : Estimate). report_of rates x c.in-Ask.counter) h.estimate)))) truly drifts
