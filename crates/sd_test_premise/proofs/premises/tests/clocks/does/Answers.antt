use Rattle.std.proofs.Common.{ℕ, ◌<◌, length, sym, ap, ◌∙◌, subst}
use Rattle.std.proofs.lemmas.Option.{same_Some}
use Rattle.sd_sched.specs.Events.{device_of}
use Rattle.sd_test_premise.proofs.premises.tests.clocks.does.Goals as goal

pub observe-requires : goal.observe-requires
observe-requires c = record {
  device = λ d is.
      subst (λ (k : ℕ). k < length c.args.monitor.now.lives)
      (same_Some 0 d (sym c.event_of.ensures ∙ sym (ap device_of c.seen-seen.ensures) ∙ is)) c.requires;
}
