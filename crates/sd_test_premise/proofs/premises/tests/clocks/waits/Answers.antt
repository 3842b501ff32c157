use Rattle.std.proofs.Common.{◌≡◌, ℕ, Option, Some, None, sym, ap, ◌∙◌}
use Rattle.sd_sched.specs.Events.{device_of}
use Rattle.sd_test_premise.proofs.premises.tests.clocks.waits.Goals as goal

lost : (d : ℕ) → None ≡ Some d → ⊥
lost d is = cc

pub observe-requires-clause-device : goal.observe-requires-clause-device
observe-requires-clause-device c d is = absurd (lost d (sym (ap device_of c.seen-seen.ensures) ∙ is))
