use Rattle.sd_test_fleet.proofs.record.tests.record_whole.Goals as goal

pub record_log-requires-clause-sound : goal.record_log-requires-clause-sound
record_log-requires-clause-sound g c = rw c.as_slice.ensures.value c.in_ok-plans.ensures.sound
