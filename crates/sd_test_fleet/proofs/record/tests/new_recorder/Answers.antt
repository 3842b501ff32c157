use Rattle.sd_test_fleet.proofs.record.tests.new_recorder.Goals as goal

pub new-requires-clause-sound : goal.new-requires-clause-sound
new-requires-clause-sound g c = rw c.as_slice.ensures.value c.in_ok-plans.ensures.sound
