-- When what is seen of two histories is alike: which devices are up, what has failed, the latest reference and readings, and the open window.
use Rattle.std.specs.Prelude.{◌≡◌, ℕ, ◌+◌, true, List, map, option_map}
use Rattle.sd_plan.specs.declared.topo.Thing.{Thing}
use Rattle.sd_history.specs.World.{Seen, is_up, has_failed, latest_reference, latest_reading, window, epoch_in_force}
use Rattle.sd_history.specs.Refusals.{after_end}
use Rattle.sd_resume.specs.law.Shifts.{Shift, raised_seen}

-- what is seen of the second, with its numbers raised, looks to later events as what is seen of the first
pub record LooksAlike (shift : Shift) (one other : List Seen) : Type 0 where
  pub up : (d : ℕ) → is_up one d ≡ is_up other d
  pub failed : (x : Thing) → has_failed one x ≡ has_failed other x
  pub time : latest_reference one ≡ latest_reference other
  pub reading : (d : ℕ) → is_up other d ≡ true → latest_reading one d ≡ latest_reading other d
  pub window : window one ≡ option_map (map (raised_seen shift)) (window other)
  pub epoch : epoch_in_force one ≡ epoch_in_force other + shift.plans
  pub ended : after_end one ≡ after_end other
