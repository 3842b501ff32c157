use Rattle.std.proofs.Common.{◌≡◌, ℕ, ◌<◌, length, get_or, vec_len, vec_capacity}
use Rattle.sd_history.specs.World.{Setting, plan_numbered}
use Rattle.sd_plan.specs.Plans.{is_member}
use Rattle.sd_monitors.specs.clocks.Memberships.{AreMembers}
use Rattle.sd_monitors.specs.clocks.Owing.{no_state}
use Rattle.sd_monitors.proofs.clocks.ticks.Ticks.new.Given as goal

abbrev pub invariant-loop-d : goal.invariant-loop-d
invariant-loop-d l = record {
  size : length l.states.items ≡ l.d;
  room : vec_len l.states ≡ l.d;
  capacity : vec_capacity l.states ≡ l.devices;
  latest : (k : ℕ) → k < l.d → (get_or l.states.items k no_state).latest ≡ 0;
  awaited : (k : ℕ) → k < l.d → (setting : Setting) → length setting.net.devices ≡ l.devices → AreMembers setting l.members
      → (get_or l.states.items k no_state).awaited ≡ is_member (plan_numbered setting 1) k;
}
