use Rattle.std.proofs.Common.{◌≡◌, ℕ, length, Some, vec_len, vec_capacity}
use Rattle.std.specs.Prelude.{slice_get}
use Rattle.sd_plan.specs.topo.Network.{rates_of}
use Rattle.sd_plan.specs.topo.Topologies.{network}
use Rattle.sd_monitors.specs.declared.clocks.drift.Life.{Life}
use Rattle.sd_monitors.specs.clocks.Readings.{no_offsets}
use Rattle.sd_monitors.proofs.clocks.drift.DriftMonitor.new.Given as goal

abbrev pub invariant-loop-d : goal.invariant-loop-d
invariant-loop-d l = record {
  size : length l.lives.items ≡ l.d;
  room : vec_len l.lives ≡ l.d;
  capacity : vec_capacity l.lives ≡ l.devices;
  lives : (d : ℕ) (life : Life) → slice_get l.lives.items d ≡ Some life → (life.rates ≡ rates_of (network l.topo) d) × (life.offsets ≡ no_offsets);
}
