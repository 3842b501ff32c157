use Rattle.std.proofs.Common.{◌≡◌, drop}
use Rattle.sd_io.specs.outside.MemSink.{kept_in}
use Rattle.sd_io.proofs.outside.mem_sink.kept_at.Given as goal

-- the entries so far have other numbers
abbrev pub invariant-loop-number : goal.invariant-loop-number
invariant-loop-number l = kept_in l.failing l.call ≡ kept_in (drop l.number-index l.failing) l.call
