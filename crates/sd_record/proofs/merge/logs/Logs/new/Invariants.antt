use Rattle.std.proofs.Common.{◌≡◌, map}
use Rattle.std.specs.List.{range_with_len}
use Rattle.sd_record.specs.merge.Queues.{new_queue}
use Rattle.sd_record.specs.merge.Turns.{AreTurns}
use Rattle.sd_record.proofs.merge.logs.Logs.new.Given as goal

-- the logs up to the place are there, with their turns
abbrev pub invariant-loop-place : goal.invariant-loop-place
invariant-loop-place l =
    record {
      logs : l.logs.items ≡ map (λ n. new_queue) (range_with_len 1 l.place);
      turns : AreTurns l.turns l.logs.items;
    }
