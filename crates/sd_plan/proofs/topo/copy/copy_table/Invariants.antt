use Rattle.std.proofs.Common.{◌≡◌, take}
use Rattle.std.specs.List.{AllZip}
use Rattle.indexmap.specs.IndexMap.{hasher_of}
use Rattle.sd_plan.specs.topo.Copies.{IsCopy}
use Rattle.sd_plan.proofs.topo.copy.copy_table.Given as goal

abbrev pub invariant-loop-number : goal.invariant-loop-number
invariant-loop-number g l = record {
  entries : AllZip (IsCopy g.V.CopyIn.same) (take l.number l.table.entries) l.copies.entries;
  hasher : hasher_of l.copies ≡ hasher_of l.table;
}
