use Rattle.std.proofs.Common.{◌≡◌, ltb, true, false, rules, arith}
use Rattle.std.specs.List.Sorted.{IsPartitionPoint}
use Rattle.std.proofs.lemmas.List.Sorted.{IsPartitionPoint-from_clause, IsPartitionedBy-ltb}
use Rattle.std.proofs.lemmas.Bool.{ltb-true, ltb-false}
use Rattle.sd_monitors.specs.declared.loss.flights.orderly.Entry.{Entry}
use Rattle.sd_monitors.proofs.loss.flights.InOrder.{number_at, rises}
use Rattle.sd_monitors.proofs.loss.flights.orderly.place_from.Goals as goal

-- the smaller numbers stand before the place, and the others from it on
parted : (c : goal.After-partition_point)
    → IsPartitionPoint (λ (e : Entry). ltb e.flight.number c.args.number ≡ true)
    (λ (e : Entry). ltb e.flight.number c.args.number ≡ false) c.args.entries.now.items c.partition_point.result
parted c =
    let entries = c.args.entries.now.items in
    IsPartitionPoint-from_clause (λ (e : Entry). ltb e.flight.number c.args.number) entries c.partition_point.result c.partition_point.ensures.partitioned
    (IsPartitionedBy-ltb (λ (e : Entry). e.flight.number) entries c.args.number (rises entries c.requires)) (λ a r f' k. search rules)

pub returns-clause-before : goal.returns-clause-before
returns-clause-before c k d before = ltb-true (number_at c.args.entries.now.items k d) c.args.number ((parted c).0 k d (omega arith) before)

pub returns-clause-after : goal.returns-clause-after
returns-clause-after c k d behind within = ltb-false (number_at c.args.entries.now.items k d) c.args.number ((parted c).1 k d behind within)
