use Rattle.std.proofs.Common.{◌≡◌, ℕ, ltb, true, false, rules, arith}
use Rattle.std.specs.List.Sorted.{IsPartitionPoint}
use Rattle.std.proofs.lemmas.List.Sorted.{IsPartitionPoint-from_clause, IsPartitionedBy-ltb}
use Rattle.std.proofs.lemmas.Bool.{ltb-true, ltb-false}
use Rattle.sd_device.specs.declared.msg.Flight.{Flight}
use Rattle.sd_device.specs.msg.Books.{AreNumbered}
use Rattle.sd_device.proofs.msg.Numbered.{number_at, rises}
use Rattle.sd_device.proofs.msg.flights.place_from.Goals as goal

-- the smaller numbers come before the place, and the others from it on
parted : (c : goal.After-partition_point) (top : ℕ) → AreNumbered 0 top c.args.flights.now.items
    → IsPartitionPoint (λ (f : Flight). ltb f.number c.args.number ≡ true) (λ (f : Flight). ltb f.number c.args.number ≡ false) c.args.flights.now.items
    c.partition_point.result
parted c top h =
    let flights = c.args.flights.now.items in
    IsPartitionPoint-from_clause (λ (f : Flight). ltb f.number c.args.number) flights c.partition_point.result c.partition_point.ensures.partitioned
    (IsPartitionedBy-ltb (λ (f : Flight). f.number) flights c.args.number (rises 0 top flights h)) (λ a r f' k. search rules)

pub returns-clause-before : goal.returns-clause-before
returns-clause-before c top h k d before = ltb-true (number_at c.args.flights.now.items k d) c.args.number ((parted c top h).0 k d (omega arith) before)

pub returns-clause-after : goal.returns-clause-after
returns-clause-after c top h k d late within = ltb-false (number_at c.args.flights.now.items k d) c.args.number ((parted c top h).1 k d late within)
