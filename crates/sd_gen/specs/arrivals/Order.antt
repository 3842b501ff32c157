-- The order of the heap.
use Rattle.std.specs.Ordering.{nat_cmp, ordering_then}
use Rattle.std.specs.declared.cmp.Ordering.{Ordering}
use Rattle.std.specs.declared.cmp.Reverse.{Reverse}
use Rattle.sd_gen.specs.declared.arrivals.Arrival.{Arrival}

-- the greatest is the one that is received first
abbrev pub by_receipt : Reverse Arrival → Reverse Arrival → Ordering
by_receipt x y =
    ordering_then (nat_cmp y.0.moment x.0.moment) (ordering_then (nat_cmp y.0.number x.0.number) (nat_cmp y.0.receiver x.0.receiver))
