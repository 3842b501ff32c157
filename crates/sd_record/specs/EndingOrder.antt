-- The order in which a heap has the endings of messages.
use Rattle.std.specs.Ordering.{nat_cmp, ordering_then}
use Rattle.std.specs.declared.cmp.Ordering.{Ordering}
use Rattle.std.specs.declared.cmp.Reverse.{Reverse}
use Rattle.sd_record.specs.NameOrder.{by_name}
use Rattle.sd_record.specs.declared.endings.NamedEnding.{NamedEnding}

-- the greatest has the first last moment, and of these the least number, and of these the first name
abbrev pub by_ending : Reverse NamedEnding → Reverse NamedEnding → Ordering
by_ending x y =
    ordering_then (ordering_then (nat_cmp y.0.ending.last x.0.ending.last) (nat_cmp y.0.ending.number x.0.ending.number)) (by_name y.0.name x.0.name)
