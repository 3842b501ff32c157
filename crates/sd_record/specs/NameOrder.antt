-- In which order messages are kept by their names.
use Rattle.std.specs.Ordering.{nat_cmp, ordering_then}
use Rattle.std.specs.declared.cmp.Ordering.{Ordering}
use Rattle.sd_record.specs.declared.logs.MessageName.{MessageName}
use Rattle.sd_record.specs.declared.names.NamedMessage.{NamedMessage}

-- by receiver, link, epoch, term and round
abbrev pub by_name : MessageName → MessageName → Ordering
by_name x y =
    ordering_then (nat_cmp x.receiver y.receiver)
    (ordering_then (nat_cmp x.link y.link)
    (ordering_then (nat_cmp x.epoch y.epoch) (ordering_then (nat_cmp x.term y.term) (nat_cmp x.round y.round))))

-- by name, and of one name by number
abbrev pub by_message : NamedMessage → NamedMessage → Ordering
by_message x y = ordering_then (by_name x.name y.name) (nat_cmp x.number y.number)
