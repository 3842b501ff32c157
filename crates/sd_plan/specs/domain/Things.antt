-- When two things are the same device or link.
use Rattle.std.specs.Prelude.{Bool, false, nat_eq}
use Rattle.sd_plan.specs.declared.topo.Thing.{Thing}
use Rattle.sd_plan.specs.declared.topo.Thing.TheVariants as thing

-- the two are one device, or one link
abbrev pub same_thing : Thing → Thing → Bool
same_thing (thing.Device d) (thing.Device e) = nat_eq d e
same_thing (thing.Device d) (thing.Link m) = false
same_thing (thing.Link l) (thing.Device e) = false
same_thing (thing.Link l) (thing.Link m) = nat_eq l m
