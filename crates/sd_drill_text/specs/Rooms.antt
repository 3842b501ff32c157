-- What is ready to print one domain after another.
use Rattle.std.specs.Prelude.{◌≡◌}
use Rattle.sd_plan.specs.topo.Network.{Network}
use Rattle.sd_plan.specs.Plans.{members}
use Rattle.sd_plan.specs.declared.Plan.{Plan}
use Rattle.sd_drill_text.specs.declared.domain_lines.DomainLines.{Ghosts}
use Rattle.sd_drill_text.specs.declared.writing.Room.{Room}

-- the room is ready for the plan
pub record IsRoomFor {D : Type 0} (g : Ghosts D) (net : Network) (plan : Plan) (room : Room D) : Type 0 where
  pub lines : g.ready room.lines net plan
  pub members : room.members ≡ members net plan

-- a call that leaves the room ready, for the same budget
pub record KeepsRoom {D : Type 0} (g : Ghosts D) (net : Network) (plan : Plan) (old new : Room D) : Type 0 where
  pub ready : IsRoomFor g net plan new
  pub budget : g.granted new.lines ≡ g.granted old.lines
