use Rattle.std.proofs.Common.{sym, subst}
use Rattle.sd_gen.specs.Listed.{AreWithin}
use Rattle.sd_gen.proofs.Listing.{one_more}
use Rattle.sd_gen.proofs.list.EventList.push.Goals as goal
use Rattle.sd_gen.proofs.list.EventList.push.Goals.{in-Ok, in-Err}

pub invariant_of-self : goal.invariant_of-self
invariant_of-self c =
    elim c.match-push.branch [
      | in-Ok w ↦ one_more c.self.inside.items.items c.push.new.self.items c.args.event w.in-Ok.ensures.items c.self.invariant c.requires
      | in-Err w ↦ subst AreWithin (sym w.in-Err.ensures.items) c.self.invariant
    ]
