-- What a call leaves of a shelf as it was, whatever it reads.
use Rattle.std.specs.Prelude.{◌≡◌}
use Rattle.sd_io.specs.outside.Causes.{RisesFor}
use Rattle.sd_io.specs.declared.outside.shelf.Shelf.{Ghosts}

-- its texts, its names and, where the call does not blame the shelf, its count of faults
pub record KeepsShelf {S : Type 0} (g : Ghosts S) (blamed : Type 0) (old new : S) : Type 0 where
  pub same_held : g.held new ≡ g.held old
  pub same_names : g.serves new ≡ g.serves old
  pub count : RisesFor blamed (g.faults old) (g.faults new)
