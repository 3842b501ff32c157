-- Paths and downstream ends that were worked out by hand.
use Rattle.std.specs.Prelude.{◌≡◌, [], ◌∷◌, refl}
use Rattle.sd_plan.specs.declared.topo.Thing.TheVariants as thing
use Rattle.sd_plan.specs.Walks.{path, epath}
use Rattle.sd_plan.specs.Behind.{behind_backup_root}
use Rattle.sd_plan.specs.Duties.{ends_of}
use Rattle.sd_plan.specs.Examples.{fabric, fabric_plan, triangle, triangle_plan}

path_of_backup_root : path fabric fabric_plan 1 ≡ thing.Link 3 ∷ thing.Device 2 ∷ thing.Link 0 ∷ thing.Device 0 ∷ []
path_of_backup_root = refl

cut_path_of_backup_root : epath fabric fabric_plan 1 ≡ thing.Link 3 ∷ thing.Device 2 ∷ thing.Link 0 ∷ thing.Device 0 ∷ []
cut_path_of_backup_root = refl

below_the_root : ends_of triangle triangle_plan 0 ≡ record { link = 0; device = 1 } ∷ record { link = 1; device = 2 } ∷ []
below_the_root = refl

below_x : ends_of triangle triangle_plan 2 ≡ record { link = 2; device = 1 } ∷ []
below_x = refl

none_behind : behind_backup_root triangle triangle_plan ≡ []
none_behind = refl
