-- A placing is a tree below its root.
use Rattle.std.specs.Prelude.{◌≡◌, ◌≢◌, ℕ, ◌+◌, ◌<◌, List, length, Some, None, slice_get, take, IsTrue}
use Rattle.sd_plan.specs.topo.Network.{Network, Each}
use Rattle.sd_plan.specs.declared.Absent.{Absent}
use Rattle.sd_planner.specs.Usable.{takes_part}
use Rattle.sd_planner.specs.declared.placement.Placed.{Placed}
use Rattle.sd_planner.specs.Grown.{IsBelow}

-- the placed devices make a tree that grew one by one from the root: members, none twice, each below one that was placed before it
pub record Grows (net : Network) (root : ℕ) (absent : Absent) (list : List Placed) : Type 0 where
  pub first : (p : Placed) → slice_get list 0 ≡ Some p → p ≡ record { device = root; depth = 0; hop = None }
  pub members : Each (λ p. (p.device < length net.devices) × IsTrue (takes_part net absent p.device)) list
  pub distinct : (i j : ℕ) (p q : Placed) → i < j → slice_get list i ≡ Some p → slice_get list j ≡ Some q → p.device ≢ q.device
  pub parents : (i : ℕ) (p : Placed) → slice_get list (i + 1) ≡ Some p → IsBelow net absent (take (i + 1) list) p

-- the same, with something in it
pub record IsTree (net : Network) (root : ℕ) (absent : Absent) (list : List Placed) : Type 0 where
  pub grown : Grows net root absent list
  pub some : 0 < length list

-- from some root
abbrev pub HasGrown : Network → Absent → List Placed → Type 0
HasGrown net absent list = (root : ℕ) × IsTree net root absent list
