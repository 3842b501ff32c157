-- What a spreading has placed so far: each device below one that was placed earlier.
use Rattle.std.specs.Prelude.{◌≡◌, ◌≢◌, ℕ, ◌+◌, ◌<◌, Bool, true, ◌&&◌, List, ◌++◌, length, Some, slice_get, take, IsTrue}
use Rattle.sd_plan.specs.topo.Network.{Network, Each, joins}
use Rattle.sd_plan.specs.declared.Hop.{Hop}
use Rattle.sd_plan.specs.declared.Absent.{Absent}
use Rattle.sd_planner.specs.Usable.{is_usable, link_between}
use Rattle.sd_planner.specs.declared.placement.Placed.{Placed}

-- p was placed below one of these, over the lowest usable link between the two
pub record IsBelow (net : Network) (absent : Absent) (earlier : List Placed) (p : Placed) : Type 0 where
  pub hop : Hop
  pub place : ℕ
  pub parent : Placed
  pub has_hop : p.hop ≡ Some hop
  pub before : slice_get earlier place ≡ Some parent
  pub leads : parent.device ≡ hop.parent
  pub deeper : p.depth ≡ parent.depth + 1
  pub lowest : link_between net absent p.device hop.parent ≡ Some hop.link
  pub usable : IsTrue (is_usable net absent hop.link && joins net hop.link p.device hop.parent)
  pub link : hop.link < length net.links

-- what spreading adds to earlier placed devices: some that may be passed, none twice, each below one that was placed before it
pub record SpreadGrows (net : Network) (absent : Absent) (through : ℕ → Bool) (earlier list : List Placed) : Type 0 where
  pub members : Each (λ p. (p.device < length net.devices) × (through p.device ≡ true)) list
  pub distinct : (i j : ℕ) (p q : Placed) → i < j → slice_get list i ≡ Some p → slice_get list j ≡ Some q → p.device ≢ q.device
  pub parents : (i : ℕ) (p : Placed) → slice_get list i ≡ Some p → IsBelow net absent (earlier ++ take i list) p
