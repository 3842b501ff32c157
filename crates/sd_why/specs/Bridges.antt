-- Bridges: links whose loss parts the network.
use Rattle.std.specs.Prelude.{◌≡◌, ℕ, ◌+◌, ◌*◌, ◌-◌, ◌/◌, ◌<◌, true, false, not, List, length, nat_eq, slice_get, Some, IsTrue}
use Rattle.sd_num.specs.Lists.{ascends, has}
use Rattle.sd_plan.specs.topo.Network.{Network, joins}
use Rattle.sd_plan.specs.topo.Joined.{Joined}
use Rattle.sd_planner.specs.declared.present.Neighbour.{Neighbour}
use Rattle.sd_checker.specs.check_reach.Reached.{Grows}

-- links other than l join the two devices
abbrev pub JoinedWithout : Network → ℕ → ℕ → ℕ → Type 0
JoinedWithout net l d e = Joined net (λ x. true) (λ k. not (nat_eq l k)) d e

-- the loss of the link parts two devices
pub record IsBridge (net : Network) (l : ℕ) : Type 0 where
  pub first : ℕ
  pub second : ℕ
  pub within : (first < length net.devices) × (second < length net.devices)
  pub parted : ¬ JoinedWithout net l first second

-- the bridges among the links below a number, ascending
pub record AreBridgesBelow (net : Network) (count : ℕ) (bridges : List ℕ) : Type 0 where
  pub ascend : IsTrue (ascends bridges)
  pub are : (l : ℕ) → has bridges l ≡ true → (l < count) × IsBridge net l
  pub all : (l : ℕ) → l < count → IsBridge net l → has bridges l ≡ true

-- all bridges, ascending
abbrev pub AreBridges : Network → List ℕ → Type 0
AreBridges net bridges = AreBridgesBelow net (length net.links) bridges

-- how many links besides the bridges a plan needs, by how many bridges there are: half as many again as devices that no bridge accounts for, less two
abbrev pub needed_besides : Network → ℕ → ℕ
needed_besides net bridges = (3 * (length net.devices - bridges) + 1) / 2 - 2

-- with so many bridges, the links are fewer than a plan needs
abbrev pub TooFewWith : Network → ℕ → Type 0
TooFewWith net bridges = length net.links < bridges + needed_besides net bridges

-- links besides the bridges are fewer than a plan needs
pub record HasFewLinks (net : Network) : Type 0 where
  pub bridges : List ℕ
  pub are : AreBridges net bridges
  pub few : TooFewWith net (length bridges)

-- among the links below a number so many are bridges
abbrev pub CountsBelow : Network → ℕ → ℕ → Type 0
CountsBelow net bound count = (bridges : List ℕ) × AreBridgesBelow net bound bridges × (length bridges ≡ count)

-- so many links are bridges
abbrev pub CountsBridges : Network → ℕ → Type 0
CountsBridges net count = CountsBelow net (length net.links) count

-- a link other than l joins the two
pub record IsBeside (net : Network) (l d e : ℕ) : Type 0 where
  pub over : ℕ
  pub within : over < length net.links
  pub other : IsTrue (not (nat_eq l over))
  pub joined : IsTrue (joins net over d e)

-- what a search from the first device over links other than l has met, when it has looked around from some
pub record IsSearch (net : Network) (l done : ℕ) (met : List ℕ) : Type 0 where
  pub begun : has met 0 ≡ true
  pub within : (d : ℕ) → has met d ≡ true → d < length net.devices
  pub joined : (d : ℕ) → has met d ≡ true → JoinedWithout net l 0 d
  pub closed : (i d e : ℕ) → i < done → slice_get met i ≡ Some d → e < length net.devices → IsBeside net l d e → has met e ≡ true

-- the first of the neighbours of d over links other than l have been met
pub record IsAround (net : Network) (l d i : ℕ) (neighbours : List Neighbour) (old new : List ℕ) : Type 0 where
  pub grows : Grows old new (IsBeside net l d)
  pub met : (k : ℕ) (neighbour : Neighbour) → k < i → slice_get neighbours k ≡ Some neighbour → nat_eq neighbour.link l ≡ false
      → has new neighbour.device ≡ true
