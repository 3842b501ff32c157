-- Ways over links from one device to another, and how far apart two devices are.
use Rattle.std.specs.Prelude.{◌≡◌, ℕ, zero, suc, ◌<◌, List, length, slice_index_or, Option, None, Some, IsTrue}
use Rattle.sd_plan.specs.topo.Network.{Network, joins}

-- a link joins the two
pub record NextTo (net : Network) (d e : ℕ) : Type 0 where
  pub link : ℕ
  pub within : link < length net.links
  pub joined : IsTrue (joins net link d e)

-- n links lead from the first device to d, one after another
unfoldable pub Way : Network → ℕ → ℕ → ℕ → Type 0
Way net zero from d = from ≡ d
Way net (suc n) from d = (x : ℕ) × Way net n from x × NextTo net x d

-- d is n links away from the first device, and no fewer
pub record IsDistance (net : Network) (from d n : ℕ) : Type 0 where
  pub way : Way net n from d
  pub least : (m : ℕ) → m < n → ¬ Way net m from d

-- no links lead from the first device to d
abbrev pub IsUnreached : Network → ℕ → ℕ → Type 0
IsUnreached net from d = (n : ℕ) → ¬ Way net n from d

-- how far away d is, or that no links lead to it
abbrev pub IsFar : Network → ℕ → ℕ → Option ℕ → Type 0
IsFar net from d None = IsUnreached net from d
IsFar net from d (Some n) = IsDistance net from d n

-- how far away each device is
pub record AreDistances (net : Network) (from : ℕ) (known : List (Option ℕ)) : Type 0 where
  pub count : length known ≡ length net.devices
  pub each : (d : ℕ) → d < length net.devices → IsFar net from d (slice_index_or known d None)
