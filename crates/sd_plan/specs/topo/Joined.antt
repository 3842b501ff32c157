-- Which devices are joined by links, where only some devices and links may be used.
use Rattle.std.specs.Prelude.{ℕ, zero, suc, Bool, ◌&&◌, ◌||◌, ◌<◌, length, nat_eq, IsTrue}
use Rattle.std.specs.List.{list_any}
use Rattle.sd_plan.specs.topo.Network.{Network, joins, device_numbers, link_numbers}

-- d and e are joined by usable links through usable devices; d itself need not be usable
pub data Joined (net : Network) (may_pass : ℕ → Bool) (may_cross : ℕ → Bool) : ℕ → ℕ → Type 0 where
  here : {d : ℕ} → Joined net may_pass may_cross d d
  over : {d e x : ℕ} (l : ℕ) → l < length net.links → IsTrue (may_cross l) → IsTrue (joins net l d e) → IsTrue (may_pass e) → Joined net may_pass may_cross e x
      → Joined net may_pass may_cross d x

-- the same by a walk of at most n links, which computes; n the number of devices, it is to be proved equal to being joined
abbrev pub joined_within : Network → (ℕ → Bool) → (ℕ → Bool) → ℕ → ℕ → ℕ → Bool
joined_within net may_pass may_cross zero d x = nat_eq d x
joined_within net may_pass may_cross (suc n) d x =
    nat_eq d x
    || list_any (λ e. (may_pass e && list_any (λ l. may_cross l && joins net l d e) (link_numbers net)) && joined_within net may_pass may_cross n e x)
    (device_numbers net)
