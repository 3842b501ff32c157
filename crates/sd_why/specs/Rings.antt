-- How distances become known, ring by ring.
use Rattle.std.specs.Prelude.{◌≡◌, ℕ, ◌+◌, ◌<◌, ◌≤◌, Bool, true, List, [], ◌∷◌, ◌++◌, length, filter, slice_get, slice_set, slice_index_or, Option, None, Some, is_none, ◌⊎◌}
use Rattle.sd_num.specs.Lists.{has}
use Rattle.sd_plan.specs.topo.Network.{Network}
use Rattle.sd_why.specs.Ways.{IsDistance, NextTo}

-- something is known of the device
pub record IsMet (known : List (Option ℕ)) (d : ℕ) : Type 0 where
  pub hops : ℕ
  pub at : slice_get known d ≡ Some (Some hops)

-- nothing is known of the device
abbrev pub is_unknown : List (Option ℕ) → ℕ → Bool
is_unknown known d = is_none (slice_index_or known d None)

-- of how many devices nothing is known
abbrev pub unknown_count : List (Option ℕ) → ℕ
unknown_count known = length (filter is_none known)

-- a device is noted as this far away and as the last of the next ring, if nothing was known of it
abbrev pub IsMeeting : (old new : List (Option ℕ)) (before after : List ℕ) (e hops : ℕ) → Type 0
IsMeeting old new before after e hops =
    (IsMet old e × (new ≡ old) × (after ≡ before))
    ⊎ ((slice_get old e ≡ Some None) × (new ≡ slice_set old e (Some hops)) × (after ≡ before ++ e ∷ []))

-- a device of the next ring, of which nothing was known: it is next to one of the ring
pub record IsNext (net : Network) (ring : List ℕ) (hops : ℕ) (old new : List (Option ℕ)) (e : ℕ) : Type 0 where
  pub was : slice_get old e ≡ Some None
  pub now : slice_get new e ≡ Some (Some hops)
  pub from : ℕ
  pub in_ring : has ring from ≡ true
  pub next_to : NextTo net from e

-- from a ring on devices become known that are next to it, this far away: just those of the next ring
pub record Spreads (net : Network) (ring : List ℕ) (hops : ℕ) (old new : List (Option ℕ)) (next : List ℕ) : Type 0 where
  pub size : length new ≡ length old
  pub kept : (e k : ℕ) → slice_get old e ≡ Some (Some k) → slice_get new e ≡ Some (Some k)
  pub added : (e k : ℕ) → slice_get new e ≡ Some (Some k) → (slice_get old e ≡ Some (Some k)) ⊎ ((k ≡ hops) × (has next e ≡ true))
  pub listed : (e : ℕ) → has next e ≡ true → IsNext net ring hops old new e
  pub room : length next + unknown_count new ≡ unknown_count old

-- what is known when the ring is this far away: all that is as near, and how far it is
pub record AreRings (net : Network) (from hops : ℕ) (known : List (Option ℕ)) (ring : List ℕ) : Type 0 where
  pub size : length known ≡ length net.devices
  pub start : slice_get known from ≡ Some (Some 0)
  pub right : (d k : ℕ) → slice_get known d ≡ Some (Some k) → IsDistance net from d k × (k ≤ hops)
  pub closed : (d e k : ℕ) → slice_get known d ≡ Some (Some k) → k < hops → NextTo net d e → IsMet known e
  pub last : (d : ℕ) → has ring d ≡ true → slice_get known d ≡ Some (Some hops)
  pub all : (d : ℕ) → slice_get known d ≡ Some (Some hops) → has ring d ≡ true
  pub room : 1 ≤ length ring → hops + unknown_count known + length ring ≤ length net.devices

-- the first of the farthest devices, where one is farther than 0
pub record IsFarthest (known : List (Option ℕ)) (device hops : ℕ) : Type 0 where
  pub found : 0 < hops → slice_get known device ≡ Some (Some hops)
  pub most : (d k : ℕ) → slice_get known d ≡ Some (Some k) → k ≤ hops
  pub first : (d : ℕ) → d < device → slice_get known d ≡ Some (Some hops) → 0 < hops → ⊥
