-- A network with another version. Words that rest on the other fields alone compute to the same; a relation that is declared over its network is carried from
-- one version to any other, and so both ways.
use Rattle.std.specs.Prelude.{ℕ, Bool}
use Rattle.sd_plan.specs.topo.Network.{Network}
use Rattle.sd_plan.specs.topo.Joined.{Joined, here, over}

-- the same network, with this version: with its own it is the network itself, by computing
abbrev pub with_version : ℕ → Network → Network
with_version v net = record net { version = v }

module _ (v w : ℕ) (net : Network) (may_pass may_cross : ℕ → Bool) where
  pub Joined-with_version : {d e : ℕ} → Joined (with_version v net) may_pass may_cross d e → Joined (with_version w net) may_pass may_cross d e
  Joined-with_version here = here
  Joined-with_version (over l within crosses joins passes further) = over l within crosses joins passes (Joined-with_version further)
