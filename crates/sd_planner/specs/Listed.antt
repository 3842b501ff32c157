-- Which listed domains have a thing.
use Rattle.std.specs.Prelude.{◌≡◌, ℕ, ◌&&◌, List, nat_lt}
use Rattle.sd_num.specs.Lists.{has}
use Rattle.sd_plan.specs.topo.Network.{Network}
use Rattle.sd_plan.specs.topo.Places.{domain_of}
use Rattle.sd_plan.specs.Subtrees.{listed}

-- the lists of domains of each device and of each link
pub record Lists : Type 0 where
  pub devices : List (List ℕ)
  pub links : List (List ℕ)

-- each of the lists has the domains below a bound that have its thing, and no others
abbrev pub ListUnder : (ℕ → List ℕ) → ℕ → List (List ℕ) → Type 0
ListUnder things bound lists = (x k : ℕ) → has (listed lists x) k ≡ (nat_lt k bound && has (things k) x)

-- the first of the listed domains are in the lists
pub record AreListed (net : Network) (bound : ℕ) (lists : Lists) : Type 0 where
  pub devices : ListUnder (λ k. (domain_of net k).devices) bound lists.devices
  pub links : ListUnder (λ k. (domain_of net k).links) bound lists.links
