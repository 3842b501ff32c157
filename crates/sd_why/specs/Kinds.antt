-- The kinds of reasons why there is no plan, in the order in which they are asked, each as a property of the network alone.
use Rattle.std.specs.Prelude.{◌≡◌, ℕ, ◌+◌, ◌*◌, ◌<◌, ◌≤◌, Bool, true, length, nat_lt, find, Option}
use Rattle.std.specs.List.{list_all}
use Rattle.sd_num.specs.Lists.{below}
use Rattle.sd_plan.specs.topo.Network.{Network, Each, greatest_delay, least_low}
use Rattle.sd_plan.specs.domain.Domains.{holds_device}
use Rattle.sd_plan.specs.declared.domain.DomainId.TheVariants as domain
use Rattle.sd_why.specs.Ways.{IsUnreached, Way}
use Rattle.sd_why.specs.Bridges.{HasFewLinks}

-- the kinds
pub data Kind : Type 0 where
  candidates : Kind
  timing : Kind
  shared : Kind
  apart : Kind
  deep : Kind
  few : Kind

-- the place of a kind in their order
abbrev pub place_of : Kind → ℕ
place_of candidates = 1
place_of timing = 2
place_of shared = 3
place_of apart = 4
place_of deep = 5
place_of few = 6

-- the kind is asked before the other one
abbrev pub is_before : Kind → Kind → Bool
is_before earlier later = nat_lt (place_of earlier) (place_of later)

-- there are fewer than two candidates
abbrev pub HasFewCandidates : Network → Type 0
HasFewCandidates net = length net.roots < 2

-- the longest way there and back, and a tick: what a period has to exceed
abbrev pub round_trip : Network → ℕ
round_trip net = 2 * (net.params.depth + 1) * greatest_delay net + net.params.tick

-- the counter of some device may advance by a period within that time
abbrev pub IsRushed : Network → Type 0
IsRushed net = least_low net net.params.period ≤ round_trip net

-- the listed domain has all candidates
abbrev pub shares_all : Network → ℕ → Bool
shares_all net k = list_all (holds_device net (domain.Listed k)) net.roots

-- the first listed domain that has all candidates
abbrev pub shared_domain : Network → Option ℕ
shared_domain net = find (shares_all net) (below (length net.domains))

-- no links lead from the first device to this one
abbrev pub IsApart : Network → ℕ → Type 0
IsApart net d = IsUnreached net 0 d

-- links lead from the first device to each
abbrev pub IsConnected : Network → Type 0
IsConnected net = (d : ℕ) → d < length net.devices → (n : ℕ) × Way net n 0 d

-- no links lead from the first device to d, or more than the depth
abbrev pub IsBeyond : Network → ℕ → ℕ → Type 0
IsBeyond net from d = (n : ℕ) → n ≤ net.params.depth → ¬ Way net n from d

-- some device is farther than the depth from this one
abbrev pub IsTooDeep : Network → ℕ → Type 0
IsTooDeep net from = (d : ℕ) × (d < length net.devices) × IsBeyond net from d

-- what a kind says of the network
abbrev pub Holds : Network → Kind → Type 0
Holds net candidates = HasFewCandidates net
Holds net timing = IsRushed net
Holds net shared = (k : ℕ) × (k < length net.domains) × (shares_all net k ≡ true)
Holds net apart = (d : ℕ) × (d < length net.devices) × IsApart net d
Holds net deep = Each (IsTooDeep net) net.roots
Holds net few = HasFewLinks net
