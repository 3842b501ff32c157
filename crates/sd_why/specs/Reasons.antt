-- Reasons with their things: what each shows, and which is the first.
use Rattle.std.specs.Prelude.{◌≡◌, ℕ, ◌<◌, ◌≤◌, length, slice_get, Option, None, Some, IsTrue}
use Rattle.sd_plan.specs.topo.Network.{Network}
use Rattle.sd_why.specs.Kinds.{HasFewCandidates, Holds, IsApart, IsTooDeep, Kind, is_before, shared_domain}
use Rattle.sd_why.specs.Kinds as kind
use Rattle.sd_why.specs.Ways.{IsDistance, Way}
use Rattle.sd_why.specs.Bridges.{CountsBridges}
use Rattle.sd_why.specs.declared.Far.{Far}
use Rattle.sd_why.specs.declared.Reason.{Reason}
use Rattle.sd_why.specs.declared.Reason.TheVariants as reason

-- the kind that a reason is of
abbrev pub kind_of : Reason → Kind
kind_of (reason.Candidates n) = kind.candidates
kind_of reason.Timing = kind.timing
kind_of (reason.Shared k) = kind.shared
kind_of (reason.Apart d) = kind.apart
kind_of (reason.Deep far) = kind.deep
kind_of (reason.Few bridges) = kind.few

-- the first of the farthest devices from a candidate, farther than the depth
pub record IsFarthestFrom (net : Network) (far : Far) : Type 0 where
  pub within : far.device < length net.devices
  pub distance : IsDistance net far.candidate far.device far.hops
  pub most : (d : ℕ) → d < length net.devices → (n : ℕ) × (n ≤ far.hops) × IsDistance net far.candidate d n
  pub first : (d : ℕ) → d < far.device → ¬ IsDistance net far.candidate d far.hops
  pub beyond : net.params.depth < far.hops

-- what a reason shows by its things
abbrev pub Shows : Network → Reason → Type 0
Shows net (reason.Candidates n) = n ≡ length net.roots
Shows net reason.Timing = Unit {0}
Shows net (reason.Shared k) = shared_domain net ≡ Some k
Shows net (reason.Apart d) = (d < length net.devices) × IsApart net d × ((e : ℕ) → e < d → (n : ℕ) × Way net n 0 e)
Shows net (reason.Deep far) = (slice_get net.roots 0 ≡ Some far.candidate) × IsFarthestFrom net far
Shows net (reason.Few bridges) = CountsBridges net bridges

-- a reason of a kind that holds, with its things
pub record IsReasonOf (net : Network) (k : Kind) (what : Reason) : Type 0 where
  pub kind : kind_of what ≡ k
  pub holds : Holds net k
  pub shows : Shows net what

-- just where the kind holds there is a reason of it
abbrev pub Judges : Network → Kind → Option Reason → Type 0
Judges net k None = ¬ Holds net k
Judges net k (Some what) = IsReasonOf net k what

-- no kind before this one holds
abbrev pub NoneBefore : Network → Kind → Type 0
NoneBefore net k = (earlier : Kind) → IsTrue (is_before earlier k) → ¬ Holds net earlier

-- the first reason of the network
pub record IsFirstReason (net : Network) (what : Reason) : Type 0 where
  pub is : IsReasonOf net (kind_of what) what
  pub first : NoneBefore net (kind_of what)

-- the first reason, or that no kind holds
abbrev pub IsWhy : Network → Option Reason → Type 0
IsWhy net None = (k : Kind) → ¬ Holds net k
IsWhy net (Some what) = IsFirstReason net what

-- the first reason of a kind before this one, or that no such kind holds
abbrev pub FindsBefore : Network → Kind → Option Reason → Type 0
FindsBefore net k None = NoneBefore net k
FindsBefore net k (Some what) = IsFirstReason net what

-- the first of the farthest devices from a candidate, or that none is farther than the depth
abbrev pub FindsBeyond : Network → ℕ → Option Far → Type 0
FindsBeyond net candidate None = (d : ℕ) → d < length net.devices → (n : ℕ) × (n ≤ net.params.depth) × Way net n candidate d
FindsBeyond net candidate (Some far) = (far.candidate ≡ candidate) × IsFarthestFrom net far
