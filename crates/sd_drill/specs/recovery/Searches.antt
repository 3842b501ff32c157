-- A search that settles devices, each after those to which its hops lead.
use Rattle.std.specs.Prelude.{◌≡◌, ◌≢◌, ℕ, ◌+◌, ◌*◌, ◌<◌, Bool, true, false, List, [], ◌∷◌, length, slice_index_or, count_by, Option, Some, None, if◌then◌else◌}
use Rattle.std.specs.Option.{option_or}
use Rattle.sd_plan.specs.topo.Network.{Network}
use Rattle.sd_plan.specs.declared.domain.DomainId.{DomainId}
use Rattle.sd_plan.specs.declared.Hop.{Hop}
use Rattle.sd_plan.specs.declared.Plan.{Plan}
use Rattle.sd_plan.specs.Walks.{end_of}
use Rattle.sd_drill.specs.recovery.Recoveries.{IsRecovery}
use Rattle.sd_drill.specs.recovery.Walks.{IsWalk}
use Rattle.sd_drill.specs.declared.recovery.hops.Hops.{Hops}
use Rattle.sd_drill.specs.declared.recovery.marks.Mark.{Mark}
use Rattle.sd_drill.specs.declared.recovery.marks.Mark.TheVariants as mark
use Rattle.sd_drill.specs.declared.recovery.Recovery.{Recovery}
use Rattle.sd_drill.specs.declared.recovery.search.Recoveries.{Recoveries}

-- the mark of a device
abbrev pub mark_at : List Mark → ℕ → Mark
mark_at marks d = slice_index_or marks d mark.New

-- the device was not entered yet
abbrev pub is_new : Mark → Bool
is_new mark.New = true
is_new mark.Entered = false
is_new (mark.Settled recovery) = false

-- the device is settled, and rightly so
abbrev pub IsSettled : Network → Plan → DomainId → ℕ → Mark → Type 0
IsSettled net plan f d mark.New = ⊥
IsSettled net plan f d mark.Entered = ⊥
IsSettled net plan f d (mark.Settled recovery) = IsRecovery net plan f d recovery

-- the parent of a hop, if it is new
abbrev pub new_parent : List Mark → Option Hop → Option ℕ
new_parent marks None = None
new_parent marks (Some hop) = if is_new (mark_at marks hop.parent) then Some hop.parent else None

-- the first of the two parents that is new
abbrev pub first_new : List Mark → Hops → Option ℕ
first_new marks hops = option_or (new_parent marks hops.primary) (new_parent marks hops.backup)

-- a walk of at least one hop leads from d to e
pub record Leads (net : Network) (plan : Plan) (f : DomainId) (d e : ℕ) : Type 0 where
  pub hop : Hop
  pub rest : List Hop
  pub walked : IsWalk net plan f d (hop ∷ rest)
  pub ends : end_of hop.parent rest ≡ e

-- where a stack stands at a place
abbrev pub stacked_at : List ℕ → ℕ → ℕ
stacked_at stack k = slice_index_or stack k 0

-- a search that has come so far: the stack has the entered devices, each of which leads to those after it
pub record IsSearch (net : Network) (plan : Plan) (f : DomainId) (marks : List Mark) (stack : List ℕ) : Type 0 where
  pub size : length marks ≡ length net.devices
  pub settled : (d : ℕ) (recovery : Recovery) → mark_at marks d ≡ mark.Settled recovery → IsRecovery net plan f d recovery
  pub within : (k : ℕ) → k < length stack → stacked_at stack k < length net.devices
  pub old : (k : ℕ) → k < length stack → mark_at marks (stacked_at stack k) ≢ mark.New
  pub chain : (k l : ℕ) → k < l → l < length stack → Leads net plan f (stacked_at stack k) (stacked_at stack l)
  pub entered : (d : ℕ) → mark_at marks d ≡ mark.Entered → (k : ℕ) × (k < length stack) × (stacked_at stack k ≡ d)

-- how much of the search is left
abbrev pub search_left : List Mark → List ℕ → ℕ
search_left marks stack = 2 * count_by is_new marks + length stack

-- devices only cease to be new
abbrev pub NoneNewer : List Mark → List Mark → Type 0
NoneNewer before after = (d : ℕ) → mark_at after d ≡ mark.New → mark_at before d ≡ mark.New

-- a step of the search: devices only cease to be new, and less of it is left
pub record HasStepped (net : Network) (plan : Plan) (f : DomainId) (old new : Recoveries) : Type 0 where
  pub searched : IsSearch net plan f new.marks.items new.stack.items
  pub newer : NoneNewer old.marks.items new.marks.items
  pub left : search_left new.marks.items new.stack.items < search_left old.marks.items old.stack.items

-- there is a mark for each device
pub record HasRoom (net : Network) (recoveries : Recoveries) : Type 0 where
  pub marks : length recoveries.marks.items ≡ length net.devices

-- the domain can be asked about: no search is under way, and what was found out is right
pub record IsReadyFor (net : Network) (plan : Plan) (f : DomainId) (recoveries : Recoveries) : Type 0 where
  pub searched : IsSearch net plan f recoveries.marks.items []
  pub alone : recoveries.stack.items ≡ []
