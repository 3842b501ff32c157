-- Plans with all that there is, and that none of them is accepted.
use Rattle.std.specs.Prelude.{◌≡◌, true}
use Rattle.sd_num.specs.Lists.{has}
use Rattle.sd_plan.specs.topo.Network.{Network}
use Rattle.sd_plan.specs.Plans.{Fits, nothing_absent}
use Rattle.sd_plan.specs.declared.Plan.{Plan}
use Rattle.sd_checker.specs.Conditions.{IsAccepted}

-- the plan speaks of this network, and leaves nothing out
pub record IsWhole (net : Network) (plan : Plan) : Type 0 where
  pub fits : Fits net plan
  pub all : plan.absent ≡ nothing_absent

-- its root and its backup root are candidates
pub record IsOfCandidates (net : Network) (plan : Plan) : Type 0 where
  pub root : has net.roots plan.root ≡ true
  pub backup_root : has net.roots plan.backup_root ≡ true

-- no plan with all that there is is accepted
abbrev pub HasNoPlan : Network → Type 0
HasNoPlan net = (plan : Plan) → IsWhole net plan → ¬ IsAccepted net plan

-- none whose root and backup root are candidates is
abbrev pub HasNoPlanOfCandidates : Network → Type 0
HasNoPlanOfCandidates net = (plan : Plan) → IsWhole net plan → IsOfCandidates net plan → ¬ IsAccepted net plan
