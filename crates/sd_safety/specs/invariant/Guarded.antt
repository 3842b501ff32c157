-- What safety uses: five of the seven conditions, six of the seven premises, and of a history what the rules admit, however long it is. Accepted plans
-- meet these conditions, and a history in which no premise is broken is steady (IsFair and IsClean, in Coming).
use Rattle.std.specs.Prelude.{◌≤◌, Bool, ◌&&◌, List, length, IsTrue}
use Rattle.sd_plan.specs.topo.Network.{Network, Each}
use Rattle.sd_plan.specs.topo.Limits.{IsNetwork}
use Rattle.sd_plan.specs.declared.Plan.{Plan}
use Rattle.sd_plan.specs.Plans.{Fits}
use Rattle.sd_checker.specs.Conditions.{MeetsStructure, MeetsAncestor, MeetsTiming, MeetsRoot, MeetsLoop}
use Rattle.sd_sched.specs.declared.Event.{Event}
use Rattle.sd_history.specs.World.{Setting, Seen}
use Rattle.sd_history.specs.Steps.{seen_of}
use Rattle.sd_history.specs.Chronicle.{chronicle}
use Rattle.sd_history.specs.Admitted.{IsAdmitted}
use Rattle.sd_history.specs.Premises.{drift_holds, delay_holds, tick_holds, loss_holds, domain_holds, renew_holds}

-- the plan meets the conditions that safety uses: all but domain and reach
pub record IsGuarded (net : Network) (plan : Plan) : Type 0 where
  pub structure : MeetsStructure net plan
  pub ancestor : MeetsAncestor net plan
  pub timing : MeetsTiming net plan
  pub root : MeetsRoot net plan
  pub loop : MeetsLoop net plan

-- a topology as a text can say it, and at least one plan, each of which fits it and is guarded
pub record AreGuarded (setting : Setting) : Type 0 where
  pub network : IsNetwork setting.net
  pub some_plan : 1 ≤ length setting.plans
  pub fit : Each (Fits setting.net) setting.plans
  pub guarded : Each (IsGuarded setting.net) setting.plans

-- the premises that safety uses: all but start
abbrev pub all_but_start_hold : Setting → List Seen → Bool
all_but_start_hold setting seen =
    drift_holds setting seen && delay_holds setting seen && tick_holds setting seen && loss_holds setting seen && domain_holds setting seen
    && renew_holds setting seen

-- a history of any length in which all premises but start hold
pub record IsSteady (setting : Setting) (history : List Event) : Type 0 where
  pub is : IsAdmitted setting history
  pub premises : IsTrue (all_but_start_hold setting (seen_of (chronicle setting history)))
