-- One plan that is never renewed, and histories in which some things fail.
use Rattle.std.specs.Prelude.{ℕ, Bool, true, ◌&&◌, not, List, IsTrue}
use Rattle.std.specs.List.{list_all}
use Rattle.sd_num.specs.Lists.{has, map_or}
use Rattle.sd_plan.specs.topo.Network.{Network}
use Rattle.sd_plan.specs.declared.topo.Thing.{Thing}
use Rattle.sd_plan.specs.declared.topo.Thing.TheVariants as thing
use Rattle.sd_plan.specs.domain.Domains.{holds_device, holds_link}
use Rattle.sd_plan.specs.declared.domain.DomainId.{DomainId}
use Rattle.sd_plan.specs.declared.Plan.{Plan}
use Rattle.sd_sched.specs.declared.Event.{Event}
use Rattle.sd_history.specs.Things.{failure_of}
use Rattle.sd_history.specs.World.{alone}
use Rattle.sd_history.specs.Steps.{seen_of}
use Rattle.sd_history.specs.Chronicle.{chronicle, IsHistory}
use Rattle.sd_history.specs.Premises.{all_hold}

-- the thing is one of the domain, and none of these devices
abbrev pub holds_besides : Network → DomainId → List ℕ → Thing → Bool
holds_besides net f spared (thing.Device d) = holds_device net f d && not (has spared d)
holds_besides net f spared (thing.Link l) = holds_link net f l

-- only such things fail
abbrev pub fails_only : (Thing → Bool) → List Event → Bool
fails_only may_fail history = list_all (λ e. map_or (failure_of e) true may_fail) history

-- a history of the plan alone that breaks none of the seven premises, and in which only such things fail
pub record IsClean (net : Network) (plan : Plan) (may_fail : Thing → Bool) (history : List Event) : Type 0 where
  pub is : IsHistory (alone net plan) history
  pub premises : IsTrue (all_hold (alone net plan) (seen_of (chronicle (alone net plan) history)))
  pub failures : IsTrue (fails_only may_fail history)
