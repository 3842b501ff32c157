-- What is shown of the third witness: the fifth rule of timing is needed beside the other four.
use Rattle.std.specs.Prelude.{◌≡◌, true, length, Some, Ok}
use Rattle.sd_topotext.specs.Meaning.{network_of}
use Rattle.sd_topotext.specs.Reading as toml
use Rattle.sd_plantext.specs.Meaning.{plan_of}
use Rattle.sd_plantext.specs.Reading as json
use Rattle.sd_plan.specs.topo.Limits.{IsNetwork}
use Rattle.sd_plan.specs.Plans.{Fits}
use Rattle.sd_checker.specs.check_root.Timing.{timing_breach}
use Rattle.sd_checker.specs.Conditions.{Holds, IsAccepted}
use Rattle.sd_checker.specs.Conditions as condition
use Rattle.sd_history.specs.Chronicle.{chronicle, IsHistory}
use Rattle.sd_history.specs.Lines.{first_on_loop}
use Rattle.sd_history.specs.Premises.{all_hold}
use Rattle.sd_history.specs.Steps.{seen_of}
use Rattle.sd_beside.specs.witness.Shared.{text_of}
use Rattle.sd_beside.specs.witness.straggler.Texts.{topology_lines, plan_lines, longer_lines}
use Rattle.sd_beside.specs.witness.straggler.Values.{network, plan, longer, setting, history}

-- the texts say these values
pub record Say : Type 0 where
  pub topology : network_of (toml.tree_of (text_of topology_lines)) ≡ Ok network
  pub plan : plan_of network (json.tree_of (text_of plan_lines)) ≡ Ok plan
  pub longer : plan_of network (json.tree_of (text_of longer_lines)) ≡ Ok longer

-- the plan meets every condition but timing, and there the first four rules: the first that it breaks is the fifth
pub record BreaksFifthAlone : Type 0 where
  pub structure : Holds network plan condition.structure
  pub ancestor : Holds network plan condition.ancestor
  pub timing : timing_breach network plan ≡ Some (record { rule = 5; left = 1980; right = 2244 })
  pub root : Holds network plan condition.root
  pub loop : Holds network plan condition.loop
  pub domain : Holds network plan condition.domain
  pub reach : Holds network plan condition.reach

-- So four rules are not enough: under this plan there is a history that breaks none of the seven premises and ends with a loop, whose least device
-- is d. The plan that it stages is accepted, and is never in force.
pub record FifthIsNeeded : Type 0 where
  pub says : Say
  pub is_network : IsNetwork network
  pub fits : Fits network plan
  pub breaks : BreaksFifthAlone
  pub staged : IsAccepted network longer
  pub count : length history ≡ 489
  pub is : IsHistory setting history
  pub premises : all_hold setting (seen_of (chronicle setting history)) ≡ true
  pub loop : first_on_loop setting (chronicle setting history) ≡ Some 3
