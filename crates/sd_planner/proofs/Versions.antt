-- The greedy plan, and what the planner answers, are the same in a network with each version.
use Rattle.std.specs.Prelude.{◌≡◌, ℕ}
use Rattle.std.proofs.Common.{refl, ◌∙◌}
use Rattle.sd_plan.specs.topo.Network.{Network}
use Rattle.sd_plan.proofs.topo.Versions.{with_version}
use Rattle.sd_plan.specs.declared.Absent.{Absent}
use Rattle.sd_plan.specs.declared.Plan.{Plan}
use Rattle.sd_planner.specs.Placing.{placed}
use Rattle.sd_planner.specs.Serving.{primaries, walk_up, greedy_rows}
use Rattle.sd_planner.specs.Greedy.{IsLeastWait, IsGreedy}

module _ (v w : ℕ) (net : Network) where
  pub IsLeastWait-with_version : (long x : ℕ) → IsLeastWait (with_version v net) long x → IsLeastWait (with_version w net) long x
  IsLeastWait-with_version long x wait = record { enough = wait.enough; least = wait.least }

  module _ (root : ℕ) (absent : Absent) where
    pub greedy_rows-with_version : greedy_rows (with_version v net) root absent ≡ greedy_rows (with_version w net) root absent
    unfolding greedy_rows walk_up primaries placed
    greedy_rows-with_version = refl

    pub IsGreedy-with_version : (plan : Plan) → IsGreedy (with_version v net) root absent plan → IsGreedy (with_version w net) root absent plan
    IsGreedy-with_version plan greedy =
        record {
          from_root = greedy.from_root;
          to_backup_root = greedy.to_backup_root;
          leaves_out = greedy.leaves_out;
          rows = greedy.rows ∙ greedy_rows-with_version;
          first = IsLeastWait-with_version _ plan.wait_first greedy.first;
          second = IsLeastWait-with_version _ plan.wait_second greedy.second;
          ordinary = IsLeastWait-with_version _ plan.wait greedy.ordinary;
        }
