-- Plans are read and printed the same over a network with each version.
use Rattle.std.specs.Prelude.{◌≡◌, ℕ}
use Rattle.std.proofs.Common.{refl}
use Rattle.sd_plan.specs.topo.Network.{Network}
use Rattle.sd_plan.proofs.topo.Versions.{with_version}
use Rattle.sd_plan.specs.declared.Plan.{Plan}
use Rattle.sd_plantext.specs.Meaning.{hop_in, backup_in, row_in, device_in, one_more_row, rows_in, absent_in, plan_in, plan_of, absent_of}
use Rattle.sd_plantext.specs.Printed.{plan_text}

module _ (v w : ℕ) (net : Network) where
  -- whatever the tree
  pub plan_of-with_version : plan_of (with_version v net) ≡ plan_of (with_version w net)
  unfolding plan_of plan_in absent_in rows_in one_more_row device_in row_in backup_in hop_in
  plan_of-with_version = refl

  pub absent_of-with_version : absent_of (with_version v net) ≡ absent_of (with_version w net)
  unfolding absent_of absent_in
  absent_of-with_version = refl

  pub plan_text-with_version : (plan : Plan) → plan_text (with_version v net) plan ≡ plan_text (with_version w net) plan
  plan_text-with_version plan = refl
