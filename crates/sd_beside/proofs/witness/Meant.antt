-- A plan that a text means fits its network.
use Rattle.std.specs.Prelude.{◌≡◌, Option, Some, None, Ok}
use Rattle.serde_json.specs.Data.{Data}
use Rattle.sd_plantext.specs.Meaning.{plan_of}
use Rattle.sd_plantext.proofs.Sound.{plan_ok}
use Rattle.sd_plan.specs.topo.Network.{Network}
use Rattle.sd_plan.specs.declared.Plan.{Plan}
use Rattle.sd_plan.specs.Plans.{Fits}

pub fits_of : (net : Network) (meant : Plan) (tree : Option Data) → plan_of net tree ≡ Ok meant → Fits net meant
unfolding plan_of
fits_of net meant None says = cc
fits_of net meant (Some d) says = plan_ok net d meant says
