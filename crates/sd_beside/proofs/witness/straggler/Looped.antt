-- The fifth rule of timing is needed: the prover computes the conditions on the plan, and the history with its loop.
use Rattle.std.specs.Prelude.{◌≡◌, true, refl}
use Rattle.sd_beside.specs.witness.straggler.Values.{network, plan, longer, setting, history}
use Rattle.sd_beside.specs.witness.straggler.Witness.{BreaksFifthAlone, FifthIsNeeded}
use Rattle.sd_beside.proofs.witness.Accepting.{MeetsOfDomains, meets_of_domains, accepted_by}
use Rattle.sd_beside.proofs.witness.Histories.{are_accepted, is_history}
use Rattle.sd_beside.proofs.witness.straggler.Read.{texts_say, is_network, plan_fits, longer_fits}

meets : MeetsOfDomains network plan plan_fits
meets = meets_of_domains network plan plan_fits refl

breaks : BreaksFifthAlone
breaks = record { structure = refl; ancestor = refl; timing = refl; root = meets.root; loop = meets.loop; domain = meets.domain; reach = meets.reach }

accepted : are_accepted setting history ≡ true
unfolding history
accepted = refl

pub fifth_is_needed : FifthIsNeeded
unfolding history
fifth_is_needed =
    record {
      says = texts_say;
      is_network = is_network;
      fits = plan_fits;
      breaks = breaks;
      staged = accepted_by network longer longer_fits refl;
      count = refl;
      is = is_history setting history accepted;
      premises = refl;
      loop = refl;
    }
