-- The numbers of a drill are bounds: what is listed is the worst of the recovery bound, which holds of every plan that is accepted.
use Rattle.std.specs.Prelude.{◌≡◌, ℕ, ◌<◌, List, length, slice_get, Option, None, Some, refl}
use Rattle.std.proofs.Common.{subst}
use Rattle.std.proofs.lemmas.Option.{slice_get_within}
use Rattle.sd_num.specs.Lists.{map_or}
use Rattle.sd_plan.specs.topo.Network.{Network}
use Rattle.sd_plan.specs.declared.domain.DomainId.{DomainId}
use Rattle.sd_plan.specs.declared.Plan.{Plan}
use Rattle.sd_drill.specs.Bounds.{AreBounds, bound_at}
use Rattle.sd_drill.specs.Drill.{IsListed, IsWorst}
use Rattle.sd_drill.specs.declared.Budget.{Budget}
use Rattle.sd_files.specs.Texts.{Texts, texts_of}
use Rattle.sd_headline.proofs.Runs.{text_is_network, plan_fits}
use Rattle.sd_bound.proofs.Bounded.{bound_holds}
use Rattle.sd_top.specs.Words.{Command, command_of}
use Rattle.sd_top.specs.Words.Command.{Drill}
use Rattle.sd_top.specs.Bounds.{DrillsTruly, KeepsBounds, MeetsBounds}

-- a number that is listed for a device is the worst of it
listed_within : (bounds : List (Option ℕ)) (d w : ℕ) (o : Option (Option ℕ)) → slice_get bounds d ≡ o → map_or o None (λ bound. bound) ≡ Some w
    → d < length bounds
listed_within bounds d w None there listed = cc
listed_within bounds d w (Some bound) there listed = slice_get_within bounds d bound there

listed_worst : (net : Network) (plan : Plan) (budget : Budget) (f : DomainId) (bounds : List (Option ℕ)) (d w : ℕ) → AreBounds net plan budget f bounds
    → bound_at bounds d ≡ Some w → IsWorst net plan budget f d w
listed_worst net plan budget f bounds d w are listed =
    subst (IsListed net plan budget f d) listed (are.listed d (subst (λ n. d < n) are.each (listed_within bounds d w (slice_get bounds d) refl listed)))

drills_truly : (topology text : List ℕ) (budget : Budget) → DrillsTruly topology text budget
drills_truly topology text budget net plan says_net says_plan accepted f bounds are d w listed =
    bound_holds net plan budget f (text_is_network topology net says_net) (plan_fits net 1 text plan says_plan) accepted d w
    (listed_worst net plan budget f bounds d w are listed)

keeps_bounds : (command : Option Command) (texts : Texts) → KeepsBounds command texts
keeps_bounds (Some (Drill topology plan budget)) texts = drills_truly (texts topology) (texts plan) budget
keeps_bounds _ texts = tt

pub meets_bounds : (held : Option (List ℕ → Option (List ℕ))) (words : List (List ℕ)) → MeetsBounds held words
unfolding MeetsBounds
meets_bounds None words = tt
meets_bounds (Some held) words = keeps_bounds (command_of words) (texts_of held)
