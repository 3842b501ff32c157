-- The recovery bound, with nothing assumed: both its halves, since steady histories keep the invariant and devices are silent no longer than they may be.
-- And the same of accepted plans, and of histories in which no premise is broken.
use Rattle.std.specs.Prelude.{◌≡◌, ℕ, ◌+◌, ◌≤◌, true, not, ◌∷◌, ◌++◌, IsTrue}
use Rattle.std.specs.List.{list_all}
use Rattle.std.proofs.Common.{arith, sym, subst, ◌∙◌}
use Rattle.sd_num.specs.Numbers.{grow, low}
use Rattle.sd_plan.specs.topo.Network.{Network, rates_of}
use Rattle.sd_drill.specs.ages.Ages.{ageing}
use Rattle.sd_drill.specs.Drill.{root_halves, source, quiet, IsWorst}
use Rattle.sd_plan.specs.declared.domain.DomainId.{DomainId}
use Rattle.sd_plan.specs.declared.Plan.{Plan}
use Rattle.sd_drill.specs.declared.Budget.{Budget}
use Rattle.sd_history.specs.Steps.{seen_of}
use Rattle.sd_safety.specs.invariant.Guarded.{all_but_start_hold}
use Rattle.sd_bound.specs.Bound.{no_stage, within_base, within_hold, FailsSo}
use Rattle.sd_bound.specs.Holding.{BoundHolds}
use Rattle.sd_bound.specs.Steady.{AlwaysBelow, AlwaysBounded}
use Rattle.sd_bound.specs.Tight.{TightHolds, TightIsLess}
use Rattle.sd_bound.specs.Halves.{IsCovered}
use Rattle.sd_bound.specs.ages.Sums.{silence_at_most}
use Rattle.sd_bound.proofs.Composing as composing
use Rattle.sd_bound.proofs.bases.Concluding.{bases_hold}
use Rattle.sd_bound.proofs.ages.Ages.{silence_is_quiet, ages_hold, upto_sum}
use Rattle.sd_history.proofs.Admitted.{history_is_admitted}
use Rattle.sd_safety.proofs.invariant.Parts.{accepted_is_guarded, all_are_more}
use Rattle.sd_safety.proofs.timers.Spans.{grow_rises}
use Rattle.sd_safety.proofs.whole.Kept.{stays_invariant}
use Rattle.sd_safety.proofs.whole.Silent.{are_silent}
use Rattle.sd_sched.specs.Events.{is_stage}
use Rattle.sd_history.specs.World.{alone, setting_over}
use Rattle.sd_history.specs.Chronicle.{chronicle}
use Rattle.sd_bound.proofs.histories.Unstaged.{is_first_era, none_staged_in, stays_first, chronicle_same, history_alone, premises_same}

-- what is below a number is below each greater one
below_more : (net : Network) (plan : Plan) (budget : Budget) (f : DomainId) (d a b : ℕ) → a ≤ b → AlwaysBelow net plan budget f d a
    → AlwaysBelow net plan budget f d b
below_more net plan budget f d a b le below history later s earlier report run same told counted =
    let most = below history later s earlier report run same told counted in
    omega (arith, le, most)

covered_below : (net : Network) (plan : Plan) (budget : Budget) (f : DomainId) (d far oldest : ℕ) → IsCovered net plan f d far oldest
    → AlwaysBelow net plan budget f d (source net plan budget + far + ageing (rates_of net d) oldest)
covered_below net plan budget f =
    composing.stays_below net plan budget f (bases_hold net plan (stays_invariant (alone net plan)))
    (ages_hold net plan (stays_invariant (alone net plan)) (are_silent (alone net plan)))

-- an age that the drill counts covers each silence
pub worst_covers : (net : Network) (plan : Plan) (budget : Budget) (f : DomainId) (d w : ℕ) (worst : IsWorst net plan budget f d w)
    → IsCovered net plan f d worst.far worst.oldest
worst_covers net plan budget f d w worst =
    record {
      fed = worst.fed;
      is_far = worst.is_far;
      long = worst.long;
      is_long = worst.is_long;
      short_enough = worst.short_enough;
      covers = λ age le. worst.is_oldest.greatest age
          (upto_sum (low (rates_of net d) age) (silence_at_most net plan) (quiet net plan worst.long) le (silence_is_quiet net plan worst.long));
    }

pub always_bounded : (net : Network) (plan : Plan) (budget : Budget) (f : DomainId) → AlwaysBounded net plan budget f
always_bounded net plan budget f d w worst =
    let sum = worst.sum in
    below_more net plan budget f d (source net plan budget + worst.far + ageing (rates_of net d) worst.oldest) w (omega (arith, sum))
    (covered_below net plan budget f d worst.far worst.oldest (worst_covers net plan budget f d w worst))

pub tight_holds : (net : Network) (plan : Plan) (budget : Budget) (f : DomainId) → TightHolds net plan budget f
tight_holds net plan budget f d w tight =
    subst (AlwaysBelow net plan budget f d) (sym tight.sum)
    (covered_below net plan budget f d tight.far tight.oldest
    (record {
      fed = tight.fed;
      is_far = tight.is_far;
      long = tight.long;
      is_long = tight.is_long;
      short_enough = tight.short_enough;
      covers = tight.is_oldest.greatest;
    }))

pub tight_is_less : (net : Network) (plan : Plan) (budget : Budget) (f : DomainId) → TightIsLess net plan budget f
tight_is_less net plan budget f d w tight worst is =
    let far : is.far ≤ worst.far = subst (λ n. n ≤ worst.far) is.is_far.reached (worst.is_far.greatest is.is_far.hops is.is_far.has) in
    let old : is.oldest ≤ worst.oldest = (worst_covers net plan budget f d w worst).covers is.oldest is.is_oldest.within in
    let grows : ageing (rates_of net d) is.oldest ≤ ageing (rates_of net d) worst.oldest =
    more (rates_of net d).grain (grow (rates_of net d).ppm is.oldest) (grow (rates_of net d).ppm worst.oldest)
    (grow_rises (rates_of net d).ppm is.oldest worst.oldest old) in
    sum tight (source net plan budget) is.far (ageing (rates_of net d) is.oldest) w (root_halves net plan) worst.far (ageing (rates_of net d) worst.oldest)
    is.sum worst.sum far grows
  where
    more : (g a b : ℕ) → a ≤ b → g + a ≤ g + b
    more g a b le = omega (arith, le)

    sum : (t s far old w rh far' old' : ℕ) → t ≡ s + far + old → w ≡ s + rh + far' + old' → far ≤ far' → old ≤ old' → t ≤ w
    sum t s far old w rh far' old' one two three four = omega (arith, one, two, three, four)

pub bound_holds : (net : Network) (plan : Plan) (budget : Budget) (f : DomainId) → BoundHolds net plan budget f
bound_holds net plan budget f network fits accepted d w worst others history later s earlier report is same premises unstaged based held failed told
    counted =
    always_bounded net plan budget f d w worst history later s earlier report
    (record {
      network = network;
      fits = fits;
      guarded = accepted_is_guarded net plan accepted;
      is = history_is_admitted (alone net plan) history (history_alone net plan others history none is);
      premises = subst (λ steps. IsTrue (all_but_start_hold (alone net plan) (seen_of steps))) (sym steps)
          (all_are_more (alone net plan) (seen_of (later ++ s ∷ earlier))
          (sym (premises_same net plan others (seen_of (later ++ s ∷ earlier)) first) ∙ premises));
      unstaged = subst (λ steps. IsTrue (no_stage (seen_of steps))) (sym steps) unstaged;
      based = subst (λ steps. IsTrue (within_base budget (seen_of steps))) (sym steps) based;
      held = subst (λ steps. IsTrue (within_hold budget steps)) (sym steps) held;
      failed = subst (λ steps. FailsSo net f (seen_of steps)) (sym steps) failed;
    }) steps told counted
  where
    none : list_all (λ e. not (is_stage e)) history ≡ true
    none =
        none_staged_in net plan others (setting_over net (plan ∷ others)) history
        (subst (λ steps. IsTrue (no_stage (seen_of steps))) (sym same) unstaged)

    -- as of this plan alone
    steps : chronicle (alone net plan) history ≡ later ++ s ∷ earlier
    steps = sym (chronicle_same net plan others history none) ∙ same

    first : is_first_era (seen_of (later ++ s ∷ earlier)) ≡ true
    first = subst (λ steps. is_first_era (seen_of steps) ≡ true) steps (stays_first net plan others history none)
