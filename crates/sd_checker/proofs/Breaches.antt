-- From what is found of the conditions, one after another, to the verdict.
use Rattle.std.proofs.Common.{◌≡◌, ℕ, ◌+◌, ◌<◌, ◌≤◌, true, false, length, Option, Some, None, refl, sym, subst, ◌∙◌, inl, inr, arith}
use Rattle.std.specs.Prelude.{nat_lt, slice_get}
use Rattle.std.proofs.lemmas.Bool.{cases_lt, eqb-true, ltb-true, lt-ltb}
use Rattle.std.proofs.lemmas.Option.{slice_get_within}
use Rattle.sd_plan.specs.topo.Network.{Network}
use Rattle.sd_plan.specs.domain.Domains.{domains}
use Rattle.sd_plan.specs.declared.domain.DomainId.{DomainId}
use Rattle.sd_plan.specs.declared.Plan.{Plan}
use Rattle.sd_checker.specs.check_loop.Loops.{HasNoCycle}
use Rattle.sd_checker.specs.check_loop.ShownCycles.{ShowsCycle}
use Rattle.sd_checker.specs.check_reach.Reach.{DomainHolds, ReachHolds}
use Rattle.sd_checker.specs.check_reach.ShownChains.{ShowsDevice, IsShownChain}
use Rattle.sd_checker.specs.Conditions.{Condition, Holds}
use Rattle.sd_checker.specs.Conditions as condition
use Rattle.sd_checker.specs.Findings.{HoldsOf, ShowsOf, Judges, IsFoundAmong, Finds, IsSound, is_open, is_loop}
use Rattle.sd_checker.specs.Verdicts.{IsBreach, Shows, IsFirstSuspect, is_before, place_of, condition_of}
use Rattle.sd_checker.specs.declared.Breach.{Breach}
use Rattle.sd_checker.specs.declared.Breach.TheVariants as breach

-- what was found of all domains is the verdict
pub found_of_all : (net : Network) (plan : Plan) (found : Option Breach) → IsSound net plan → IsFoundAmong net plan (length (domains net)) found
    → Finds net plan found
found_of_all net plan None sound among =
    record {
      structure = sound.structure;
      ancestor = sound.ancestor;
      timing = sound.timing;
      root = sound.root;
      loop = λ j f at. among.hold condition.loop refl j f (slice_get_within (domains net) j f at) at;
      domain = λ j f at. among.hold condition.domain refl j f (slice_get_within (domains net) j f at) at;
      reach = λ j f at. among.hold condition.reach refl j f (slice_get_within (domains net) j f at) at;
    }
found_of_all net plan (Some b) sound among = record { before = earlier; shows = among.shows }
  where
    earlier : (c : Condition) → is_before c (condition_of b) ≡ true → Holds net plan c
    earlier condition.structure before = sound.structure
    earlier condition.ancestor before = sound.ancestor
    earlier condition.timing before = sound.timing
    earlier condition.root before = sound.root
    earlier condition.loop before = λ j f at. among.hold condition.loop before j f (slice_get_within (domains net) j f at) at
    earlier condition.domain before = λ j f at. among.hold condition.domain before j f (slice_get_within (domains net) j f at) at
    earlier condition.reach before = λ j f at. among.hold condition.reach before j f (slice_get_within (domains net) j f at) at

-- nothing is found of no domains
pub found_of_none : (net : Network) (plan : Plan) → IsFoundAmong net plan 0 None
found_of_none net plan = record { hold = λ c asked j g before at. absurd (omega arith); shows = tt; later = tt }

-- what holds of the first domains and of the next holds of one more
pub one_more : (net : Network) (P : DomainId → Type 0) (k : ℕ) (f : DomainId) → ((j : ℕ) (g : DomainId) → j < k → slice_get (domains net) j ≡ Some g → P g)
    → slice_get (domains net) k ≡ Some f → P f
    → (j : ℕ) (g : DomainId) → j < k + 1 → slice_get (domains net) j ≡ Some g → P g
one_more net P k f earlier at here j g before there =
    elim (cases_lt j k) [
      | inl less ↦ earlier j g less there
      | inr last ↦
          (let same : j ≡ k = omega arith in
          let both : Some f ≡ Some g = sym at ∙ subst (λ (i : ℕ). slice_get (domains net) i ≡ Some g) same there in
          let is : f ≡ g = cc in
          subst P is here)
    ]

-- the next domain meets each open condition
pub found_no_more : (net : Network) (plan : Plan) (k : ℕ) (found : Option Breach) (f : DomainId) → IsFoundAmong net plan k found
    → slice_get (domains net) k ≡ Some f → Judges net plan found f None
    → IsFoundAmong net plan (k + 1) found
found_no_more net plan k found f among at holds =
    record { hold = λ c asked. one_more net (λ g. HoldsOf net plan g c) k f (among.hold c asked) at (holds c asked); shows = among.shows; later = among.later }

-- what comes before an open condition is open
still_open : (found : Option Breach) (c later : Condition) → is_before c later ≡ true → is_open found later ≡ true → is_open found c ≡ true
still_open None c later before asked = refl
still_open (Some b) c later before asked =
    lt-ltb (place_of c) (place_of (condition_of b))
    (omega (arith, ltb-true (place_of c) (place_of later) before, ltb-true (place_of later) (place_of (condition_of b)) asked))

-- the breach that the next domain shows is shown of the plan
shown_next : (net : Network) (plan : Plan) (k : ℕ) (found : Option Breach) (f : DomainId) (b : Breach) → IsFoundAmong net plan k found
    → slice_get (domains net) k ≡ Some f → Judges net plan found f (Some b) → Shows net plan b
shown_next net plan k found f b among at judged = shown b judged.0 judged.2
  where
    first : (g : DomainId) (P : DomainId → Type 0) → g ≡ f → ((j : ℕ) (h : DomainId) → j < k → slice_get (domains net) j ≡ Some h → P h)
        → IsFirstSuspect net P g
    first g P same earlier = (k, at ∙ sym (let some : Some g ≡ Some f = cc in some), earlier)

    shown : (b : Breach) → is_open found (condition_of b) ≡ true → ShowsOf net plan f b → Shows net plan b
    shown (breach.Structure rule device) asked shows = absurd shows
    shown (breach.Ancestor device) asked shows = absurd shows
    shown (breach.Timing t) asked shows = absurd shows
    shown (breach.Root g thing) asked shows = absurd shows
    shown (breach.Loop g cycle) asked shows =
        (first g (HasNoCycle net plan) shows.0 (among.hold condition.loop asked), subst (λ (h : DomainId). ShowsCycle net plan h cycle) (sym shows.0) shows.1)
    shown (breach.Domain g device) asked shows = (
      first g (DomainHolds net plan) shows.0 (among.hold condition.domain asked),
      subst (λ (h : DomainId). ShowsDevice net plan h device)
          (sym shows.0) shows.1,
    )
    shown (breach.Reach g chain) asked shows = (
      first g (ReachHolds net plan) shows.0 (among.hold condition.reach asked),
      subst (λ (h : DomainId). IsShownChain net plan h chain)
          (sym shows.0) shows.1,
    )

-- the next domain breaks a condition that comes after the one on loops
pub found_more : (net : Network) (plan : Plan) (k : ℕ) (found : Option Breach) (f : DomainId) (b : Breach) → IsFoundAmong net plan k found
    → slice_get (domains net) k ≡ Some f → Judges net plan found f (Some b) → is_loop b ≡ false
    → IsFoundAmong net plan (k + 1) (Some b)
found_more net plan k found f b among at judged no_loop =
    record {
      hold = λ c before. one_more net (λ g. HoldsOf net plan g c) k f (among.hold c (still_open found c (condition_of b) before judged.0)) at
          (judged.1 c before);
      shows = shown_next net plan k found f b among at judged;
      later = later b judged.2 no_loop;
    }
  where
    later : (b : Breach) → ShowsOf net plan f b → is_loop b ≡ false → is_before condition.loop (condition_of b) ≡ true
    later (breach.Structure rule device) shows no_loop = absurd shows
    later (breach.Ancestor device) shows no_loop = absurd shows
    later (breach.Timing t) shows no_loop = absurd shows
    later (breach.Root g thing) shows no_loop = absurd shows
    later (breach.Loop g cycle) shows no_loop = cc
    later (breach.Domain g device) shows no_loop = refl
    later (breach.Reach g chain) shows no_loop = refl

-- the next domain breaks the condition on loops, which comes before the others on hit devices
pub found_loop : (net : Network) (plan : Plan) (k : ℕ) (found : Option Breach) (f : DomainId) (b : Breach) → IsSound net plan → IsFoundAmong net plan k found
    → slice_get (domains net) k ≡ Some f → Judges net plan found f (Some b) → is_loop b ≡ true
    → IsBreach net plan b
found_loop net plan k found f b sound among at judged loop = record { before = earlier; shows = shown_next net plan k found f b among at judged }
  where
    place : place_of (condition_of b) ≡ 5
    place = eqb-true (place_of (condition_of b)) 5 loop

    not_after : (n : ℕ) → 5 ≤ n → nat_lt n (place_of (condition_of b)) ≡ true → ⊥
    not_after n after before = let less = ltb-true n (place_of (condition_of b)) before in omega (arith, less, place, after)

    earlier : (c : Condition) → is_before c (condition_of b) ≡ true → Holds net plan c
    earlier condition.structure before = sound.structure
    earlier condition.ancestor before = sound.ancestor
    earlier condition.timing before = sound.timing
    earlier condition.root before = sound.root
    earlier condition.loop before = absurd (not_after 5 (omega arith) before)
    earlier condition.domain before = absurd (not_after 6 (omega arith) before)
    earlier condition.reach before = absurd (not_after 7 (omega arith) before)
