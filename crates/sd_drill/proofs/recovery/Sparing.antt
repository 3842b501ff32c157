-- Domains that spare a device leave it the same walks, and so the same bound.
use Rattle.std.specs.Prelude.{◌≡◌, ℕ, ◌<◌, Bool, true, false, ◌&&◌, ◌||◌, not, List, [], ◌∷◌, ◌++◌, length, option_to_list, Option, Some, None, if◌then◌else◌, IsTrue}
use Rattle.std.specs.List.{list_any}
use Rattle.std.proofs.Common.{arith, refl, sym, ap, ◌∙◌, subst, inl, inr, get_or, set as put, length-set, get_or-set_other, get_or-set_same}
use Rattle.std.proofs.lemmas.Bool.{and_parts, and_from, or_parts, not-true, cases_eq}
use Rattle.sd_plan.specs.topo.Network.{Network}
use Rattle.sd_plan.specs.domain.Domains.{holds_device, holds_link, hits}
use Rattle.sd_plan.specs.declared.domain.DomainId.{DomainId}
use Rattle.sd_plan.specs.declared.Hop.{Hop}
use Rattle.sd_plan.specs.declared.Plan.{Plan}
use Rattle.sd_plan.specs.Plans.{is_member, primary_of, backup_of}
use Rattle.sd_plan.specs.Walks.{walk, things_of, ends_walks, is_hit}
use Rattle.sd_plan.proofs.CutOff.{cut_off, epath_is}
use Rattle.sd_plan.proofs.Forest.{IsStep, IsForest}
use Rattle.sd_checker.specs.check_loop.Loops.{hops_of, same_hop, is_walk}
use Rattle.sd_checker.specs.check_reach.Reach.{Fed, spared}
use Rattle.sd_drill.specs.recovery.Walks.{halves, IsWalk, IsGreatestOfWalks}
use Rattle.sd_drill.specs.Drill.{IsWorst, IsListed}
use Rattle.sd_drill.specs.Spared.{is_spared, IsSparedBound, AreSparedBounds}
use Rattle.sd_drill.specs.declared.Budget.{Budget}
use Rattle.sd_drill.proofs.recovery.Hearing.{sound_of}
use Rattle.sd_drill.proofs.recovery.Reached.{one_is}

-- the hop of a device that is not hit is its primary one
one_by : (member ends hit : Bool) (primary : Option Hop) (backup : List Hop) (h : Hop) → (ends ≡ false → hit ≡ false)
    → list_any (same_hop h) (if member && not ends then option_to_list primary ++ (if hit then backup else []) else []) ≡ true
    → (ends ≡ false) × (primary ≡ Some h)
one_by false true hit primary backup h unhit some = cc
one_by false false hit primary backup h unhit some = cc
one_by true true hit primary backup h unhit some = cc
one_by true false true primary backup h unhit some = let wrong : true ≡ false = unhit refl in cc
one_by true false false None backup h unhit some = cc
one_by true false false (Some p) backup h unhit some = (refl, ap (λ (hop : Hop). Some hop) (sym (one_is h p some)))

-- so it has the same hops whichever domain does not hit it
same_by : (member ends a b : Bool) (primary backup : List Hop) → (ends ≡ false → a ≡ false) → (ends ≡ false → b ≡ false)
    → (if member && not ends then primary ++ (if a then backup else []) else [])
    ≡ (if member && not ends then primary ++ (if b then backup else []) else [])
same_by false true a b primary backup one two = refl
same_by false false a b primary backup one two = refl
same_by true true a b primary backup one two = refl
same_by true false a b primary backup one two = ap (λ (hit : Bool). primary ++ (if hit then backup else [])) (one refl ∙ sym (two refl))

module _ (net : Network) (plan : Plan) where
  -- the domain does not hit the device, unless walks end there
  abbrev Unhit : DomainId → ℕ → Type 0
  Unhit f d = ends_walks plan d ≡ false → is_hit net plan f d ≡ false

  its_primary : (f : DomainId) (d : ℕ) (h : Hop) → Unhit f d → list_any (same_hop h) (hops_of net plan f d) ≡ true
      → (ends_walks plan d ≡ false) × (primary_of plan d ≡ Some h)
  its_primary f d h unhit some =
      one_by (is_member plan d) (ends_walks plan d) (is_hit net plan f d) (primary_of plan d) (option_to_list (backup_of plan d)) h unhit some

  same_hops : (f g : DomainId) (d : ℕ) → Unhit f d → Unhit g d → hops_of net plan f d ≡ hops_of net plan g d
  same_hops f g d one two =
      same_by (is_member plan d) (ends_walks plan d) (is_hit net plan f d) (is_hit net plan g d) (option_to_list (primary_of plan d))
      (option_to_list (backup_of plan d)) one two

  unhit_of : (f : DomainId) (d : ℕ) → IsTrue (is_spared net plan f d) → Unhit f d
  unhit_of f d free other = not-true (is_hit net plan f d) (and_parts (not (is_hit net plan f d)) (not (holds_device net f d)) free).0

  -- what is fed under one domain is fed under another that spares it
  same_fed : (f g : DomainId) (d : ℕ) → IsTrue (is_spared net plan g d) → Fed net plan f d → Fed net plan g d
  same_fed f g d free fed =
      let parts = and_parts (not (is_hit net plan g d)) (not (holds_device net g d)) free in
      let member : is_member plan d ≡ true = (and_parts (is_member plan d) (not (holds_device net f d)) (sound_of fed)).0 in
      spared (and_from (is_member plan d) (not (holds_device net g d)) member parts.1) parts.0

  module _ (forest : IsForest net plan) where
    -- a domain that does not hit a device does not hit its parent either
    parent_unhit : (f : DomainId) (d : ℕ) (hop : Hop) → d < length net.devices → primary_of plan d ≡ Some hop → is_hit net plan f d ≡ false
        → Unhit f hop.parent
    parent_unhit f d hop within primary none open_ =
        let up : IsStep net plan d hop = forest.up d hop within primary in
        let free : hits net f
        (things_of (hop ∷ (elim (ends_walks plan hop.parent) as (λ (b : Bool). List Hop) [ true ↦ [] | false ↦ cut_off plan (walk net plan hop.parent) ])))
        ≡ false =
        subst (λ l. hits net f l ≡ false) (epath_is plan net d ∙ ap (λ l. things_of (cut_off plan l)) up.walk) none in
        let one = or_parts (holds_link net f hop.link) (holds_device net f hop.parent
        || hits net f
        (things_of (elim (ends_walks plan hop.parent) as (λ (b : Bool). List Hop) [ true ↦ [] | false ↦ cut_off plan (walk net plan hop.parent) ])))
        free in
        let two = or_parts (holds_device net f hop.parent)
        (hits net f
        (things_of (elim (ends_walks plan hop.parent) as (λ (b : Bool). List Hop) [ true ↦ [] | false ↦ cut_off plan (walk net plan hop.parent) ])))
        one.1 in
        ap (hits net f) (epath_is plan net hop.parent)
        ∙ subst (λ b. hits net f (things_of (elim b as (λ (c : Bool). List Hop) [ true ↦ [] | false ↦ cut_off plan (walk net plan hop.parent) ])) ≡ false)
        open_ two.1

    -- so the walks are the same
    same_walk : (f g : DomainId) (d : ℕ) (hs : List Hop) → d < length net.devices → Unhit f d → Unhit g d → IsWalk net plan f d hs → IsWalk net plan g d hs
    same_walk f g d [] within one two walked = refl
    same_walk f g d (h ∷ hs) within one two walked =
        let both = and_parts (list_any (same_hop h) (hops_of net plan f d)) (is_walk net plan f h.parent hs) walked in
        let own = its_primary f d h one both.0 in
        let up : IsStep net plan d h = forest.up d h within own.1 in
        and_from (list_any (same_hop h) (hops_of net plan g d)) (is_walk net plan g h.parent hs)
        (subst (λ (hops : List Hop). list_any (same_hop h) hops ≡ true) (same_hops f g d one two) both.0)
        (same_walk f g h.parent hs up.within (parent_unhit f d h within own.1 (one own.0)) (parent_unhit g d h within own.1 (two own.0)) both.1)

    same_greatest : (f g : DomainId) (d : ℕ) (measure : List Hop → ℕ) (x : ℕ) → d < length net.devices → Unhit f d → Unhit g d
        → IsGreatestOfWalks net plan f d measure x → IsGreatestOfWalks net plan g d measure x
    same_greatest f g d measure x within one two most =
        record {
          hops = most.hops;
          has = same_walk f g d most.hops within one two most.has;
          reached = most.reached;
          greatest = λ others walked. most.greatest others (same_walk g f d others within two one walked);
        }

    -- and so is the bound
    same_worst : (budget : Budget) (f g : DomainId) (d w : ℕ) → d < length net.devices → IsTrue (is_spared net plan f d) → IsTrue (is_spared net plan g d)
        → IsWorst net plan budget f d w → IsWorst net plan budget g d w
    same_worst budget f g d w within one two worst =
        record {
          fed = same_fed f g d two worst.fed;
          far = worst.far;
          is_far = same_greatest f g d (halves net d) worst.far within (unhit_of f d one) (unhit_of g d two) worst.is_far;
          long = worst.long;
          is_long = same_greatest f g d length worst.long within (unhit_of f d one) (unhit_of g d two) worst.is_long;
          short_enough = worst.short_enough;
          oldest = worst.oldest;
          is_oldest = worst.is_oldest;
          sum = worst.sum;
        }

    -- what is listed under one domain that spares the device is its bound under all of them
    pub bound_spared : (budget : Budget) (f : DomainId) (d : ℕ) (o : Option ℕ) → d < length net.devices → IsTrue (is_spared net plan f d)
        → IsListed net plan budget f d o → IsSparedBound net plan budget d o
    bound_spared budget f d None within free listed = tt
    bound_spared budget f d (Some w) within free listed = λ g also. same_worst budget f g d w within free also listed

-- one more bound is known
pub bounds_noted : (net : Network) (plan : Plan) (budget : Budget) (known : List (Option ℕ)) (d : ℕ) (o : Option ℕ) → d < length net.devices
    → AreSparedBounds net plan budget known → IsSparedBound net plan budget d o → AreSparedBounds net plan budget (put known d o)
bounds_noted net plan budget known d o within are right =
    let there : d < length known = omega (arith, within, are.size) in
    record {
      size = length-set known d o ∙ are.size;
      each = λ e.
          elim (cases_eq e d) [
            | inl same ↦ subst (λ (x : ℕ). IsSparedBound net plan budget x (get_or (put known d o) x None)) (sym same)
                (subst (λ (p : Option ℕ). IsSparedBound net plan budget d p) (sym (get_or-set_same known d o None there)) right)
            | inr apart ↦ subst (λ (p : Option ℕ). IsSparedBound net plan budget e p) (sym (get_or-set_other known d e o None apart)) (are.each e)
          ];
    }
