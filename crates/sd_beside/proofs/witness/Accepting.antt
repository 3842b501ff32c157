-- A plan whose walks have three hops at most is accepted where tests that compute hold of each domain and each device.
use Rattle.std.specs.Prelude.{◌≡◌, ℕ, zero, suc, ◌<◌, ◌≤◌, Bool, true, false, ◌&&◌, ◌||◌, not, List, [], ◌∷◌, ◌++◌, length, nat_eq, find, slice_get, Option, Some, None, option_to_list, option_map, is_none, if◌then◌else◌}
use Rattle.std.specs.List.{list_any, list_all}
use Rattle.std.proofs.Common.{refl, sym, ap, ◌∙◌, subst, arith, inl, inr}
use Rattle.std.proofs.lemmas.Bool.{and_parts, and_from, or_cases, eqb-true, not-true, not-false, not_from_false, cases_lt, cases_Bool, both_ways}
use Rattle.std.proofs.lemmas.Option.{slice_get_past, same_Some}
use Rattle.sd_num.specs.Lists.{map_or}
use Rattle.sd_plan.specs.topo.Network.{Network, device_numbers, Each}
use Rattle.sd_plan.specs.domain.Domains.{domains, holds_device, holds_link, hits}
use Rattle.sd_plan.specs.declared.domain.DomainId.{DomainId}
use Rattle.sd_plan.specs.declared.Hop.{Hop}
use Rattle.sd_plan.specs.declared.PlanRow.{PlanRow}
use Rattle.sd_plan.specs.declared.Plan.{Plan}
use Rattle.sd_plan.specs.Plans.{Fits, is_member, is_root, row_of, primary_of, backup_of}
use Rattle.sd_plan.specs.Walks.{hops, ends_walks, is_hit, end_of, things_of}
use Rattle.sd_plan.specs.Structure.{structure_breach, ancestor_breach}
use Rattle.sd_checker.specs.check_root.Timing.{timing_breach}
use Rattle.sd_checker.specs.check_root.Roots.{root_breach}
use Rattle.sd_checker.specs.check_loop.Loops.{hops_of, same_hop, is_walk, HasNoCycle}
use Rattle.sd_checker.specs.check_reach.Reach.{acting_end, is_sound, next_hop, Fed, acts, stands_by, spared, turns, DomainHolds, ReachHolds}
use Rattle.sd_checker.specs.Conditions.{IsAccepted}
use Rattle.sd_plan.proofs.Numbered.{none_found}
use Rattle.sd_plan.proofs.Forest.{onward}

-- Lists

-- what passes a test that each element passes has what the test tells
each_of : {A : Type 0} (P : A → Type 0) (test : A → Bool) (xs : List A) → ((x : A) → test x ≡ true → P x) → list_all test xs ≡ true
    → Each P xs
each_of P test [] tells all i x at = absurd (nothing i x at)
  where
    nothing : {A : Type 0} (i : ℕ) (x : A) → slice_get [] i ≡ Some x → ⊥
    nothing i x at = cc
each_of P test (y ∷ ys) tells all zero x at = subst P (same_Some y x at) (tells y (and_parts (test y) (list_all test ys) all).0)
each_of P test (y ∷ ys) tells all (suc i) x at = each_of P test ys tells (and_parts (test y) (list_all test ys) all).1 i x at

-- a hop that is one of those that pass
pub among : (test : Hop → Bool) (hop : Hop) (hs : List Hop) → list_all test hs ≡ true → list_any (same_hop hop) hs ≡ true → test hop ≡ true
among test hop [] all any = cc
among test hop (h ∷ hs) all any =
    let (here, rest) = and_parts (test h) (list_all test hs) all in
    elim (or_cases (same_hop hop h) (list_any (same_hop hop) hs) any) [
      | inl same ↦ subst (λ x. test x ≡ true) (sym (one hop h same)) here
      | inr there ↦ among test hop hs rest there
    ]
  where
    one : (a b : Hop) → same_hop a b ≡ true → a ≡ b
    one a b same =
        let (parent, link) = and_parts (nat_eq a.parent b.parent) (nat_eq a.link b.link) same in
        let made : ℕ → ℕ → Hop = λ p l. record { parent = p; link = l } in
        ap (λ p. made p a.link) (eqb-true a.parent b.parent parent) ∙ ap (made b.parent) (eqb-true a.link b.link link)

-- Tests

-- no device fails the test
abbrev pub all_pass : Network → (ℕ → Bool) → Bool
all_pass net test = is_none (find (λ d. not (test d)) (device_numbers net))

pub is_none-None : {A : Type 0} (o : Option A) → is_none o ≡ true → o ≡ None
is_none-None None is = refl
is_none-None (Some x) is = cc

passes : (net : Network) (test : ℕ → Bool) (d : ℕ) → all_pass net test ≡ true → d < length net.devices → test d ≡ true
passes net test d all within =
    let fails : ℕ → Bool = λ x. not (test x) in
    not-false (test d) (none_found fails (length net.devices) d (is_none-None (find fails (device_numbers net)) all) within)

-- the hops of a device lead to the root or the backup root
abbrev pub leads_to_ends : Network → Plan → DomainId → ℕ → Bool
leads_to_ends net plan f d = list_all (λ hop. ends_walks plan hop.parent) (hops_of net plan f d)

-- no walk from the device has more than n hops
abbrev pub ends_within : Network → Plan → DomainId → ℕ → ℕ → Bool
ends_within net plan f zero d = list_all (λ hop. false) (hops_of net plan f d)
ends_within net plan f (suc n) d = list_all (λ hop. ends_within net plan f n hop.parent) (hops_of net plan f d)

-- the device is hit, and the domain has its backup
abbrev pub loses : Network → Plan → DomainId → ℕ → Bool
loses net plan f d =
    not (ends_walks plan d) && is_hit net plan f d && map_or (backup_of plan d) false (λ hop. holds_link net f hop.link || holds_device net f hop.parent)

-- the device comes to hear the acting end over at most n turns
abbrev pub is_fed : Network → Plan → DomainId → ℕ → ℕ → Bool
is_fed net plan f zero d = false
is_fed net plan f (suc n) d =
    is_sound net plan f d
    && (nat_eq d (acting_end net plan f)
    || (nat_eq d plan.backup_root
    || (not (is_hit net plan f d)
    || map_or (next_hop plan d) false (λ hop. not (holds_link net f hop.link) && not (holds_device net f hop.parent) && is_fed net plan f n hop.parent))))

-- what is asked of each domain
abbrev pub withstands : Network → Plan → DomainId → Bool
withstands net plan f =
    is_none (root_breach net plan f)
    && (all_pass net (ends_within net plan f 3)
    && (all_pass net (λ d. not (loses net plan f d))
    && all_pass net (λ d. not (is_sound net plan f d) || is_fed net plan f 3 d)))

abbrev pub is_accepted : Network → Plan → Bool
is_accepted net plan =
    is_none (structure_breach net plan)
    && (is_none (ancestor_breach net plan) && (is_none (timing_breach net plan) && list_all (withstands net plan) (domains net)))

-- What they tell

pub fed_by : (net : Network) (plan : Plan) (f : DomainId) (n d : ℕ) → is_fed net plan f n d ≡ true → Fed net plan f d
fed_by net plan f zero d fed = cc
fed_by net plan f (suc n) d fed =
    let turned : Bool =
    map_or (next_hop plan d) false (λ hop. not (holds_link net f hop.link) && not (holds_device net f hop.parent) && is_fed net plan f n hop.parent) in
    let (sound, how) =
    and_parts (is_sound net plan f d) (nat_eq d (acting_end net plan f) || (nat_eq d plan.backup_root || (not (is_hit net plan f d) || turned))) fed in
    elim (or_cases (nat_eq d (acting_end net plan f)) (nat_eq d plan.backup_root || (not (is_hit net plan f d) || turned)) how) [
      | inl is ↦ acts sound (eqb-true d (acting_end net plan f) is)
      | inr other ↦ elim (or_cases (nat_eq d plan.backup_root) (not (is_hit net plan f d) || turned) other) [
        | inl is ↦ stands_by sound (eqb-true d plan.backup_root is)
        | inr ordinary ↦ elim (or_cases (not (is_hit net plan f d)) turned ordinary) [
          | inl unhit ↦ spared sound unhit
          | inr turning ↦ elim (cases_Bool (is_hit net plan f d)) [
            | inl hit ↦ by (next_hop plan d) refl sound hit (λ e. fed_by net plan f n e) turning
            | inr unhit ↦ spared sound (not_from_false (is_hit net plan f d) unhit)
          ]
        ]
      ]
    ]
  where
    by : (next : Option Hop) → next_hop plan d ≡ next → is_sound net plan f d ≡ true → is_hit net plan f d ≡ true
        → ((e : ℕ) → is_fed net plan f n e ≡ true → Fed net plan f e)
        → map_or next false (λ hop. not (holds_link net f hop.link) && not (holds_device net f hop.parent) && is_fed net plan f n hop.parent) ≡ true
        → Fed net plan f d
    by None is sound hit rest turning = cc
    by (Some hop) is sound hit rest turning =
        let (free, fed) = and_parts (not (holds_link net f hop.link) && not (holds_device net f hop.parent)) (is_fed net plan f n hop.parent) turning in
        let (link, parent) = and_parts (not (holds_link net f hop.link)) (not (holds_device net f hop.parent)) free in
        turns hop sound hit is link parent (rest hop.parent fed)

-- the four parts of a test of a domain
record Parts (net : Network) (plan : Plan) (f : DomainId) : Type 0 where
  root : is_none (root_breach net plan f) ≡ true
  ends : all_pass net (ends_within net plan f 3) ≡ true
  backups : all_pass net (λ d. not (loses net plan f d)) ≡ true
  fed : all_pass net (λ d. not (is_sound net plan f d) || is_fed net plan f 3 d) ≡ true

parts : (net : Network) (plan : Plan) (f : DomainId) → withstands net plan f ≡ true → Parts net plan f
parts net plan f holds =
    let ends : Bool = all_pass net (ends_within net plan f 3) in
    let backups : Bool = all_pass net (λ d. not (loses net plan f d)) in
    let fed : Bool = all_pass net (λ d. not (is_sound net plan f d) || is_fed net plan f 3 d) in
    let (one, rest) = and_parts (is_none (root_breach net plan f)) (ends && (backups && fed)) holds in
    let (two, rest) = and_parts ends (backups && fed) rest in
    let (three, four) = and_parts backups fed rest in
    record { root = one; ends = two; backups = three; fed = four }

module _ (net : Network) (plan : Plan) (fits : Fits net plan) where
  rowless : (d : ℕ) → length net.devices ≤ d → row_of plan d ≡ None
  rowless d past = ap (λ (o : Option (Option PlanRow)). map_or o None (λ row. row)) (slice_get_past plan.rows d (omega (arith, fits.entries)))

  no_primary : (d : ℕ) → length net.devices ≤ d → primary_of plan d ≡ None
  no_primary d past = ap (option_map (λ (row : PlanRow). row.primary)) (rowless d past)

  no_backup : (d : ℕ) → length net.devices ≤ d → backup_of plan d ≡ None
  no_backup d past = ap (λ (o : Option PlanRow). map_or o None (λ row. row.backup)) (rowless d past)

  no_hops : (f : DomainId) (d : ℕ) → length net.devices ≤ d → hops_of net plan f d ≡ []
  no_hops f d past =
      by (is_member plan d && not (ends_walks plan d)) (is_hit net plan f d) (primary_of plan d) (backup_of plan d) (no_primary d past) (no_backup d past)
    where
      by : (b hit : Bool) (primary backup : Option Hop) → primary ≡ None → backup ≡ None
          → (if b then option_to_list primary ++ (if hit then option_to_list backup else []) else []) ≡ []
      by true true None None p q = refl
      by true false None backup p q = refl
      by true hit (Some x) backup p q = cc
      by true true None (Some y) p q = cc
      by false hit primary backup p q = refl

  unhit : (f : DomainId) (d : ℕ) → length net.devices ≤ d → is_hit net plan f d ≡ false
  unhit f d past = by (is_root plan d)
    where
      none : (n : ℕ) → primary_of plan d ≡ None → hops (ends_walks plan) plan n d ≡ []
      none zero p = refl
      none (suc n) p = ap (onward (ends_walks plan) (hops (ends_walks plan) plan n)) p

      by : (root : Bool) → hits net f (things_of (if root then [] else hops (ends_walks plan) plan net.params.depth d)) ≡ false
      by true = refl
      by false = ap (λ (hs : List Hop). hits net f (things_of hs)) (none net.params.depth (no_primary d past))

  -- the hops of every device lead to ends
  all_to_ends : (f : DomainId) → all_pass net (leads_to_ends net plan f) ≡ true → (d : ℕ) → leads_to_ends net plan f d ≡ true
  all_to_ends f all d =
      elim (cases_lt d (length net.devices)) [
        | inl within ↦ passes net (leads_to_ends net plan f) d all within
        | inr past ↦ ap (list_all (λ (hop : Hop). ends_walks plan hop.parent)) (no_hops f d past)
      ]

  -- only a device that is no end has hops
  no_end : (f : DomainId) (d : ℕ) (hop : Hop) → list_any (same_hop hop) (hops_of net plan f d) ≡ true → ends_walks plan d ≡ false
  no_end f d hop any = by (is_member plan d) (ends_walks plan d) any
    where
      rest : List Hop
      rest = option_to_list (primary_of plan d) ++ (if is_hit net plan f d then option_to_list (backup_of plan d) else [])

      by : (member ends : Bool) → list_any (same_hop hop) (if member && not ends then rest else []) ≡ true → ends ≡ false
      by true true any = cc
      by true false any = refl
      by false ends any = cc

  -- a walk has one hop at most
  pub one_hop : (f : DomainId) → all_pass net (leads_to_ends net plan f) ≡ true → (d : ℕ) (hop : Hop) (hs : List Hop)
      → is_walk net plan f d (hop ∷ hs) ≡ true
      → (hs ≡ []) × (list_any (same_hop hop) (hops_of net plan f d) ≡ true) × (ends_walks plan hop.parent ≡ true)
  one_hop f all d hop hs walked =
      let (here, rest) = and_parts (list_any (same_hop hop) (hops_of net plan f d)) (is_walk net plan f hop.parent hs) walked in
      let ends = among (λ x. ends_walks plan x.parent) hop (hops_of net plan f d) (all_to_ends f all d) here in
      (by hs ends rest, here, ends)
    where
      by : (hs : List Hop) → ends_walks plan hop.parent ≡ true → is_walk net plan f hop.parent hs ≡ true → hs ≡ []
      by [] ends rest = refl
      by (next ∷ hs) ends rest =
          absurd (both_ways (ends_walks plan hop.parent)
          (no_end f hop.parent next (and_parts (list_any (same_hop next) (hops_of net plan f hop.parent)) (is_walk net plan f next.parent hs) rest).0) ends)

  -- a walk that comes back can begin at its second device
  turned : (f : DomainId) (d e : ℕ) (hop : Hop) (hs : List Hop) → list_any (same_hop hop) (hops_of net plan f d) ≡ true → is_walk net plan f e hs ≡ true
      → end_of e hs ≡ d → (is_walk net plan f e (hs ++ hop ∷ []) ≡ true) × (end_of e (hs ++ hop ∷ []) ≡ hop.parent)
  turned f d e hop [] here walked same = (
    and_from (list_any (same_hop hop) (hops_of net plan f e)) true (subst (λ x. list_any (same_hop hop) (hops_of net plan f x) ≡ true) (sym same) here) refl,
    refl,
  )
  turned f d e hop (next ∷ hs) here walked same =
      let (one, rest) = and_parts (list_any (same_hop next) (hops_of net plan f e)) (is_walk net plan f next.parent hs) walked in
      let (more, ends) = turned f d next.parent hop hs here rest same in
      (and_from (list_any (same_hop next) (hops_of net plan f e)) (is_walk net plan f next.parent (hs ++ hop ∷ [])) one more, ends)

  -- where walks from a device have n hops at most, none comes back to it
  none_back : (f : DomainId) (n d : ℕ) → ends_within net plan f n d ≡ true → (hop : Hop) (hs : List Hop) → is_walk net plan f d (hop ∷ hs) ≡ true
      → end_of hop.parent hs ≡ d → ⊥
  none_back f zero d all hop hs walked same =
      nothing (among (λ x. false) hop (hops_of net plan f d) all
      (and_parts (list_any (same_hop hop) (hops_of net plan f d)) (is_walk net plan f hop.parent hs) walked).0)
    where
      nothing : false ≡ true → ⊥
      nothing h = cc
  none_back f (suc n) d all hop hs walked same =
      let (here, rest) = and_parts (list_any (same_hop hop) (hops_of net plan f d)) (is_walk net plan f hop.parent hs) walked in
      let within = among (λ x. ends_within net plan f n x.parent) hop (hops_of net plan f d) all here in
      by hs rest same here within (none_back f n hop.parent within)
    where
      by : (hs : List Hop) → is_walk net plan f hop.parent hs ≡ true → end_of hop.parent hs ≡ d → list_any (same_hop hop) (hops_of net plan f d) ≡ true
          → ends_within net plan f n hop.parent ≡ true
          → ((next : Hop) (hs : List Hop) → is_walk net plan f hop.parent (next ∷ hs) ≡ true → end_of next.parent hs ≡ hop.parent → ⊥) → ⊥
      by [] rest same here within never =
          let (more, ends) = turned f d hop.parent hop [] here rest same in never hop [] more ends
      by (next ∷ hs) rest same here within never =
          let (more, ends) = turned f d hop.parent hop (next ∷ hs) here rest same in never next (hs ++ hop ∷ []) more ends

  no_cycle : (f : DomainId) → all_pass net (ends_within net plan f 3) ≡ true → HasNoCycle net plan f
  no_cycle f all d hop hs walked same =
      elim (cases_lt d (length net.devices)) [
        | inl within ↦ none_back f 3 d (passes net (ends_within net plan f 3) d all within) hop hs walked same
        | inr past ↦ none_back f 3 d (ap (list_all (λ (x : Hop). ends_within net plan f 2 x.parent)) (no_hops f d past)) hop hs walked same
      ]

  keeps_backups : (f : DomainId) → all_pass net (λ d. not (loses net plan f d)) ≡ true → DomainHolds net plan f
  keeps_backups f all d lost =
      elim (cases_lt d (length net.devices)) [
        | inl within ↦ both_ways (loses net plan f d) (not-true (loses net plan f d) (passes net (λ x. not (loses net plan f x)) d all within))
            (and_from (not (ends_walks plan d) && is_hit net plan f d) (takes (backup_of plan d))
            (and_from (not (ends_walks plan d)) (is_hit net plan f d) lost.no_root lost.hit)
            (subst (λ (o : Option Hop). takes o ≡ true) (sym lost.has_backup) lost.lost))
        | inr past ↦ none (backup_of plan d) (no_backup d past) lost.has_backup
      ]
    where
      takes : Option Hop → Bool
      takes o = map_or o false (λ hop. holds_link net f hop.link || holds_device net f hop.parent)

      none : (o : Option Hop) → o ≡ None → o ≡ Some lost.backup → ⊥
      none o is some = cc

  reaches : (f : DomainId) → all_pass net (λ d. not (is_sound net plan f d) || is_fed net plan f 3 d) ≡ true → ReachHolds net plan f
  reaches f all d sound =
      elim (cases_lt d (length net.devices)) [
        | inl within ↦ inl (fed_by net plan f 3 d
            (by (is_sound net plan f d) (is_fed net plan f 3 d) sound (passes net (λ x. not (is_sound net plan f x) || is_fed net plan f 3 x) d all within)))
        | inr past ↦ inl (spared sound (not_from_false (is_hit net plan f d) (unhit f d past)))
      ]
    where
      by : (a b : Bool) → a ≡ true → (not a || b) ≡ true → b ≡ true
      by true b is holds = holds
      by false b is holds = cc

  -- what is asked of each domain, condition by condition
  pub record MeetsOfDomains : Type 0 where
    pub root : Each (λ f. root_breach net plan f ≡ None) (domains net)
    pub loop : Each (HasNoCycle net plan) (domains net)
    pub domain : Each (DomainHolds net plan) (domains net)
    pub reach : Each (ReachHolds net plan) (domains net)

  pub meets_of_domains : list_all (withstands net plan) (domains net) ≡ true → MeetsOfDomains
  meets_of_domains each =
      record {
        root = of_each (λ f. root_breach net plan f ≡ None) (λ f of_domain. is_none-None (root_breach net plan f) of_domain.root);
        loop = of_each (HasNoCycle net plan) (λ f of_domain. no_cycle f of_domain.ends);
        domain = of_each (DomainHolds net plan) (λ f of_domain. keeps_backups f of_domain.backups);
        reach = of_each (ReachHolds net plan) (λ f of_domain. reaches f of_domain.fed);
      }
    where
      of_each : (P : DomainId → Type 0) → ((f : DomainId) → Parts net plan f → P f) → Each P (domains net)
      of_each P tells = each_of P (withstands net plan) (domains net) (λ f holds. tells f (parts net plan f holds)) each

  pub accepted_by : is_accepted net plan ≡ true → IsAccepted net plan
  accepted_by tests =
      let all : Bool = list_all (withstands net plan) (domains net) in
      let timed : Bool = is_none (timing_breach net plan) in
      let (structure, rest) = and_parts (is_none (structure_breach net plan)) (is_none (ancestor_breach net plan) && (timed && all)) tests in
      let (ancestor, rest) = and_parts (is_none (ancestor_breach net plan)) (timed && all) rest in
      let (timing, each) = and_parts timed all rest in
      let of_domains : MeetsOfDomains = meets_of_domains each in
      record {
        structure = is_none-None (structure_breach net plan) structure;
        ancestor = is_none-None (ancestor_breach net plan) ancestor;
        timing = is_none-None (timing_breach net plan) timing;
        root = of_domains.root;
        loop = of_domains.loop;
        domain = of_domains.domain;
        reach = of_domains.reach;
      }
