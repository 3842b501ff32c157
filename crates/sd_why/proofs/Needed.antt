-- How many links a plan needs: two for each device but some, and a backup link serves two devices at most.
use Rattle.std.proofs.Common.{◌≡◌, ℕ, zero, suc, ◌+◌, ◌*◌, ◌-◌, ◌/◌, ◌<◌, ◌≤◌, ◌⊎◌, inl, inr, Bool, true, false, ◌&&◌, ◌||◌, not, if◌then◌else◌, List, [], ◌∷◌, ◌++◌, length, map, filter, find, nat_eq, Option, Some, None, option_map, refl, sym, ap, ◌∙◌, subst, arith, slice_get, length-append}
use Rattle.std.specs.Option.{option_or}
use Rattle.std.proofs.lemmas.Bool.{and_from, and_parts, both_ways, eq-eqb, eqb-true, false_from_ne_true, not-false, not-true, or_cases, or_left, or_right}
use Rattle.std.proofs.lemmas.List.{length-map}
use Rattle.std.proofs.lemmas.List.Filters.{length-filter_both}
use Rattle.std.proofs.lemmas.Option.{same_Some}
use Rattle.sd_num.specs.Lists.{below, has, map_or}
use Rattle.sd_num.proofs.Distinct.{AreDistinct, few}
use Rattle.sd_num.proofs.Places.{below_has, kept_parts}
use Rattle.sd_plan.specs.topo.Network.{Each, Network, device_numbers, joins, link_of}
use Rattle.sd_plan.specs.topo.Joined.{Joined, here, over}
use Rattle.sd_plan.specs.domain.Domains.{hits}
use Rattle.sd_plan.specs.declared.domain.DomainId.{DomainId}
use Rattle.sd_plan.specs.declared.domain.DomainId.TheVariants as domain
use Rattle.sd_plan.specs.declared.Absent.{Absent}
use Rattle.sd_plan.specs.declared.Hop.{Hop}
use Rattle.sd_plan.specs.declared.Plan.{Plan}
use Rattle.sd_plan.specs.declared.PlanRow.{PlanRow}
use Rattle.sd_plan.specs.Plans.{IsHop, IsRow, backup_of, has_backup, is_backup_root, is_member, is_present, is_root, primary_of}
use Rattle.sd_plan.specs.Structure.{falls_back, first_failing, hop_is_right, hops_are_right, is_no_ancestor, links_differ, reaches_root, roots_breach, row_is_right, structure_breach}
use Rattle.sd_plan.specs.Walks.{devices_of, ends_walks, hops, is_hit, on_walk, short_walk, things_of}
use Rattle.sd_plan.specs.IndexedPlan.{goes_over}
use Rattle.sd_plan.proofs.Forest.{IsForest, IsStep, forest_of, height_most, on_itself, on_up, one_over_link}
use Rattle.sd_plan.proofs.Numbered.{both_none, length-below, none_found}
use Rattle.sd_plan.proofs.Rules.{KeepsRules, keeps_rules, none_mapped}
use Rattle.sd_planner.proofs.Lists.{apart_append, apart_below, apart_filter, has_both}
use Rattle.sd_checker.specs.Conditions.{IsAccepted}
use Rattle.sd_checker.specs.check_reach.Reach.{Fed, ReachHolds, acts, is_sound, is_sound_link, spared, stands_by, turns}
use Rattle.sd_checker.proofs.DomainOrder.{length-domains, link_at}
use Rattle.sd_why.specs.Bridges.{AreBridges, HasFewLinks, IsBridge, JoinedWithout}
use Rattle.sd_why.specs.Plans.{HasNoPlan, IsWhole}
use Rattle.sd_why.proofs.Counting.{ascending_apart, but, but_has, but_one, distinct_map, map_has, no_more}

-- which ends of the link the two devices are that it joins
ends_joined : (net : Network) (l c d : ℕ) → joins net l c d ≡ true
    → (((link_of net l).end_a ≡ c) × ((link_of net l).end_b ≡ d)) ⊎ (((link_of net l).end_a ≡ d) × ((link_of net l).end_b ≡ c))
ends_joined net l c d joined = by (link_of net l).end_a (link_of net l).end_b joined
  where
    by : (a b : ℕ) → ((nat_eq a c && nat_eq b d) || (nat_eq a d && nat_eq b c)) ≡ true → ((a ≡ c) × (b ≡ d)) ⊎ ((a ≡ d) × (b ≡ c))
    by a b joined =
        elim (or_cases (nat_eq a c && nat_eq b d) (nat_eq a d && nat_eq b c) joined) [
          | inl forth ↦ (let (p, q) = and_parts (nat_eq a c) (nat_eq b d) forth in inl (eqb-true a c p, eqb-true b d q))
          | inr back ↦ (let (p, q) = and_parts (nat_eq a d) (nat_eq b c) back in inr (eqb-true a d p, eqb-true b c q))
        ]

-- the links of two hops are joined to the same two devices
same_ends : (net : Network) (l a b c d : ℕ) → joins net l a b ≡ true → joins net l c d ≡ true → (a ≡ c) ⊎ ((a ≡ d) × (b ≡ c))
same_ends net l a b c d first second =
    elim (ends_joined net l a b first) [
      | inl p ↦
          elim (ends_joined net l c d second) [
            | inl q ↦ inl (sym p.0 ∙ q.0)
            | inr q ↦ inr (sym p.0 ∙ q.0, sym p.1 ∙ q.1)
          ]
      | inr p ↦
          elim (ends_joined net l c d second) [
            | inl q ↦ inr (sym p.1 ∙ q.1, sym p.0 ∙ q.0)
            | inr q ↦ inl (sym p.1 ∙ q.1)
          ]
    ]

-- 0 for the first end, and 1 for the second
abbrev place : Bool → ℕ
place true = 0
place false = 1

-- which end of the link a device is
abbrev side : Network → ℕ → ℕ → ℕ
side net l d = place (nat_eq (link_of net l).end_a d)

side_most : (b : Bool) → place b ≤ 1
side_most true = omega arith
side_most false = omega arith

-- two devices that are the same end of a link are one
one_side : (net : Network) (l a b c d : ℕ) → joins net l a b ≡ true → joins net l c d ≡ true → side net l a ≡ side net l c → a ≡ c
one_side net l a b c d first second same =
    by (nat_eq (link_of net l).end_a a) (nat_eq (link_of net l).end_a c) refl refl same
  where
    ends : (x y : ℕ) → joins net l x y ≡ true → nat_eq (link_of net l).end_a x ≡ false → (link_of net l).end_b ≡ x
    ends x y is other =
        elim (ends_joined net l x y is) [
          | inl p ↦ absurd (both_ways (nat_eq (link_of net l).end_a x) other (eq-eqb (link_of net l).end_a x p.0))
          | inr p ↦ p.1
        ]

    by : (p q : Bool) → nat_eq (link_of net l).end_a a ≡ p → nat_eq (link_of net l).end_a c ≡ q → place p ≡ place q → a ≡ c
    by true true one two same = sym (eqb-true (link_of net l).end_a a one) ∙ eqb-true (link_of net l).end_a c two
    by true false one two same = absurd (omega (arith, same))
    by false true one two same = absurd (omega (arith, same))
    by false false one two same = sym (ends a b first one) ∙ ends c d second two

-- of a link and an end, the link
half : (a b s t : ℕ) → s ≤ 1 → t ≤ 1 → 2 * a + s ≡ 2 * b + t → (a ≡ b) × (s ≡ t)
half a b s t low high same = (omega (arith, low, high, same), omega (arith, low, high, same))

-- what rules 4 and 6 ask of each device
record KeepsBackups (net : Network) (plan : Plan) : Type 0 where
  links : (d : ℕ) → d < length net.devices → links_differ plan d ≡ true
  falls : (d : ℕ) → d < length net.devices → falls_back plan d ≡ true

keeps_backups : (net : Network) (plan : Plan) → structure_breach net plan ≡ None → KeepsBackups net plan
keeps_backups net plan structured =
    let second = (both_none (option_map _ (roots_breach plan)) _ structured).1 in
    let third = (both_none (first_failing net 2 (row_is_right plan)) _ second).1 in
    let fourth = (both_none (first_failing net 3 (hops_are_right net plan)) _ third).1 in
    let (links, fifth) = both_none (first_failing net 4 (links_differ plan)) (option_or (first_failing net 5 (reaches_root net plan)) (first_failing net 6 (falls_back plan))) fourth in
    let falls = (both_none (first_failing net 5 (reaches_root net plan)) (first_failing net 6 (falls_back plan)) fifth).1 in
    record {
      links = λ d within. kept 4 (links_differ plan) d links within;
      falls = λ d within. kept 6 (falls_back plan) d falls within;
    }
  where
    kept : (rule : ℕ) (keeps : ℕ → Bool) (d : ℕ) → first_failing net rule keeps ≡ None → d < length net.devices → keeps d ≡ true
    kept rule keeps d none within =
        not-false (keeps d)
        (none_found (λ x. not (keeps x)) (length net.devices) d (none_mapped (λ x. (rule, x)) (find (λ x. not (keeps x)) (device_numbers net)) none) within)

-- the backup hop of a row names a device and a link that there are
backup_within : (net : Network) (plan : Plan) (d : ℕ) (hop : Hop) → Each (IsRow net) plan.rows → backup_of plan d ≡ Some hop → IsHop net hop
backup_within net plan d hop each is = by (slice_get plan.rows d) refl is
  where
    by : (entry : Option (Option PlanRow)) → slice_get plan.rows d ≡ entry
        → map_or (map_or entry None (λ row. row)) None (λ row. row.backup) ≡ Some hop → IsHop net hop
    by None at is = cc
    by (Some None) at is = cc
    by (Some (Some row)) at is = (each d (Some row) at).1 hop is

-- a backup is there
backup_there : (plan : Plan) (d : ℕ) → has_backup plan d ≡ true → (hop : Hop) × (backup_of plan d ≡ Some hop)
backup_there plan d there = by (backup_of plan d) refl there
  where
    by : (o : Option Hop) → backup_of plan d ≡ o → map_or o false (λ hop. true) ≡ true → (hop : Hop) × (backup_of plan d ≡ Some hop)
    by None is there = cc
    by (Some hop) is there = (hop, is)

backup_none : (o : Option Hop) → map_or o false (λ hop. true) ≡ false → o ≡ None
backup_none None none = refl
backup_none (Some hop) none = cc

module _ (net : Network) (plan : Plan) (whole : IsWhole net plan) (accepted : IsAccepted net plan) where
  forest : IsForest net plan
  forest = forest_of net plan whole.fits accepted.structure

  rules : KeepsRules net plan
  rules = keeps_rules net plan accepted.structure

  backups : KeepsBackups net plan
  backups = keeps_backups net plan accepted.structure

  member : (d : ℕ) → is_member plan d ≡ true
  member d = ap (λ (a : Absent). not (has a.devices d)) whole.all

  -- the links of a device, 0 where there is none
  abbrev primary : ℕ → ℕ
  primary d = map_or (primary_of plan d) 0 (λ hop. hop.link)

  abbrev backup : ℕ → ℕ
  backup d = map_or (backup_of plan d) 0 (λ hop. hop.link)

  record IsUp (d : ℕ) : Type 0 where
    hop : Hop
    is : primary_of plan d ≡ Some hop
    step : IsStep net plan d hop
    link : primary d ≡ hop.link

  up : (d : ℕ) → d < length net.devices → nat_eq plan.root d ≡ false → IsUp d
  up d within other =
      let (hop, is) = forest.hop d within (member d) other in
      record { hop = hop; is = is; step = forest.up d hop within is; link = ap (λ (o : Option Hop). map_or o 0 (λ hop. hop.link)) is }

  record IsSecond (d : ℕ) : Type 0 where
    hop : Hop
    is : backup_of plan d ≡ Some hop
    within : hop.link < length net.links
    joined : joins net hop.link d hop.parent ≡ true
    link : backup d ≡ hop.link

  second : (d : ℕ) → d < length net.devices → has_backup plan d ≡ true → IsSecond d
  second d within there =
      let (hop, is) = backup_there plan d there in
      let right : hop_is_right net plan d (backup_of plan d) ≡ true =
      (and_parts (hop_is_right net plan d (primary_of plan d)) (hop_is_right net plan d (backup_of plan d)) (rules.hops d within)).1 in
      let here : (is_member plan hop.parent && is_present plan hop.link && joins net hop.link d hop.parent) ≡ true =
      subst (λ (o : Option Hop). hop_is_right net plan d o ≡ true) is right in
      record {
        hop = hop;
        is = is;
        within = (backup_within net plan d hop whole.fits.rows is).1;
        joined = (and_parts (is_member plan hop.parent && is_present plan hop.link) (joins net hop.link d hop.parent) here).1;
        link = ap (λ (o : Option Hop). map_or o 0 (λ hop. hop.link)) is;
      }

  -- no two devices have one primary link
  primaries_differ : (c d : ℕ) → c < length net.devices → d < length net.devices → nat_eq plan.root c ≡ false → nat_eq plan.root d ≡ false
      → primary c ≡ primary d → c ≡ d
  primaries_differ c d first last one two same =
      let upper = up c first one in
      let other = up d last two in
      one_over_link net plan forest (primary c) c d first last (goes c upper (primary c) upper.link) (goes d other (primary c) (same ∙ other.link))
    where
      goes : (x : ℕ) (is : IsUp x) (l : ℕ) → l ≡ is.hop.link → goes_over plan l x ≡ true
      goes x is l same = ap (λ (o : Option Hop). map_or o false (λ hop. nat_eq hop.link l)) is.is ∙ eq-eqb is.hop.link l (sym same)

  some_depth : (d : ℕ) → IsUp d → 1 ≤ net.params.depth
  some_depth d is = let long = ap length is.step.walk in let most = height_most net plan d in omega (arith, long, most)

  -- the parent of the backup root: it alone may have the backup root's primary link as its backup
  abbrev top : ℕ
  top = map_or (primary_of plan plan.backup_root) plan.root (λ hop. hop.parent)

  -- the first device of a short walk
  short_first : (q : ℕ) (hop : Hop) → primary_of plan q ≡ Some hop → 1 ≤ net.params.depth → ends_walks plan q ≡ false
      → has (devices_of q (short_walk net plan q)) hop.parent ≡ true
  short_first q hop is deep other =
      ap (λ (b : Bool). has (devices_of q (if b then [] else (if is_root plan q then [] else hops (ends_walks plan) plan net.params.depth q))) hop.parent) other
      ∙ ap (λ (b : Bool). has (devices_of q (if b then [] else hops (ends_walks plan) plan net.params.depth q)) hop.parent) (no_root (is_root plan q) (is_backup_root plan q) other)
      ∙ by net.params.depth deep
    where
      no_root : (a b : Bool) → (a || b) ≡ false → a ≡ false
      no_root true b none = cc
      no_root false b none = refl

      by : (n : ℕ) → 1 ≤ n → has (devices_of q (hops (ends_walks plan) plan n q)) hop.parent ≡ true
      by zero deep = absurd (omega arith)
      by (suc n) deep =
          ap (λ (o : Option Hop). has (devices_of q (elim o [ None ↦ [] | Some hop ↦ hop ∷ (elim (ends_walks plan hop.parent) [ true ↦ [] | false ↦ hops (ends_walks plan) plan n hop.parent ]) ])) hop.parent) is
          ∙ or_right (nat_eq hop.parent q) _ (or_left (nat_eq hop.parent hop.parent) _ (eq-eqb hop.parent hop.parent refl))

  -- no device's backup link is the primary link of another one, unless that is the backup root
  backup_is_no_primary : (q d : ℕ) → q < length net.devices → d < length net.devices → nat_eq plan.root q ≡ false → nat_eq plan.root d ≡ false
      → has_backup plan d ≡ true → nat_eq top d ≡ false → primary q ≡ backup d → ⊥
  backup_is_no_primary q d first last one two there low same =
      let first_hop = up q first one in
      let other_hop = second d last there in
      let link : first_hop.hop.link ≡ other_hop.hop.link = sym first_hop.link ∙ same ∙ other_hop.link in
      elim (same_ends net other_hop.hop.link q first_hop.hop.parent d other_hop.hop.parent
      (subst (λ l. joins net l q first_hop.hop.parent ≡ true) link first_hop.step.joined) other_hop.joined) [
        | inl itself ↦ itself_not itself first_hop other_hop link
        | inr above ↦ above_not first_hop other_hop above.0 above.1
      ]
    where
      itself_not : q ≡ d → (a : IsUp q) (b : IsSecond d) → a.hop.link ≡ b.hop.link → ⊥
      itself_not same a b link =
          let differ : (not (nat_eq a.hop.link b.hop.link)) ≡ true =
          subst (λ (o : Option Hop). map_or o true (λ b. not (nat_eq a.hop.link b.link)) ≡ true) b.is
          (subst (λ (o : Option Hop). map_or o true (λ p. map_or (backup_of plan d) true (λ b. not (nat_eq p.link b.link))) ≡ true)
          (subst (λ x. primary_of plan x ≡ Some a.hop) same a.is) (backups.links d last)) in
          both_ways (nat_eq a.hop.link b.hop.link) (not-true (nat_eq a.hop.link b.hop.link) differ) (eq-eqb a.hop.link b.hop.link link)

      above_not : (a : IsUp q) (b : IsSecond d) → q ≡ b.hop.parent → a.hop.parent ≡ d → ⊥
      above_not a b same parent =
          let fine : is_no_ancestor net plan d ≡ true =
          not-false (is_no_ancestor net plan d) (none_found (λ x. not (is_no_ancestor net plan x)) (length net.devices) d accepted.ancestor last) in
          let clear : (if is_backup_root plan d then not (on_walk net plan q d) else not (has (devices_of q (short_walk net plan q)) d)) ≡ true =
          subst (λ x. (if is_backup_root plan d then not (on_walk net plan x d) else not (has (devices_of x (short_walk net plan x)) d)) ≡ true) (sym same)
          (subst (λ (o : Option Hop). map_or o true (λ hop. if is_backup_root plan d then not (on_walk net plan hop.parent d) else not (has (devices_of hop.parent (short_walk net plan hop.parent)) d)) ≡ true) b.is fine) in
          by (is_backup_root plan d) clear
        where
          on : on_walk net plan q d ≡ true
          on = on_up net plan q d a.hop a.step.walk ∙ or_right (nat_eq d q) (on_walk net plan a.hop.parent d)
              (subst (λ x. on_walk net plan x d ≡ true) (sym parent) (on_itself net plan d))

          -- the backup root's parent is the top
          no_backup_root : is_backup_root plan q ≡ false
          no_backup_root = false_from_ne_true (is_backup_root plan q) (λ is.
              let at : plan.backup_root ≡ q = eqb-true plan.backup_root q is in
              let here : top ≡ d =
              ap (λ (o : Option Hop). map_or o plan.root (λ hop. hop.parent)) (subst (λ x. primary_of plan x ≡ Some a.hop) (sym at) a.is) ∙ parent in
              both_ways (nat_eq top d) low (eq-eqb top d here))

          neither : ends_walks plan q ≡ false
          neither = false_from_ne_true (ends_walks plan q) (λ ends. elim (or_cases (is_root plan q) (is_backup_root plan q) ends) [
            | inl root ↦ both_ways (is_root plan q) one root
            | inr next ↦ both_ways (is_backup_root plan q) no_backup_root next
          ])

          by : (b : Bool) → (if b then not (on_walk net plan q d) else not (has (devices_of q (short_walk net plan q)) d)) ≡ true → ⊥
          by true clear = both_ways (on_walk net plan q d) (not-true (on_walk net plan q d) clear) on
          by false clear =
              both_ways (has (devices_of q (short_walk net plan q)) d) (not-true (has (devices_of q (short_walk net plan q)) d) clear)
              (subst (λ x. has (devices_of q (short_walk net plan q)) x ≡ true) parent (short_first q a.hop a.is (some_depth q a) neither))

  -- Bridges

  -- what is joined without a link is so under the domain of this link
  joined_sound : (l d e : ℕ) → JoinedWithout net l d e → Joined net (is_sound net plan (domain.Link l)) (is_sound_link net plan (domain.Link l)) d e
  joined_sound l d e here = here
  joined_sound l d e (over k within crosses joined passes more) =
      over k within
      (and_from (is_present plan k) (not (nat_eq l k)) (ap (λ (a : Absent). not (has a.links k)) whole.all) crosses) joined
      (and_from (is_member plan _) true (member _) refl)
      (joined_sound l _ e more)

  -- the primary link of a device without a backup is a bridge
  bridge_of : (d : ℕ) → d < length net.devices → nat_eq plan.root d ≡ false → has_backup plan d ≡ false → IsBridge net (primary d)
  bridge_of d within other none = subst (λ l. IsBridge net l) (sym is.link) (record {
    first = d;
    second = plan.root;
    within = (within, whole.fits.root);
    parted = λ joined. elim (holds d (and_from (is_member plan d) true (member d) refl)) [
      | inl fed ↦ no_feed fed
      | inr cut ↦ cut (refl, joined_sound l d plan.root joined)
    ];
  })
    where
      is : IsUp d
      is = up d within other

      l : ℕ
      l = is.hop.link

      f : DomainId
      f = domain.Link l

      no_backup : backup_of plan d ≡ None
      no_backup = backup_none (backup_of plan d) none

      holds : ReachHolds net plan f
      holds = accepted.reach position f
          (link_at net (length net.domains) (length net.devices) position refl refl (omega arith) (omega arith)
          (omega (arith, length-domains net, is.step.link)) ∙ ap (λ k. Some (domain.Link k)) (omega arith))
        where
          position : ℕ
          position = length net.domains + length net.devices + l

      no_backup_root : is_backup_root plan d ≡ false
      no_backup_root = by (is_backup_root plan d) (has_backup plan d) none (backups.falls d within)
        where
          by : (a b : Bool) → b ≡ false → (not a || b) ≡ true → a ≡ false
          by true b lacks falls = cc
          by false b lacks falls = refl

      hit : is_hit net plan f d ≡ true
      hit =
          ap (λ (b : Bool). hits net f (things_of (if b then [] else hops (ends_walks plan) plan net.params.depth d))) other
          ∙ by net.params.depth (some_depth d is)
        where
          by : (n : ℕ) → 1 ≤ n → hits net f (things_of (hops (ends_walks plan) plan n d)) ≡ true
          by zero deep = absurd (omega arith)
          by (suc n) deep =
              ap (λ (o : Option Hop). hits net f (things_of (elim o [ None ↦ [] | Some hop ↦ hop ∷ (elim (ends_walks plan hop.parent) [ true ↦ [] | false ↦ hops (ends_walks plan) plan n hop.parent ]) ]))) is.is
              ∙ or_left (nat_eq l l) _ (eq-eqb l l refl)

      no_feed : Fed net plan f d → ⊥
      no_feed (acts sound same) = both_ways (nat_eq plan.root d) other (eq-eqb plan.root d (sym same))
      no_feed (stands_by sound same) = both_ways (is_backup_root plan d) no_backup_root (eq-eqb plan.backup_root d (sym same))
      no_feed (spared sound missed) = both_ways (is_hit net plan f d) (not-true (is_hit net plan f d) missed) hit
      no_feed (turns hop sound was_hit next left there more) =
          let primary_is : primary_of plan d ≡ Some hop = sym (ap (λ (o : Option Hop). option_or o (primary_of plan d)) no_backup) ∙ next in
          let same : is.hop ≡ hop = same_Some is.hop hop (sym is.is ∙ primary_is) in
          both_ways (nat_eq l hop.link) (not-true (nat_eq l hop.link) left) (eq-eqb l hop.link (ap (λ (h : Hop). h.link) same))

  -- Counting

  abbrev others : List ℕ
  others = but plan.root (below (length net.devices))

  abbrev lower : List ℕ
  lower = but top others

  abbrev doubled : List ℕ
  doubled = filter (has_backup plan) lower

  abbrev single : List ℕ
  single = filter (λ d. not (has_backup plan d)) lower

  of_others : (d : ℕ) → has others d ≡ true → (d < length net.devices) × (nat_eq plan.root d ≡ false)
  of_others d there = let parts = but_has plan.root (below (length net.devices)) d there in (below_has (length net.devices) d parts.0, parts.1)

  record IsDoubled (d : ℕ) : Type 0 where
    within : d < length net.devices
    other : nat_eq plan.root d ≡ false
    low : nat_eq top d ≡ false
    there : has_backup plan d ≡ true

  of_doubled : (d : ℕ) → has doubled d ≡ true → IsDoubled d
  of_doubled d there =
      let (backed, in_lower) = kept_parts (has_backup plan) lower d there in
      let (in_others, low) = but_has top others d in_lower in
      let (within, other) = of_others d in_others in
      record { within = within; other = other; low = low; there = backed }

  others_apart : AreDistinct others
  others_apart = apart_filter _ (below (length net.devices)) (apart_below (length net.devices))

  lower_apart : AreDistinct lower
  lower_apart = apart_filter _ others others_apart

  abbrev first_half : ℕ → ℕ
  first_half d = 2 * primary d + 0

  abbrev second_half : ℕ → ℕ
  second_half d = 2 * primary d + 1

  abbrev own_half : ℕ → ℕ
  own_half d = 2 * backup d + side net (backup d) d

  side_low : (l d : ℕ) → side net l d ≤ 1
  side_low l d = side_most (nat_eq (link_of net l).end_a d)

  -- the halves of links that are used
  abbrev used : List ℕ
  used = map first_half others ++ (map second_half others ++ map own_half doubled)

  used_apart : AreDistinct used
  used_apart =
      apart_append (map first_half others) (map second_half others ++ map own_half doubled) (halves 0 (omega arith))
      (apart_append (map second_half others) (map own_half doubled) (halves 1 (omega arith)) owns
      (λ x first last.
      let one = map_has second_half others x first in
      let two = map_has own_half doubled x last in
      crossed one.0 two.0 1 (omega arith) one.1 two.1 (sym one.2 ∙ two.2)))
      (λ x first last.
      let one = map_has first_half others x first in
      elim (has_both (map second_half others) (map own_half doubled) x last) [
        | inl mid ↦
            (let two = map_has second_half others x mid in
            let wrong = (half (primary one.0) (primary two.0) 0 1 (omega arith) (omega arith) (sym one.2 ∙ two.2)).1 in
            omega (arith, wrong))
        | inr own ↦
            (let two = map_has own_half doubled x own in
            crossed one.0 two.0 0 (omega arith) one.1 two.1 (sym one.2 ∙ two.2))
      ])
    where
      halves : (s : ℕ) → s ≤ 1 → AreDistinct (map (λ d. 2 * primary d + s) others)
      halves s low = distinct_map (λ d. 2 * primary d + s) others others_apart (λ c d first last same.
          let one = of_others c first in
          let two = of_others d last in
          primaries_differ c d one.0 two.0 one.1 two.1 (half (primary c) (primary d) s s low low same).0)

      owns : AreDistinct (map own_half doubled)
      owns = distinct_map own_half doubled (apart_filter (has_backup plan) lower lower_apart) (λ c d first last same.
          let one = of_doubled c first in
          let two = of_doubled d last in
          let (link, end) = half (backup c) (backup d) (side net (backup c) c) (side net (backup d) d) (side_low (backup c) c) (side_low (backup d) d) same in
          let hop = second c one.within one.there in
          let over = second d two.within two.there in
          one_side net (backup c) c hop.hop.parent d over.hop.parent
          (subst (λ l. joins net l c hop.hop.parent ≡ true) (sym hop.link) hop.joined)
          (subst (λ l. joins net l d over.hop.parent ≡ true) (sym (link ∙ over.link)) over.joined)
          (end ∙ ap (λ l. side net l d) (sym link)))

      crossed : (q d s : ℕ) → s ≤ 1 → has others q ≡ true → has doubled d ≡ true → 2 * primary q + s ≡ own_half d → ⊥
      crossed q d s low first last same =
          let one = of_others q first in
          let two = of_doubled d last in
          backup_is_no_primary q d one.0 two.within one.1 two.other two.there two.low
          (half (primary q) (backup d) s (side net (backup d) d) low (side_low (backup d) d) same).0

  used_within : (x : ℕ) → has used x ≡ true → x < 2 * length net.links
  used_within x there =
      elim (has_both (map first_half others) (map second_half others ++ map own_half doubled) x there) [
        | inl first ↦ (let one = map_has first_half others x first in of_primary one.0 0 x (omega arith) one.1 one.2)
        | inr rest ↦
            (elim (has_both (map second_half others) (map own_half doubled) x rest) [
              | inl mid ↦ (let one = map_has second_half others x mid in of_primary one.0 1 x (omega arith) one.1 one.2)
              | inr own ↦
                  (let one = map_has own_half doubled x own in
                  let is = of_doubled one.0 one.1 in
                  let hop = second one.0 is.within is.there in
                  omega (arith, one.2, side_low (backup one.0) one.0, hop.link, hop.within))
            ])
      ]
    where
      of_primary : (d s x : ℕ) → s ≤ 1 → has others d ≡ true → x ≡ 2 * primary d + s → x < 2 * length net.links
      of_primary d s x low there is =
          let (within, other) = of_others d there in
          let hop = up d within other in
          omega (arith, is, low, hop.link, hop.step.link)

  -- with all bridges among these, so many links
  pub links_needed : (bridges : List ℕ) → AreBridges net bridges → 3 * length net.devices ≤ 2 * length net.links + length bridges + 4
  links_needed bridges are =
      let all : length (below (length net.devices)) ≡ length net.devices = length-below (length net.devices) in
      let but_root : length (below (length net.devices)) ≤ length others + 1 =
      but_one plan.root (below (length net.devices)) (apart_below (length net.devices)) in
      let but_top : length others ≤ length lower + 1 = but_one top others others_apart in
      let both : length doubled + length single ≡ length lower = length-filter_both (has_backup plan) (λ d. not (has_backup plan d)) (λ d. refl) lower in
      let cut : length (map primary single) ≤ length bridges = no_more (map primary single) bridges single_apart single_bridges in
      let cut_size : length (map primary single) ≡ length single = length-map single primary in
      let room : length used ≤ 2 * length net.links = few used (2 * length net.links) used_apart used_within in
      let size : length used ≡ length (map first_half others) + length (map second_half others ++ map own_half doubled) =
      length-append (map first_half others) (map second_half others ++ map own_half doubled) in
      let rest : length (map second_half others ++ map own_half doubled) ≡ length (map second_half others) + length (map own_half doubled) =
      length-append (map second_half others) (map own_half doubled) in
      let one : length (map first_half others) ≡ length others = length-map others first_half in
      let two : length (map second_half others) ≡ length others = length-map others second_half in
      let three : length (map own_half doubled) ≡ length doubled = length-map doubled own_half in
      omega (arith, all, but_root, but_top, both, cut, cut_size, room, size, rest, one, two, three)
    where
      of_single : (d : ℕ) → has single d ≡ true → (d < length net.devices) × (nat_eq plan.root d ≡ false) × (has_backup plan d ≡ false)
      of_single d there =
          let (none, in_lower) = kept_parts (λ d. not (has_backup plan d)) lower d there in
          let (within, other) = of_others d (but_has top others d in_lower).0 in
          (within, other, not-true (has_backup plan d) none)

      single_apart : AreDistinct (map primary single)
      single_apart = distinct_map primary single (apart_filter _ lower lower_apart) (λ c d first last same.
          let one = of_single c first in
          let two = of_single d last in
          primaries_differ c d one.0 two.0 one.1 two.1 same)

      single_bridges : (l : ℕ) → has (map primary single) l ≡ true → has bridges l ≡ true
      single_bridges l there =
          let (d, in_single, is) = map_has primary single l there in
          let (within, other, none) = of_single d in_single in
          let hop = up d within other in
          subst (λ l. has bridges l ≡ true) (sym is)
          (are.all (primary d) (subst (λ l. l < length net.links) (sym hop.link) hop.step.link) (bridge_of d within other none))

pub few_law : (net : Network) → HasFewLinks net → HasNoPlan net
few_law net is plan whole accepted =
    let most : length is.bridges ≤ length net.links =
    few is.bridges (length net.links) (ascending_apart is.bridges is.are.ascend) (λ l there. (is.are.are l there).0) in
    short (length net.devices) (length net.links) (length is.bridges) most is.few (links_needed net plan whole accepted is.bridges is.are)
  where
    short : (n m b : ℕ) → b ≤ m → m < b + ((3 * (n - b) + 1) / 2 - 2) → 3 * n ≤ 2 * m + b + 4 → ⊥
    short n m b most lacks needs = omega (arith, most, lacks, needs)
