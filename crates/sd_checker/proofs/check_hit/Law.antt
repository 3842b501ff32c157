-- The members whose places the spans of a domain cover are those that it hits.
use Rattle.std.proofs.Common.{◌≡◌, ℕ, ◌<◌, Bool, true, false, ◌&&◌, ◌||◌, not, cond, List, [], ◌∷◌, length, map, get_or, nat_eq, nat_lt, Option, Some, None, All, refl, sym, ap, ◌∙◌, subst, inl, inr, arith, flat_map}
use Rattle.std.specs.List.{list_any, slice_get}
use Rattle.std.specs.List.Sorted.{IsPermutation, IsNonDecreasing}
use Rattle.std.proofs.lemmas.Bool.{cases_Bool, cases_eq, cases_lt, eq-eqb, ne_eqb, and_left, and_right, le-ltb, lt-ltb}
use Rattle.std.proofs.lemmas.List.Elements.{All-head, All-tail}
use Rattle.std.proofs.lemmas.List.Folds.{list_any-append}
use Rattle.std.proofs.lemmas.List.Sorted.{sum_by-IsPermutation, list_any-IsPermutation}
use Rattle.std.proofs.lemmas.Option.{slice_get-get_or, slice_get_within}
use Rattle.sd_num.specs.Lists.{below, has, map_or}
use Rattle.sd_num.specs.Counts.{one_if}
use Rattle.sd_plan.specs.topo.Network.{Network}
use Rattle.sd_plan.specs.topo.Limits.{IsNetwork}
use Rattle.sd_plan.specs.topo.Places.{domain_of}
use Rattle.sd_plan.specs.domain.Domains.{hits}
use Rattle.sd_plan.specs.domain.Lone.{IsDomain}
use Rattle.sd_plan.specs.declared.domain.DomainId.{DomainId}
use Rattle.sd_plan.specs.declared.domain.DomainId.TheVariants as domain
use Rattle.sd_plan.specs.Plans.{is_member, is_root}
use Rattle.sd_plan.specs.Walks.{epath, walk, is_hit}
use Rattle.sd_plan.specs.IndexedPlan.{IndexedPlan, IsIndexOf, span_of, is_within, stands_below, is_cut_before, has_device, has_link}
use Rattle.sd_plan.specs.declared.Plan.{Plan}
use Rattle.sd_plan.specs.declared.index.Span.{Span}
use Rattle.sd_plan.proofs.Shared.{carried_length}
use Rattle.sd_checker.specs.check_hit.Hit.{hit_by}
use Rattle.sd_checker.specs.check_hit.Spans.{non_empty, outside, behind_first, below_device, below_child, below_link, below_domain, is_covered, picked}
use Rattle.sd_checker.proofs.check_hit.Bounds.{devices_within, links_within}
use Rattle.sd_checker.proofs.check_hit.Counting.{times, times_filtered, times_picked, times_absent, same_sorted, filtered_rises}
use Rattle.sd_checker.proofs.check_hit.Covered.{covered-non_empty, covered-outside, within-behind_first, covered-flat_map}
use Rattle.sd_checker.proofs.check_hit.Cut.{above_member, epath_device, epath_link, child_member, on_root, no_root_path, no_path}
use Rattle.sd_checker.proofs.check_hit.Picked.{picked_agree}
use Rattle.sd_checker.proofs.check_hit.Hits.{hits-device, hits-link, hits-listed}

-- members with one place are one
same_place : (net : Network) (plan : Plan) (index : IndexedPlan) (d a : ℕ) → IsIndexOf net plan index → d < length net.devices → a < length net.devices
    → is_member plan d ≡ true → is_member plan a ≡ true
    → nat_eq (span_of index d).from (span_of index a).from ≡ nat_eq d a
same_place net plan index d a law within inside member also =
    elim (cases_eq d a) [
      | inl same ↦ (eq-eqb (span_of index d).from (span_of index a).from (ap (λ x. (span_of index x).from) same) ∙ sym (eq-eqb d a same))
      | inr other ↦
          (ne_eqb (span_of index d).from (span_of index a).from (λ same.
          let one : slice_get index.order (span_of index d).from ≡ Some d = law.placed d within member in
          let two : slice_get index.order (span_of index a).from ≡ Some a = law.placed a inside also in
          let three : slice_get index.order (span_of index d).from ≡ Some a = ap (slice_get index.order) same ∙ two in
          let both : d ≡ a = cc in
          other both)
          ∙ sym (ne_eqb d a other))
    ]

-- strictly below a device
strictly_below : (net : Network) (plan : Plan) (index : IndexedPlan) (d a : ℕ) → IsIndexOf net plan index → d < length net.devices → a < length net.devices
    → is_member plan d ≡ true
    → is_within (behind_first (span_of index a)) (span_of index d).from ≡ (not (nat_eq d a) && stands_below index d a)
strictly_below net plan index d a law within inside member =
    within-behind_first (span_of index a) (span_of index d).from
    ∙ elim (cases_Bool (stands_below index d a)) [
      | inl there ↦
          (let also = above_member net plan index d a law within member (sym (law.below d a within inside member) ∙ there) in
          ap (λ t. not t && stands_below index d a) (same_place net plan index d a law within inside member also))
      | inr apart ↦
          (and_right (not (nat_eq (span_of index d).from (span_of index a).from)) (stands_below index d a) apart
          ∙ sym (and_right (not (nat_eq d a)) (stands_below index d a) apart))
    ]

-- a device's spans cover those strictly below it, but for those that are cut off
device_covers : (net : Network) (plan : Plan) (index : IndexedPlan) (d a : ℕ) → IsIndexOf net plan index → d < length net.devices → a < length net.devices
    → is_member plan d ≡ true
    → is_covered (below_device index index.backup_root a) (span_of index d).from
    ≡ (not (nat_eq d a) && (stands_below index d a && not (is_cut_before index d a)))
device_covers net plan index d a law within inside member =
    let b = index.backup_root in
    let p = (span_of index d).from in
    let there : b < length net.devices = subst (λ x. x < length net.devices) (sym law.backup_root) law.fits.backup_root in
    elim (cases_Bool (stands_below index a b)) [
      | inl below ↦
          (ap (λ t. is_covered (cond t (non_empty (behind_first (span_of index a))) (outside (behind_first (span_of index a)) (behind_first (span_of index b))))
          p) below
          ∙ covered-non_empty (behind_first (span_of index a)) p
          ∙ strictly_below net plan index d a law within inside member
          ∙ uncut (not (nat_eq d a)) (stands_below index d a) (not (nat_eq d b)) (stands_below index d b) (stands_below index a b) below)
      | inr above ↦
          (ap (λ t. is_covered (cond t (non_empty (behind_first (span_of index a))) (outside (behind_first (span_of index a)) (behind_first (span_of index b))))
          p) above
          ∙ covered-outside (behind_first (span_of index a)) (behind_first (span_of index b)) p
          ∙ ap (λ t. t && not (is_within (behind_first (span_of index b)) p)) (strictly_below net plan index d a law within inside member)
          ∙ ap (λ t. (not (nat_eq d a) && stands_below index d a) && not t) (strictly_below net plan index d b law within there member)
          ∙ cut (not (nat_eq d a)) (stands_below index d a) (not (nat_eq d b)) (stands_below index d b) (stands_below index a b) above)
    ]
  where
    uncut : (x y e s u : Bool) → u ≡ true → (x && y) ≡ (x && (y && not (e && s && not u)))
    uncut x y e s false h = cc
    uncut true true true true true h = refl
    uncut true true true false true h = refl
    uncut true true false s true h = refl
    uncut true false e s true h = refl
    uncut false y e s true h = refl

    cut : (x y e s u : Bool) → u ≡ false → ((x && y) && not (e && s)) ≡ (x && (y && not (e && s && not u)))
    cut x y e s true h = cc
    cut true true true true false h = refl
    cut true true true false false h = refl
    cut true true false s false h = refl
    cut true false e s false h = refl
    cut false y e s false h = refl

-- the spans of a link's child cover it and those below it, but for those that are cut off
child_covers : (net : Network) (plan : Plan) (index : IndexedPlan) (d c : ℕ) → IsIndexOf net plan index → d < length net.devices → c < length net.devices
    → is_member plan d ≡ true → is_member plan c ≡ true
    → is_covered (below_child index index.backup_root c) (span_of index d).from
    ≡ ((nat_eq d c || not (nat_eq c index.backup_root)) && (stands_below index d c && not (is_cut_before index d c)))
child_covers net plan index d c law within inside member also =
    let b = index.backup_root in
    let p = (span_of index d).from in
    let there : b < length net.devices = subst (λ x. x < length net.devices) (sym law.backup_root) law.fits.backup_root in
    let strictly : is_within (behind_first (span_of index b)) (span_of index c).from ≡ (not (nat_eq c b) && stands_below index c b) =
    strictly_below net plan index c b law inside there also in
    ap (λ t. is_covered (cond t (non_empty (span_of index c)) (outside (span_of index c) (behind_first (span_of index b)))) p) strictly
    ∙ elim (cases_Bool (not (nat_eq c b) && stands_below index c b)) [
      | inl below ↦
          (ap (λ t. is_covered (cond t (non_empty (span_of index c)) (outside (span_of index c) (behind_first (span_of index b)))) p) below
          ∙ covered-non_empty (span_of index c) p
          ∙ uncut (nat_eq d c) (nat_eq c b) (stands_below index d c) (not (nat_eq d b)) (stands_below index d b) (stands_below index c b) below)
      | inr above ↦
          (ap (λ t. is_covered (cond t (non_empty (span_of index c)) (outside (span_of index c) (behind_first (span_of index b)))) p) above
          ∙ covered-outside (span_of index c) (behind_first (span_of index b)) p
          ∙ ap (λ t. stands_below index d c && not t) (strictly_below net plan index d b law within there member)
          ∙ elim (cases_eq c b) [
            | inl same ↦
                (let itself : stands_below index c b ≡ true =
                subst (λ x. stands_below index c x ≡ true) same (law.below c c inside inside also
                ∙ ap (λ t. t || has (map (λ hop. hop.parent) (walk net plan c)) c) (eq-eqb c c refl)) in
                at_cut (nat_eq d c) (nat_eq c b) (stands_below index d c) (nat_eq d b) (stands_below index d b) (stands_below index c b)
                (eq-eqb c b same) (ap (nat_eq d) same) (ap (stands_below index d) same) itself)
            | inr other ↦ cut (nat_eq d c) (nat_eq c b) (stands_below index d c) (not (nat_eq d b)) (stands_below index d b) (stands_below index c b)
                (ne_eqb c b other) above
          ])
    ]
  where
    uncut : (i e s f t u : Bool) → (not e && u) ≡ true → s ≡ ((i || not e) && (s && not (f && t && not u)))
    uncut i true s f t u h = cc
    uncut i false s f t false h = cc
    uncut true false true true true true h = refl
    uncut true false true true false true h = refl
    uncut true false true false t true h = refl
    uncut true false false f t true h = refl
    uncut false false true true true true h = refl
    uncut false false true true false true h = refl
    uncut false false true false t true h = refl
    uncut false false false f t true h = refl

    at_cut : (i e s g t u : Bool) → e ≡ true → i ≡ g → s ≡ t → u ≡ true → (s && not (not g && t)) ≡ ((i || not e) && (s && not (not g && t && not u)))
    at_cut i false s g t u first second third fourth = cc
    at_cut i true s g t false first second third fourth = cc
    at_cut true true true true true true first second third fourth = refl
    at_cut true true false true t true first second third fourth = refl
    at_cut true true s false t true first second third fourth = cc
    at_cut true true true true false true first second third fourth = cc
    at_cut false true true false true true first second third fourth = refl
    at_cut false true false false t true first second third fourth = refl
    at_cut false true s true t true first second third fourth = cc
    at_cut false true true false false true first second third fourth = cc

    cut : (i e s f t u : Bool) → e ≡ false → (not e && u) ≡ false → (s && not (f && t)) ≡ ((i || not e) && (s && not (f && t && not u)))
    cut i true s f t u h k = cc
    cut i false s f t true h k = cc
    cut true false true true true false h k = refl
    cut true false true true false false h k = refl
    cut true false true false t false h k = refl
    cut true false false f t false h k = refl
    cut false false true true true false h k = refl
    cut false false true true false false h k = refl
    cut false false true false t false h k = refl
    cut false false false f t false h k = refl

-- a device of the domain
device_law : (net : Network) (plan : Plan) (index : IndexedPlan) (d a : ℕ) → IsIndexOf net plan index → d < length net.devices → a < length net.devices
    → is_member plan d ≡ true
    → is_covered (below_device index index.backup_root a) (span_of index d).from ≡ has_device (epath net plan d) a
device_law net plan index d a law within inside member =
    device_covers net plan index d a law within inside member
    ∙ elim (cases_Bool (is_root plan d)) [
      | inl root ↦
          (elim (cases_eq d a) [
            | inl same ↦ and_left (not (nat_eq d a)) (stands_below index d a && not (is_cut_before index d a)) (ap not (eq-eqb d a same))
            | inr other ↦
                and_right (not (nat_eq d a)) (stands_below index d a && not (is_cut_before index d a))
                (and_left (stands_below index d a) (not (is_cut_before index d a))
                (law.below d a within inside member ∙ on_root net plan d a root ∙ ne_eqb a d (λ same. other (sym same))))
          ]
          ∙ sym (ap (λ things. has_device things a) (no_root_path net plan d root)))
      | inr other ↦ sym (epath_device net plan index d a law within inside member other)
    ]

-- a link of the domain
link_law : (net : Network) (plan : Plan) (index : IndexedPlan) (d l : ℕ) → IsIndexOf net plan index → d < length net.devices → l < length net.links
    → is_member plan d ≡ true
    → is_covered (below_link index index.backup_root l) (span_of index d).from ≡ has_link (epath net plan d) l
link_law net plan index d l law within inside member = by_child (get_or index.carried l None) refl
    ∙ elim (cases_Bool (is_root plan d)) [
      | inl root ↦ (at_root root (get_or index.carried l None) refl ∙ sym (ap (λ things. has_link things l) (no_root_path net plan d root)))
      | inr other ↦ sym (epath_link net plan index d l law within inside member other)
    ]
  where
    by_child : (o : Option ℕ) → get_or index.carried l None ≡ o
        → is_covered (map_or o [] (below_child index index.backup_root)) (span_of index d).from
        ≡ map_or o false (λ c. (nat_eq d c || not (nat_eq c index.backup_root)) && (stands_below index d c && not (is_cut_before index d c)))
    by_child None is = refl
    by_child (Some c) is =
        let child = child_member net plan index l c law is in
        child_covers net plan index d c law within child.0 member child.1.0

    at_root : is_root plan d ≡ true → (o : Option ℕ) → get_or index.carried l None ≡ o
        → map_or o false (λ c. (nat_eq d c || not (nat_eq c index.backup_root)) && (stands_below index d c && not (is_cut_before index d c))) ≡ false
    at_root root None is = refl
    at_root root (Some c) is =
        let child = child_member net plan index l c law is in
        and_right (nat_eq d c || not (nat_eq c index.backup_root)) (stands_below index d c && not (is_cut_before index d c))
        (and_left (stands_below index d c) (not (is_cut_before index d c))
        (law.below d c within child.0 member ∙ on_root net plan d c root
        ∙ ne_eqb c d
        (λ same. (let root_too : is_root plan c ≡ true = subst (λ x. is_root plan x ≡ true) (sym same) root in absurd (cc (root_too, child.1.1))))))

-- tests that agree on all of a list find alike
any_alike : {X : Type 0} (P : X → Type 0) (p q : X → Bool) (xs : List X) → All P xs → ((x : X) → P x → p x ≡ q x) → list_any p xs ≡ list_any q xs
any_alike P p q [] all same = refl
any_alike P p q (x ∷ xs) all same =
    ap (λ t. t || list_any p xs) (same x (All-head P x xs all)) ∙ ap (λ t. q x || t) (any_alike P p q xs (All-tail P x xs all) same)

-- a member's place is covered where the domain hits it
member_law : (net : Network) (plan : Plan) (index : IndexedPlan) (f : DomainId) (d : ℕ) → IsNetwork net → IsIndexOf net plan index → IsDomain net f
    → d < length net.devices → is_member plan d ≡ true
    → is_covered (below_domain net index index.backup_root f) (span_of index d).from ≡ is_hit net plan f d
member_law net plan index f d sound law there within member = by_kind f there
  where
    devices : (a : ℕ) → a < length index.spans → is_covered (below_device index index.backup_root a) (span_of index d).from ≡ has_device (epath net plan d) a
    devices a inside = let size = law.spans in device_law net plan index d a law within (omega arith) member

    links : (l : ℕ) → l < length index.carried → is_covered (below_link index index.backup_root l) (span_of index d).from ≡ has_link (epath net plan d) l
    links l inside = link_law net plan index d l law within (omega (arith, carried_length net plan index law)) member

    by_kind : (f : DomainId) → IsDomain net f → is_covered (below_domain net index index.backup_root f) (span_of index d).from ≡ is_hit net plan f d
    by_kind (domain.Listed k) there =
        let group = domain_of net k in
        list_any-append (λ (s : Span). is_within s (span_of index d).from) (flat_map (below_device index index.backup_root) group.devices)
        (flat_map (below_link index index.backup_root) group.links)
        ∙ ap (λ t. t || is_covered (flat_map (below_link index index.backup_root) group.links) (span_of index d).from)
        (covered-flat_map (below_device index index.backup_root) group.devices (span_of index d).from
        ∙ any_alike (λ a. a < length index.spans) (λ a. is_covered (below_device index index.backup_root a) (span_of index d).from)
        (has_device (epath net plan d)) group.devices (devices_within net plan index k sound law there) devices)
        ∙ ap (λ t. list_any (has_device (epath net plan d)) group.devices || t)
        (covered-flat_map (below_link index index.backup_root) group.links (span_of index d).from
        ∙ any_alike (λ l. l < length index.carried) (λ l. is_covered (below_link index index.backup_root l) (span_of index d).from)
        (has_link (epath net plan d)) group.links (links_within net plan index k sound law there) links)
        ∙ sym (hits-listed net k (epath net plan d) there)
    by_kind (domain.Device a) there = let size = law.spans in devices a (omega arith) ∙ sym (hits-device net a (epath net plan d))
    by_kind (domain.Link l) there = links l (omega (arith, carried_length net plan index law)) ∙ sym (hits-link net l (epath net plan d))

-- how often a device is picked
hit_times : (net : Network) (plan : Plan) (index : IndexedPlan) (f : DomainId) (v : ℕ) → IsNetwork net → IsIndexOf net plan index → IsDomain net f
    → times v (picked index.order (is_covered (below_domain net index index.backup_root f)) (length index.order))
    ≡ one_if (nat_lt v (length net.devices) && is_hit net plan f v)
hit_times net plan index f v sound law there =
    elim (cases_lt v (length net.devices)) [
      | inl within ↦
          elim (cases_Bool (is_member plan v)) [
            | inl member ↦
                (let place = (span_of index v).from in
                let upto : place < length index.order = slice_get_within index.order place v (law.placed v within member) in
                times_picked v place index.order test (length index.order) (λ k before. at_place k before within member)
                ∙ ap (λ t. one_if (t && test place)) (lt-ltb place (length index.order) upto)
                ∙ ap one_if (member_law net plan index f v sound law there within member)
                ∙ sym (ap (λ t. one_if (t && is_hit net plan f v)) (lt-ltb v (length net.devices) within)))
            | inr absent ↦
                (times_absent v index.order test (length index.order)
                (λ k before. ne_eqb v (get_or index.order k 0)
                (λ same. (let listed = law.listed k v (at k before ∙ ap (λ (x : ℕ). Some x) (sym same)) in absurd (cc (listed.1, absent)))))
                ∙ sym (ap (λ things. one_if (nat_lt v (length net.devices) && hits net f things)) (no_path net plan index v law within absent)
                ∙ ap one_if (and_right (nat_lt v (length net.devices)) false refl)))
          ]
      | inr beyond ↦
          (times_absent v index.order test (length index.order)
          (λ k before. ne_eqb v (get_or index.order k 0)
          (λ same. (let listed = law.listed k v (at k before ∙ ap (λ (x : ℕ). Some x) (sym same)) in omega (arith, listed.0))))
          ∙ sym (ap (λ t. one_if (t && is_hit net plan f v)) (le-ltb v (length net.devices) beyond)))
    ]
  where
    test : ℕ → Bool
    test = is_covered (below_domain net index index.backup_root f)

    at : (k : ℕ) → k < length index.order → slice_get index.order k ≡ Some (get_or index.order k 0)
    at k before = slice_get-get_or index.order k 0 before

    at_place : (k : ℕ) → k < length index.order → v < length net.devices → is_member plan v ≡ true
        → nat_eq v (get_or index.order k 0) ≡ nat_eq (span_of index v).from k
    at_place k before within member =
        elim (cases_eq (span_of index v).from k) [
          | inl same ↦
              (let here : Some v ≡ Some (get_or index.order k 0) = sym (law.placed v within member) ∙ ap (slice_get index.order) same ∙ at k before in
              let equal : v ≡ get_or index.order k 0 = cc in
              eq-eqb v (get_or index.order k 0) equal ∙ sym (eq-eqb (span_of index v).from k same))
          | inr other ↦
              (ne_eqb v (get_or index.order k 0) (λ same. (let listed = law.listed k v (at k before ∙ ap (λ (x : ℕ). Some x) (sym same)) in other listed.2))
              ∙ sym (ne_eqb (span_of index v).from k other))
        ]

-- in order, what is picked are the devices that the domain hits
pub hit_law : (net : Network) (plan : Plan) (index : IndexedPlan) (f : DomainId) (spans : List Span) (list : List ℕ) → IsNetwork net → IsIndexOf net plan index
    → IsDomain net f
    → IsPermutation (below_domain net index plan.backup_root f) spans
    → IsPermutation (picked index.order (is_covered spans) (length index.order)) list → IsNonDecreasing list
    → list ≡ hit_by net plan f
hit_law net plan index f spans list sound law there moved sorted up =
    same_sorted list (hit_by net plan f) up (filtered_rises (is_hit net plan f) (length net.devices)) (λ v.
    sum_by-IsPermutation (λ x. one_if (nat_eq v x)) (picked index.order (is_covered spans) (length index.order)) list sorted
    ∙ ap (times v) (picked_agree index.order (is_covered spans) (is_covered (below_domain net index index.backup_root f)) (length index.order) (λ p before.
    sym (list_any-IsPermutation (λ (s : Span). is_within s p) (below_domain net index plan.backup_root f) spans moved)
    ∙ ap (λ b. is_covered (below_domain net index b f) p) (sym law.backup_root)))
    ∙ hit_times net plan index f v sound law there
    ∙ sym (times_filtered v (is_hit net plan f) (length net.devices)))
