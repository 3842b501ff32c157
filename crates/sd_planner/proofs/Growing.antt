-- The placed devices make a tree that grew from the root.
use Rattle.std.proofs.Common.{◌≡◌, ◌≢◌, ℕ, zero, suc, ◌+◌, ◌<◌, ◌≤◌, ◌⊎◌, inl, inr, Bool, true, false, ◌&&◌, ◌||◌, not, List, [], ◌∷◌, ◌++◌, length, find, take, map, Option, Some, None, option_map, nat_eq, IsTrue, if◌then◌else◌, refl, sym, ap, ◌∙◌, subst, arith}
use Rattle.std.specs.List.{slice_get, list_any, list_all, IsDistinct, AllByRecursion}
use Rattle.std.specs.Option.{is_some}
use Rattle.std.proofs.lemmas.Bool.{and_parts, or_cases, false_from_ne_true, not-true, cases_lt, eqb-true, eq-eqb, ne_eqb}
use Rattle.std.proofs.lemmas.List.{take-append-le, length-append, length-map, append-nil}
use Rattle.std.proofs.lemmas.Option.{slice_get_within, same_Some}
use Rattle.std.proofs.lemmas.Map.Steps.{length-le_from_distinct_below}
use Rattle.std.proofs.lemmas.Map.Keys.{any_passes_from_place}
use Rattle.sd_num.specs.Lists.{below, map_or}
use Rattle.sd_num.proofs.Shared.{equal_swap}
use Rattle.sd_plan.specs.topo.Network.{Network, joins}
use Rattle.sd_plan.specs.topo.Limits.{IsNetwork}
use Rattle.sd_plan.specs.declared.Hop.{Hop}
use Rattle.sd_plan.specs.declared.Absent.{Absent}
use Rattle.sd_plan.proofs.Numbered.{found_passes}
use Rattle.sd_planner.specs.Usable.{takes_part, is_usable, are_neighbours, link_between}
use Rattle.sd_planner.specs.declared.placement.Placed.{Placed}
use Rattle.sd_planner.specs.Spreading.{placed_at, is_placed, depth_of, below_device, spread}
use Rattle.sd_planner.specs.Grown.{IsBelow, SpreadGrows}
use Rattle.sd_planner.proofs.SpreadGrowing.{spread_grows}
use Rattle.sd_planner.specs.Placing.{no_later, nearest, with_device, next_left, with_left, backup_root_of, through_root, through_backup, root_part, with_backup_root, both_parts, placed, is_on_backup_side}
use Rattle.sd_planner.specs.Trees.{Grows, IsTree}
use Rattle.sd_planner.specs.Nearing.{AreKnown}
use Rattle.sd_planner.proofs.Elements.{found_at_place, find_alone, at_any, any_found}
use Rattle.sd_planner.proofs.Waiters.{find_kept}

-- Places in two lists

-- what stands in both together stands in one
at_both : {X : Type 0} (xs ys : List X) (i : ℕ) (x : X) → slice_get (xs ++ ys) i ≡ Some x
    → (slice_get xs i ≡ Some x) ⊎ ((j : ℕ) × (i ≡ length xs + j) × (slice_get ys j ≡ Some x))
at_both [] ys i x at = inr (i, omega arith, at)
at_both (y ∷ xs) ys zero x at = inl at
at_both (y ∷ xs) ys (suc i) x at =
    elim (at_both xs ys i x at) [
      | inl front ↦ inl front
      | inr back ↦ (let (j, same, there) = back in inr (j, omega arith, there))
    ]

-- what is taken after the first list
take_past : {X : Type 0} (xs ys : List X) (i j : ℕ) → i ≡ length xs + j → take i (xs ++ ys) ≡ xs ++ take j ys
take_past [] ys i j same = ap (λ n. take n ys) (let equal : i ≡ j = omega arith in equal)
take_past (x ∷ xs) ys zero j same = absurd (omega arith)
take_past (x ∷ xs) ys (suc i) j same = ap (λ zs. x ∷ zs) (take_past xs ys i j (omega arith))

-- what stands among the first
pub at_taken : {X : Type 0} (n : ℕ) (xs : List X) (k : ℕ) (x : X) → slice_get (take n xs) k ≡ Some x → (k < n) × (slice_get xs k ≡ Some x)
at_taken zero xs k x at = cc
at_taken (suc n) [] k x at = cc
at_taken (suc n) (y ∷ xs) zero x at = (omega arith, at)
at_taken (suc n) (y ∷ xs) (suc k) x at = let (less, there) = at_taken n xs k x at in (omega arith, there)

module _ (net : Network) (root : ℕ) (absent : Absent) where
  -- One step

  -- more that grows below what has grown
  grows_more : (list more : List Placed) (through : ℕ → Bool) → Grows net root absent list → 0 < length list → SpreadGrows net absent through list more
      → ((d : ℕ) → through d ≡ true → (takes_part net absent d ≡ true) × (is_placed list d ≡ false)) → Grows net root absent (list ++ more)
  grows_more list more through grown some under fresh = record {
    first = λ p at. elim (at_both list more 0 p at) [ inl front ↦ grown.first p front | inr back ↦ (let (j, same, there) = back in absurd (omega arith)) ];
    members = λ i p at.
        elim (at_both list more i p at) [
          | inl front ↦ grown.members i p front
          | inr back ↦ (let (j, same, there) = back in let (within, passes) = under.members j p there in (within, (fresh p.device passes).0))
        ];
    distinct = λ i j p q less first second.
        elim (at_both list more i p first) [
          | inl front ↦
              elim (at_both list more j q second) [
                | inl also ↦ grown.distinct i j p q less front also
                | inr back ↦
                    (let (k, behind, there) = back in
                    λ same.
                    let placed_p : is_placed list p.device ≡ true =
                    any_passes_from_place (λ (r : Placed). nat_eq r.device p.device) list i p front (eq-eqb p.device p.device refl) in
                    let not_q : is_placed list q.device ≡ false = (fresh q.device (under.members k q there).1).1 in
                    absurd (cc (placed_p, not_q, ap (is_placed list) same)))
              ]
          | inr back ↦
              (let (k, behind, there) = back in
              elim (at_both list more j q second) [
                | inl also ↦ (let inside = slice_get_within list j q also in absurd (omega arith))
                | inr after ↦ (let (l, past, here) = after in under.distinct k l p q (omega arith) there here)
              ])
        ];
    parents = λ i p at.
        elim (at_both list more (i + 1) p at) [
          | inl front ↦
              (let inside : i + 1 ≤ length list = (let less = slice_get_within list (i + 1) p front in omega arith) in
              subst (λ earlier. IsBelow net absent earlier p) (sym (take-append-le (i + 1) list more inside)) (grown.parents i p front))
          | inr back ↦
              (let (j, same, there) = back in
              subst (λ earlier. IsBelow net absent earlier p) (sym (take_past list more (i + 1) j same)) (under.parents j p there))
        ];
  }

  -- the root alone
  abbrev pub root_placed : Placed
  root_placed = record { device = root; depth = 0; hop = None }

  root_grows : root < length net.devices → takes_part net absent root ≡ true → Grows net root absent (root_placed ∷ [])
  root_grows within member = record {
    first = λ p at. sym (same_Some root_placed p at);
    members = only;
    distinct = apart;
    parents = λ i p at. alone i p at;
  }
    where
      none_after : (i : ℕ) (p : Placed) → slice_get {X = Placed} [] i ≡ Some p → ⊥
      none_after i p at = cc

      only : (i : ℕ) (p : Placed) → slice_get (root_placed ∷ []) i ≡ Some p → (p.device < length net.devices) × IsTrue (takes_part net absent p.device)
      only zero p at =
          subst (λ (q : Placed). (q.device < length net.devices) × IsTrue (takes_part net absent q.device)) (same_Some root_placed p at) (within, member)
      only (suc i) p at = absurd (none_after i p at)

      apart : (i j : ℕ) (p q : Placed) → i < j → slice_get (root_placed ∷ []) i ≡ Some p → slice_get (root_placed ∷ []) j ≡ Some q → p.device ≢ q.device
      apart i zero p q less first second = absurd (omega arith)
      apart i (suc j) p q less first second = absurd (none_after j q second)

      past : (i : ℕ) (p : Placed) → slice_get (root_placed ∷ []) (suc i) ≡ Some p → ⊥
      past i p at = none_after i p at

      alone : (i : ℕ) (p : Placed) → slice_get (root_placed ∷ []) (i + 1) ≡ Some p → IsBelow net absent (take (i + 1) (root_placed ∷ [])) p
      alone i p at = let next : i + 1 ≡ suc i = omega arith in absurd (past i p (ap (slice_get (root_placed ∷ [])) (sym next) ∙ at))

  -- What is known of what has grown

  -- a placed device lies no deeper than its place
  depth_most : (list : List Placed) → Grows net root absent list → (n i : ℕ) (p : Placed) → i < n → slice_get list i ≡ Some p → p.depth ≤ i
  depth_most list grown zero i p less at = absurd (omega arith)
  depth_most list grown (suc n) zero p less at = let same : p ≡ root_placed = grown.first p at in let flat : p.depth ≡ 0 = ap (λ q. q.depth) same in omega arith
  depth_most list grown (suc n) (suc i) p less at =
      let next : i + 1 ≡ suc i = omega arith in
      let up : IsBelow net absent (take (i + 1) list) p = grown.parents i p (ap (slice_get list) next ∙ at) in
      let (before, there) = at_taken (i + 1) list up.place up.parent up.before in
      let above : up.parent.depth ≤ up.place = depth_most list grown n up.place up.parent (omega arith) there in
      omega (arith, up.deeper)

  -- it is found by its number
  pub found_own : (list : List Placed) → Grows net root absent list → (k : ℕ) (p : Placed) → slice_get list k ≡ Some p → placed_at list p.device ≡ Some p
  found_own list grown k p at =
      find_alone (λ (q : Placed). nat_eq q.device p.device) list k p at (eq-eqb p.device p.device refl)
      (λ j q there same. by_place j q there (eqb-true q.device p.device same))
    where
      by_place : (j : ℕ) (q : Placed) → slice_get list j ≡ Some q → q.device ≡ p.device → q ≡ p
      by_place j q there same =
          elim (cases_lt j k) [
            | inl before ↦ absurd (grown.distinct j k q p before there at same)
            | inr not_before ↦
                elim (cases_lt k j) [
                  | inl behind ↦ absurd (grown.distinct k j p q behind at there (sym same))
                  | inr not_behind ↦ (let equal : j ≡ k = omega arith in same_Some q p (sym there ∙ ap (slice_get list) equal ∙ at))
                ]
          ]

  -- no more are placed than there are
  few_placed : (list : List Placed) → Grows net root absent list → length list ≤ length net.devices
  unfolding IsDistinct
  few_placed list grown =
      let few = length-le_from_distinct_below (map (λ (p : Placed). p.device) list) (length net.devices) (apart list grown.distinct) all_within in
      omega (arith, length-map list (λ (p : Placed). p.device))
    where
      differ : (d : ℕ) (ps : List Placed) → ((k : ℕ) (q : Placed) → slice_get ps k ≡ Some q → d ≢ q.device)
          → AllByRecursion (λ y. nat_eq d y ≡ false) (map (λ (p : Placed). p.device) ps)
      differ d [] each = tt
      differ d (p ∷ ps) each = (ne_eqb d p.device (each 0 p refl), differ d ps (λ k q at. each (suc k) q at))

      apart : (ps : List Placed) → ((i j : ℕ) (p q : Placed) → i < j → slice_get ps i ≡ Some p → slice_get ps j ≡ Some q → p.device ≢ q.device)
          → IsDistinct nat_eq (map (λ (p : Placed). p.device) ps)
      apart [] each = tt
      apart (p ∷ ps) each = (
        differ p.device ps (λ k q at. each 0 (suc k) p q (omega arith) refl at),
        apart ps
            (λ i j q r less first second. each (suc i) (suc j) q r (omega arith) first second),
      )

      at_device : (ps : List Placed) (x : ℕ) → list_any (nat_eq x) (map (λ (p : Placed). p.device) ps) ≡ true
          → (k : ℕ) × (p : Placed) × (slice_get ps k ≡ Some p) × (x ≡ p.device)
      at_device [] x there = cc
      at_device (p ∷ ps) x there =
          elim (or_cases (nat_eq x p.device) (list_any (nat_eq x) (map (λ (p : Placed). p.device) ps)) there) [
            | inl here ↦ (0, p, refl, eqb-true x p.device here)
            | inr later ↦ (let (k, q, at, same) = at_device ps x later in (suc k, q, at, same))
          ]

      all_within : (x : ℕ) → list_any (nat_eq x) (map (λ (p : Placed). p.device) list) ≡ true → x < length net.devices
      all_within x there = let (k, p, at, same) = at_device list x there in let inside : p.device < length net.devices = (grown.members k p at).0 in omega arith

  pub grows_known : (list : List Placed) → Grows net root absent list → AreKnown (length net.devices) list
  grows_known list grown = record {
    within = λ k p at. (grown.members k p at).0;
    found = found_own list grown;
    shallow = λ k p at.
        let most : p.depth ≤ k = depth_most list grown (k + 1) k p (omega arith) at in
        let inside : k < length list = slice_get_within list k p at in
        let few : length list ≤ length net.devices = few_placed list grown in
        omega arith;
  }

  -- The steps of the plan

  tree_more : (list more : List Placed) (through : ℕ → Bool) → IsTree net root absent list → SpreadGrows net absent through list more
      → ((d : ℕ) → through d ≡ true → (takes_part net absent d ≡ true) × (is_placed list d ≡ false)) → IsTree net root absent (list ++ more)
  tree_more list more through tree under fresh = record {
    grown = grows_more list more through tree.grown tree.some under fresh;
    some = omega (arith, length-append list more, tree.some);
  }

  -- one device below its nearest neighbour
  one_under : (list : List Placed) (d : ℕ) (q : Placed) → d < length net.devices → nearest net absent list d ≡ Some q
      → SpreadGrows net absent (nat_eq d) list (below_device net absent q.device q.depth d ∷ [])
  one_under list d q within is = by_link (link_between net absent d q.device) refl
    where
      place : (k : ℕ) × (slice_get list k ≡ Some q)
          × ((are_neighbours net absent d q.device && list_all (λ r. not (are_neighbours net absent d r.device) || no_later q r) list) ≡ true)
      place = found_at_place (λ p. are_neighbours net absent d p.device && list_all (λ r. not (are_neighbours net absent d r.device) || no_later p r) list) list
          q is

      are : is_some (link_between net absent d q.device) ≡ true
      are = (and_parts (are_neighbours net absent d q.device) (list_all (λ r. not (are_neighbours net absent d r.device) || no_later q r) list) place.2).0

      new : Placed
      new = below_device net absent q.device q.depth d

      none_after : (i : ℕ) (p : Placed) → slice_get {X = Placed} [] i ≡ Some p → ⊥
      none_after i p at = cc

      by_link : (o : Option ℕ) → link_between net absent d q.device ≡ o
          → SpreadGrows net absent (nat_eq d) list (below_device net absent q.device q.depth d ∷ [])
      by_link None none = absurd (cc (ap is_some none, are))
      by_link (Some l) some = record { members = members; distinct = apart; parents = parents }
        where
          link : (l < length net.links) × ((is_usable net absent l && joins net l d q.device) ≡ true)
          link = found_passes (λ x. is_usable net absent x && joins net x d q.device) (length net.links) l some

          new_under : (p : Placed) → below_device net absent q.device q.depth d ≡ p → IsBelow net absent list p
          new_under p same =
              subst (IsBelow net absent list) same
              (record {
                hop = record { parent = q.device; link = l };
                place = place.0;
                parent = q;
                has_hop = ap (option_map {U = Hop} (λ x. record { parent = q.device; link = x })) some;
                before = place.1;
                leads = refl;
                deeper = refl;
                lowest = some;
                usable = link.1;
                link = link.0;
              })

          members : (i : ℕ) (p : Placed) → slice_get (below_device net absent q.device q.depth d ∷ []) i ≡ Some p
              → (p.device < length net.devices) × (nat_eq d p.device ≡ true)
          members zero p at =
              subst (λ (r : Placed). (r.device < length net.devices) × (nat_eq d r.device ≡ true)) (same_Some (below_device net absent q.device q.depth d) p at)
              (within, eq-eqb d d refl)
          members (suc i) p at = absurd (none_after i p at)

          apart : (i j : ℕ) (p r : Placed) → i < j → slice_get (below_device net absent q.device q.depth d ∷ []) i ≡ Some p
              → slice_get (below_device net absent q.device q.depth d ∷ []) j ≡ Some r → p.device ≢ r.device
          apart i zero p r less first second = absurd (omega arith)
          apart i (suc j) p r less first second = absurd (none_after j r second)

          parents : (i : ℕ) (p : Placed) → slice_get (below_device net absent q.device q.depth d ∷ []) i ≡ Some p
              → IsBelow net absent (list ++ take i (below_device net absent q.device q.depth d ∷ [])) p
          parents zero p at =
              subst (λ earlier. IsBelow net absent earlier p) (sym (append-nil list))
              (new_under p (same_Some (below_device net absent q.device q.depth d) p at))
          parents (suc i) p at = absurd (none_after i p at)

  pub with_device_tree : (list : List Placed) (d : ℕ) → IsTree net root absent list → d < length net.devices → takes_part net absent d ≡ true
      → is_placed list d ≡ false → IsTree net root absent (with_device net absent list d)
  with_device_tree list d tree within member new = by_nearest (nearest net absent list d) refl
    where
      by_nearest : (o : Option Placed) → nearest net absent list d ≡ o
          → IsTree net root absent (map_or (option_map (λ p. below_device net absent p.device p.depth d) o) list (λ p. list ++ p ∷ []))
      by_nearest None none = tree
      by_nearest (Some q) is =
          tree_more list (below_device net absent q.device q.depth d ∷ []) (nat_eq d) tree (one_under list d q within is) (λ e same.
          let equal : d ≡ e = eqb-true d e same in
          subst (λ x. (takes_part net absent x ≡ true) × (is_placed list x ≡ false)) equal (member, new))

  -- the next device is a member that is not placed
  pub next_member : (list : List Placed) (d : ℕ) → next_left net absent list ≡ Some d
      → (d < length net.devices) × (takes_part net absent d ≡ true) × (is_placed list d ≡ false)
  next_member list d is =
      let (within, passes) =
      found_passes (λ x. takes_part net absent x && (not (is_placed list x) && is_some (nearest net absent list x))) (length net.devices) d
      (sym (find_kept (takes_part net absent) (λ x. not (is_placed list x) && is_some (nearest net absent list x)) (below (length net.devices))) ∙ is)
      in
      let (member, rest) = and_parts (takes_part net absent d) (not (is_placed list d) && is_some (nearest net absent list d)) passes in
      (within, member, not-true (is_placed list d) (and_parts (not (is_placed list d)) (is_some (nearest net absent list d)) rest).0)

  pub with_next_tree : (list : List Placed) (d : ℕ) → IsTree net root absent list → next_left net absent list ≡ Some d
      → IsTree net root absent (with_device net absent list d)
  with_next_tree list d tree is = let (within, member, new) = next_member list d is in with_device_tree list d tree within member new

  pub with_left_tree : (n : ℕ) (list : List Placed) → IsTree net root absent list → IsTree net root absent (with_left net absent n list)
  with_left_tree zero list tree = tree
  with_left_tree (suc n) list tree = by_next (next_left net absent list) refl (λ d grown. with_left_tree n (with_device net absent list d) grown)
    where
      by_next : (o : Option ℕ) → next_left net absent list ≡ o
          → ((d : ℕ) → IsTree net root absent (with_device net absent list d) → IsTree net root absent (with_left net absent n (with_device net absent list d)))
          → IsTree net root absent (map_or o list (λ d. with_left net absent n (with_device net absent list d)))
      by_next None none more = tree
      by_next (Some d) is more = more d (with_next_tree list d tree is)

  -- the root's side
  pub root_fresh : (d : ℕ) → through_root net root absent d ≡ true → (takes_part net absent d ≡ true) × (is_placed (root_placed ∷ []) d ≡ false)
  root_fresh d passes =
      let (three, off) =
      and_parts (takes_part net absent d && not (nat_eq d root) && not (nat_eq d (backup_root_of net root absent)))
      (not (is_on_backup_side net d)) passes in
      let (two, no_backup_root) = and_parts (takes_part net absent d && not (nat_eq d root)) (not (nat_eq d (backup_root_of net root absent))) three in
      let (member, no_root) = and_parts (takes_part net absent d) (not (nat_eq d root)) two in
      (member, ap (λ b. b || false) (equal_swap root d ∙ not-true (nat_eq d root) no_root))

  pub root_part_tree : root < length net.devices → takes_part net absent root ≡ true → IsTree net root absent (root_part net root absent)
  root_part_tree within member =
      tree_more (root_placed ∷ []) (spread net absent root (through_root net root absent) 0) (through_root net root absent)
      (record { grown = root_grows within member; some = omega arith })
      (spread_grows net absent root (through_root net root absent) 0 (root_placed ∷ []) 0 root_placed refl refl refl) root_fresh

  -- none of them is the backup root
  pub backup_root_new : nat_eq (backup_root_of net root absent) root ≡ false → is_placed (root_part net root absent) (backup_root_of net root absent) ≡ false
  backup_root_new other =
      false_from_ne_true (is_placed (root_part net root absent) (backup_root_of net root absent)) (λ there.
      elim (or_cases (nat_eq root (backup_root_of net root absent))
      (is_placed (spread net absent root (through_root net root absent) 0) (backup_root_of net root absent)) there) [
        | inl first ↦ (let same : root ≡ backup_root_of net root absent = eqb-true root (backup_root_of net root absent) first in
            let also = eq-eqb (backup_root_of net root absent) root (sym same) in cc)
        | inr later ↦
            (let (k, p, at, here) =
            at_any (λ (p : Placed). nat_eq p.device (backup_root_of net root absent)) (spread net absent root (through_root net root absent) 0) later in
            let passes : through_root net root absent p.device ≡ true =
            ((spread_grows net absent root (through_root net root absent) 0 (root_placed ∷ []) 0 root_placed refl refl refl).members k p at).1 in
            let (three, off) =
            and_parts (takes_part net absent p.device && not (nat_eq p.device root) && not (nat_eq p.device (backup_root_of net root absent)))
            (not (is_on_backup_side net p.device)) passes in
            let (two, no_backup_root) =
            and_parts (takes_part net absent p.device && not (nat_eq p.device root)) (not (nat_eq p.device (backup_root_of net root absent))) three in
            let not_here : nat_eq p.device (backup_root_of net root absent) ≡ false =
            not-true (nat_eq p.device (backup_root_of net root absent)) no_backup_root in
            absurd (cc (here, not_here)))
      ])

  -- the backup root is a member
  pub backup_root_member : IsNetwork net → nat_eq (backup_root_of net root absent) root ≡ false
      → (backup_root_of net root absent < length net.devices) × (takes_part net absent (backup_root_of net root absent) ≡ true)
  backup_root_member law other = by_found (find (λ d. takes_part net absent d && not (nat_eq d root)) net.roots) refl other
    where
      by_found : (o : Option ℕ) → find (λ d. takes_part net absent d && not (nat_eq d root)) net.roots ≡ o → nat_eq (map_or o root (λ d. d)) root ≡ false
          → (map_or o root (λ d. d) < length net.devices) × (takes_part net absent (map_or o root (λ d. d)) ≡ true)
      by_found None none differs = absurd (let same : nat_eq root root ≡ true = eq-eqb root root refl in cc)
      by_found (Some d) is differs =
          let (k, at, passes) = found_at_place (λ d. takes_part net absent d && not (nat_eq d root)) net.roots d is in
          (law.each_root.1.0 k d at, (and_parts (takes_part net absent d) (not (nat_eq d root)) passes).0)

  -- the root's side and the backup root
  pub with_backup_root_tree : IsNetwork net → root < length net.devices → takes_part net absent root ≡ true
      → IsTree net root absent (with_backup_root net root absent)
  with_backup_root_tree law within member = by_test (nat_eq (backup_root_of net root absent) root) refl
    where
      by_test : (b : Bool) → nat_eq (backup_root_of net root absent) root ≡ b
          → IsTree net root absent
          (if b then root_part net root absent else with_device net absent (root_part net root absent) (backup_root_of net root absent))
      by_test true same = root_part_tree within member
      by_test false other =
          let (inside, present) = backup_root_member law other in
          with_device_tree (root_part net root absent) (backup_root_of net root absent) (root_part_tree within member) inside present (backup_root_new other)

  -- what is passed on the backup side
  pub backup_fresh : (list : List Placed) (d : ℕ) → through_backup net absent list d ≡ true → (takes_part net absent d ≡ true) × (is_placed list d ≡ false)
  backup_fresh list d passes =
      let (front, new) = and_parts (takes_part net absent d && is_on_backup_side net d) (not (is_placed list d)) passes in
      ((and_parts (takes_part net absent d) (is_on_backup_side net d) front).0, not-true (is_placed list d) new)

  -- both sides
  pub both_parts_tree : IsNetwork net → root < length net.devices → takes_part net absent root ≡ true → IsTree net root absent (both_parts net root absent)
  both_parts_tree law within member =
      by_test (not (nat_eq (backup_root_of net root absent) root) && is_placed (with_backup_root net root absent) (backup_root_of net root absent)) refl
    where
      so_far : List Placed
      so_far = with_backup_root net root absent

      by_test : (b : Bool)
          → (not (nat_eq (backup_root_of net root absent) root) && is_placed (with_backup_root net root absent) (backup_root_of net root absent)) ≡ b
          → IsTree net root absent (if b then with_backup_root net root absent
          ++ spread net absent (backup_root_of net root absent) (through_backup net absent (with_backup_root net root absent))
          (depth_of (with_backup_root net root absent) (backup_root_of net root absent)) else with_backup_root net root absent)
      by_test false off = with_backup_root_tree law within member
      by_test true on =
          let tree = with_backup_root_tree law within member in
          let (other, there) =
          and_parts (not (nat_eq (backup_root_of net root absent) root))
          (is_placed (with_backup_root net root absent) (backup_root_of net root absent)) on in
          let (k, p, at, here) = at_any (λ (q : Placed). nat_eq q.device (backup_root_of net root absent)) (with_backup_root net root absent) there in
          let same : p.device ≡ backup_root_of net root absent = eqb-true p.device (backup_root_of net root absent) here in
          let found : placed_at (with_backup_root net root absent) (backup_root_of net root absent) ≡ Some p =
          ap (placed_at (with_backup_root net root absent)) (sym same) ∙ found_own (with_backup_root net root absent) tree.grown k p at in
          tree_more (with_backup_root net root absent)
          (spread net absent (backup_root_of net root absent) (through_backup net absent (with_backup_root net root absent))
          (depth_of (with_backup_root net root absent) (backup_root_of net root absent)))
          (through_backup net absent (with_backup_root net root absent)) tree
          (spread_grows net absent (backup_root_of net root absent) (through_backup net absent (with_backup_root net root absent))
          (depth_of (with_backup_root net root absent) (backup_root_of net root absent)) (with_backup_root net root absent) k p at same
          (sym (ap (λ (o : Option Placed). map_or o 0 (λ q. q.depth)) found))) (backup_fresh (with_backup_root net root absent))

  -- nothing
  none_grows : Grows net root absent []
  none_grows = record {
    first = λ p at. absurd (none 0 p at);
    members = λ i p at. absurd (none i p at);
    distinct = λ i j p q less first second. absurd (none i p first);
    parents = λ i p at. absurd (none (i + 1) p at);
  }
    where
      none : (i : ℕ) (p : Placed) → slice_get {X = Placed} [] i ≡ Some p → ⊥
      none i p at = cc

  -- all that the plan places
  pub placed_grows : IsNetwork net → root < length net.devices → Grows net root absent (placed net root absent)
  unfolding placed
  placed_grows law within = by_test (takes_part net absent root) refl
    where
      by_test : (b : Bool) → takes_part net absent root ≡ b
          → Grows net root absent (if b then with_left net absent (length net.devices) (both_parts net root absent) else [])
      by_test true member = (with_left_tree (length net.devices) (both_parts net root absent) (both_parts_tree law within member)).grown
      by_test false out = none_grows

  -- the backup side, where the backup root has a place
  pub backup_some : (p : Placed) → nat_eq (backup_root_of net root absent) root ≡ false
      → placed_at (with_backup_root net root absent) (backup_root_of net root absent) ≡ Some p
      → both_parts net root absent ≡ with_backup_root net root absent
      ++ spread net absent (backup_root_of net root absent) (through_backup net absent (with_backup_root net root absent)) p.depth
  backup_some p other found =
      ap (λ b. if not b && is_placed so_far (backup_root_of net root absent) then so_far
      ++ spread net absent (backup_root_of net root absent) (through_backup net absent so_far)
      (depth_of so_far (backup_root_of net root absent)) else so_far) other
      ∙ ap (λ b. if b then so_far ++ spread net absent (backup_root_of net root absent) (through_backup net absent so_far)
      (depth_of so_far (backup_root_of net root absent)) else so_far) there
      ∙ ap (λ (o : Option Placed). so_far ++ spread net absent (backup_root_of net root absent) (through_backup net absent so_far) (map_or o 0 (λ q. q.depth)))
      found
    where
      so_far : List Placed
      so_far = with_backup_root net root absent

      there : is_placed (with_backup_root net root absent) (backup_root_of net root absent) ≡ true
      there = any_found (λ (q : Placed). nat_eq q.device (backup_root_of net root absent)) (with_backup_root net root absent) ∙ ap is_some found

  -- where it has none
  pub backup_none : nat_eq (backup_root_of net root absent) root ≡ false → placed_at (with_backup_root net root absent) (backup_root_of net root absent) ≡ None
      → both_parts net root absent ≡ with_backup_root net root absent
  backup_none other none =
      ap (λ b. if not b && is_placed so_far (backup_root_of net root absent) then so_far
      ++ spread net absent (backup_root_of net root absent) (through_backup net absent so_far)
      (depth_of so_far (backup_root_of net root absent)) else so_far) other
      ∙ ap (λ b. if b then so_far ++ spread net absent (backup_root_of net root absent) (through_backup net absent so_far)
      (depth_of so_far (backup_root_of net root absent)) else so_far)
      (any_found (λ (q : Placed). nat_eq q.device (backup_root_of net root absent)) so_far ∙ ap is_some none)
    where
      so_far : List Placed
      so_far = with_backup_root net root absent
