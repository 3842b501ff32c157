-- The subtree of a device has the devices whose walk leads over it, each once.
use Rattle.std.proofs.Common.{◌≡◌, ◌≢◌, ℕ, zero, suc, ◌+◌, ◌<◌, ◌≤◌, inl, inr, true, List, [], ◌∷◌, length, map, flat_map, get_or, All, nat_eq, Option, Some, None, refl, sym, ap, ◌∙◌, subst, arith, false}
use Rattle.std.proofs.lemmas.Bool.{cases_Bool, cases_eq, or_cases, or_right, eq-eqb, ne_eqb, eqb-true, false_from_ne_true}
use Rattle.std.proofs.lemmas.List.Elements.{All-filter, filter_passes}
use Rattle.sd_num.specs.Lists.{below, map_or}
use Rattle.sd_num.specs.Counts.{one_if}
use Rattle.sd_plan.specs.topo.Network.{Network, device_numbers}
use Rattle.sd_plan.specs.Plans.{primary_of}
use Rattle.sd_plan.specs.Walks.{on_walk}
use Rattle.sd_plan.specs.Subtrees.{is_child, children, listed, subtree, IsWithin}
use Rattle.sd_plan.specs.declared.Hop.{Hop}
use Rattle.sd_plan.specs.declared.Plan.{Plan}
use Rattle.sd_plan.proofs.Forest.{IsForest, by_option, climb, height, height_most, on_top, on_up, on_itself, on_inside, on_level, on_through, nearer}
use Rattle.sd_plan.proofs.Numbered.{get_or-numbered, length-numbered, get_or-below, length-below}
use Rattle.sd_plan.proofs.Times.{times, total, times-flat, total_none, total_one, has-filter, of_all}

-- a child has a hop to its parent
child_hop : (plan : Plan) (d c : ℕ) → is_child plan d c ≡ true → (hop : Hop) × (primary_of plan c ≡ Some hop) × (hop.parent ≡ d)
child_hop plan d c child =
    by_option (primary_of plan c) ((hop : Hop) × (primary_of plan c ≡ Some hop) × (hop.parent ≡ d))
    (λ none. absurd (no_hop (primary_of plan c) none child))
    (λ hop is. (hop, is, eqb-true hop.parent d (subst (λ (o : Option Hop). map_or o false (λ hop. nat_eq hop.parent d) ≡ true) is child)))
  where
    no_hop : (o : Option Hop) → o ≡ None → map_or o false (λ hop. nat_eq hop.parent d) ≡ true → ⊥
    no_hop None none child = cc
    no_hop (Some hop) none child = cc

-- it lies one hop deeper
child_height : (net : Network) (plan : Plan) → IsForest net plan → (d c : ℕ) → c < length net.devices → is_child plan d c ≡ true
    → height net plan c ≡ suc (height net plan d)
child_height net plan forest d c within child =
    let (hop, is, up) = child_hop plan d c child in
    ap length (forest.up c hop within is).walk ∙ ap (λ p. suc (height net plan p)) up

-- its walk leads over the parent
child_on : (net : Network) (plan : Plan) → IsForest net plan → (d c : ℕ) → c < length net.devices → is_child plan d c ≡ true → on_walk net plan c d ≡ true
child_on net plan forest d c within child =
    let (hop, is, up) = child_hop plan d c child in
    on_up net plan c d hop (forest.up c hop within is).walk
    ∙ or_right (nat_eq d c) (on_walk net plan hop.parent d) (subst (λ p. on_walk net plan p d ≡ true) (sym up) (on_itself net plan d))

-- what lies below d lies below one of its children, or is this
child_towards : (net : Network) (plan : Plan) → IsForest net plan → (d x : ℕ) → x < length net.devices → on_walk net plan x d ≡ true → x ≢ d
    → (b : ℕ) × (b < length net.devices) × (is_child plan d b ≡ true) × (on_walk net plan x b ≡ true)
child_towards net plan forest d = climb net plan forest
    (λ x. on_walk net plan x d ≡ true → x ≢ d → (b : ℕ) × (b < length net.devices) × (is_child plan d b ≡ true) × (on_walk net plan x b ≡ true))
    (λ x within none on apart. absurd (apart (sym (eqb-true d x (sym (on_top net plan x d (forest.top x none)) ∙ on)))))
    (λ x hop within is step above on apart.
    elim (or_cases (nat_eq d x) (on_walk net plan hop.parent d) (sym (on_up net plan x d hop step.walk) ∙ on)) [
      | inl here ↦ absurd (apart (sym (eqb-true d x here)))
      | inr there ↦
          elim (cases_eq hop.parent d) [
            | inl same ↦ (
              x,
              within,
              subst (λ (o : Option Hop). map_or o false (λ hop. nat_eq hop.parent d) ≡ true) (sym is)
                  (eq-eqb hop.parent d same),
              on_itself net plan x,
            )
            | inr other ↦
                (let (b, inside, child, over) = above there other in
                (b, inside, child, on_up net plan x b hop step.walk ∙ or_right (nat_eq b x) (on_walk net plan hop.parent b) over))
          ]
    ])

-- if below each child x stands as often as its walk leads over this, so it does below d
level : (net : Network) (plan : Plan) → IsForest net plan → (f : ℕ → List ℕ) (d x : ℕ) → d < length net.devices
    → ((c : ℕ) → c < length net.devices → is_child plan d c ≡ true → times x (f c) ≡ one_if (on_walk net plan x c))
    → times x (d ∷ flat_map f (children net plan d)) ≡ one_if (on_walk net plan x d)
level net plan forest f d x within each =
    ap (λ n. one_if (nat_eq x d) + n) (times-flat x f (children net plan d))
    ∙ elim (cases_eq x d) [
      | inl same ↦
          (ap (λ b. one_if b + total (λ c. times x (f c)) (children net plan d)) (eq-eqb x d same)
          ∙ ap (λ n. 1 + n)
          (total_none (λ c. times x (f c)) (is_child plan d) (length net.devices) (λ c inside child.
          each c inside child
          ∙ ap one_if
          (false_from_ne_true (on_walk net plan x c) (λ on.
          let deeper = child_height net plan forest d c inside child in
          let level = ap (height net plan) same in
          elim (nearer net plan forest c x (omega arith) on) [ inl equal ↦ (let also = ap (height net plan) equal in omega arith) | inr less ↦ omega arith ]))))
          ∙ sym (ap one_if (subst (λ y. on_walk net plan x y ≡ true) same (on_itself net plan x))))
      | inr apart ↦
          (ap (λ b. one_if b + total (λ c. times x (f c)) (children net plan d)) (ne_eqb x d apart)
          ∙ elim (cases_Bool (on_walk net plan x d)) [
            | inl on ↦
                (let inside = on_inside net plan forest x d within on in
                let (b, there, child, over) = child_towards net plan forest d x inside on apart in
                ap (λ n. 0 + n)
                (total_one (λ c. times x (f c)) (is_child plan d) (length net.devices) b there child (λ c here other differs.
                each c here other
                ∙ ap one_if
                (false_from_ne_true (on_walk net plan x c) (λ also.
                differs (on_level net plan forest x c b inside (child_height net plan forest d c here other
                ∙ sym (child_height net plan forest d b there child)) also over))))
                ∙ each b there child ∙ ap one_if over)
                ∙ sym (ap one_if on))
            | inr off ↦
                (ap (λ n. 0 + n)
                (total_none (λ c. times x (f c)) (is_child plan d) (length net.devices) (λ c here child.
                each c here child
                ∙ ap one_if
                (false_from_ne_true (on_walk net plan x c) (λ over.
                absurd (cc (off, on_through net plan forest x c d (on_inside net plan forest x c here over) over (child_on net plan forest d c here child)))))))
                ∙ sym (ap one_if off))
          ])
    ]

-- the lists of all children
abbrev pub AreChildren : Network → Plan → List (List ℕ) → Type 0
AreChildren net plan lists = lists ≡ map (children net plan) (device_numbers net)

pub listed_is : (net : Network) (plan : Plan) (lists : List (List ℕ)) (d : ℕ) → AreChildren net plan lists → d < length net.devices
    → listed lists d ≡ children net plan d
listed_is net plan lists d are within = ap (λ xs. get_or xs d []) are ∙ get_or-numbered (children net plan) (length net.devices) d [] within

-- a child is one of the listed
child_listed : (net : Network) (plan : Plan) (lists : List (List ℕ)) (d c : ℕ) → AreChildren net plan lists → d < length net.devices → c < length net.devices
    → is_child plan d c ≡ true → 1 ≤ times c (listed lists d)
child_listed net plan lists d c are within inside child =
    subst (λ (xs : List ℕ). 1 ≤ times c xs) (sym (listed_is net plan lists d are within)) (has-filter (is_child plan d) (length net.devices) c inside child)

-- a subtree has just the devices whose walk leads over its first, each once
pub times_below : (net : Network) (plan : Plan) → IsForest net plan → (lists : List (List ℕ)) → AreChildren net plan lists → (n d x : ℕ) → IsWithin lists n d
    → d < length net.devices
    → times x (subtree lists n d) ≡ one_if (on_walk net plan x d)
unfolding IsWithin subtree
times_below net plan forest lists are zero d x within inside =
    ap (λ cs. times x (d ∷ flat_map (λ c. []) cs)) (sym within.1 ∙ listed_is net plan lists d are inside)
    ∙ level net plan forest (λ c. []) d x inside
    (λ c here child. (let some = child_listed net plan lists d c are inside here child in let none = ap (times c) within.1 in absurd (omega arith)))
times_below net plan forest lists are (suc n) d x within inside =
    ap (λ cs. times x (d ∷ flat_map (subtree lists n) cs)) (listed_is net plan lists d are inside)
    ∙ level net plan forest (subtree lists n) d x inside (λ c here child.
    times_below net plan forest lists are n c x (of_all (IsWithin lists n) (listed lists d) c within.1 (child_listed net plan lists d c are inside here child))
    here)

-- the children are devices, and follow d
children_pass : (net : Network) (plan : Plan) (d k e : ℕ) → k < length (children net plan d)
    → (get_or (children net plan d) k e < length net.devices) × (is_child plan d (get_or (children net plan d) k e) ≡ true)
children_pass net plan d k e inside = (
  All-filter (is_child plan d) (λ c. c < length net.devices) (device_numbers net) (all_numbers (length net.devices)) k e inside,
  filter_passes
      (is_child plan d) (device_numbers net) k e inside,
)
  where
    all_numbers : (n : ℕ) → All (λ c. c < n) (below n)
    all_numbers n k e less =
        let size = length-below n in
        let here : k < n = omega arith in
        subst (λ m. m < n) (sym (get_or-below n k e here)) here

-- no device has more below it than the depth leaves
pub within_depth : (net : Network) (plan : Plan) → IsForest net plan → (lists : List (List ℕ)) → AreChildren net plan lists → (n d : ℕ) → d < length net.devices
    → net.params.depth ≤ n + height net plan d → IsWithin lists n d
unfolding IsWithin
within_depth net plan forest lists are zero d inside enough =
    (range, listed_is net plan lists d are inside ∙ by_list (children net plan d) (λ k less. too_deep k less))
  where
    range : d < length lists
    range = omega (arith, ap length are, length-numbered (children net plan) (length net.devices))

    too_deep : (k : ℕ) → k < length (children net plan d) → ⊥
    too_deep k less =
        let (here, child) = children_pass net plan d k 0 less in
        omega (arith, child_height net plan forest d (get_or (children net plan d) k 0) here child, height_most net plan (get_or (children net plan d) k 0))

    by_list : (cs : List ℕ) → ((k : ℕ) → k < length cs → ⊥) → cs ≡ []
    by_list [] none = refl
    by_list (c ∷ cs) none = absurd (none 0 (omega arith))
within_depth net plan forest lists are (suc n) d inside enough = (
  omega (arith, ap length are, length-numbered (children net plan) (length net.devices)),
  subst (λ (cs : List ℕ). All (IsWithin lists n) cs) (sym (listed_is net plan lists d are inside)) (λ k e less.
      let (here, child) = children_pass net plan d k e less in
      within_depth net plan forest lists are n (get_or (children net plan d) k e) here
      (omega (arith, child_height net plan forest d (get_or (children net plan d) k e) here child))),
)
