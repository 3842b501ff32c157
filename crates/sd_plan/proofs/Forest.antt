-- The walks of a well formed plan, a hop at a time: the devices are a forest.
use Rattle.std.proofs.Common.{◌≡◌, ℕ, zero, suc, ◌<◌, ◌≤◌, ◌⊎◌, inl, inr, Bool, true, false, ◌&&◌, ◌||◌, not, if◌then◌else◌, List, [], ◌∷◌, length, map, Option, Some, None, option_map, option_to_list, nat_eq, refl, sym, ap, ◌∙◌, subst, arith}
use Rattle.std.specs.List.{list_any}
use Rattle.std.proofs.lemmas.Bool.{and_parts, or_cases, or_right, eqb-true, eq-eqb, cases_Bool, cases_lt, false_from_ne_true, not-true}
use Rattle.std.proofs.lemmas.Option.{slice_get_past}
use Rattle.sd_num.specs.Lists.{has, map_or}
use Rattle.sd_plan.specs.topo.Network.{Network, joins, link_of}
use Rattle.sd_plan.specs.Plans.{Fits, is_member, is_present, is_root, has_row, row_of, primary_of, backup_of}
use Rattle.sd_plan.specs.Walks.{hops, walk, end_of, devices_of, on_walk}
use Rattle.sd_plan.specs.Structure.{structure_breach, hop_is_right}
use Rattle.sd_plan.specs.IndexedPlan.{goes_over}
use Rattle.sd_plan.specs.declared.Hop.{Hop}
use Rattle.sd_plan.specs.declared.Plan.{Plan}
use Rattle.sd_plan.specs.declared.PlanRow.{PlanRow}
use Rattle.sd_plan.proofs.Rules.{KeepsRules, keeps_rules}
use Rattle.sd_plan.proofs.Over.{ends_are}
use Rattle.sd_plan.proofs.Steps.{primary_within}

-- the hops from a first one on
abbrev pub onward : (ℕ → Bool) → (ℕ → List Hop) → Option Hop → List Hop
onward ends more found = elim found [ None ↦ [] | Some hop ↦ hop ∷ (elim (ends hop.parent) [ true ↦ [] | false ↦ more hop.parent ]) ]

-- the walk from d comes to the root within n hops
abbrev pub Comes : Plan → ℕ → ℕ → Type 0
Comes plan n d = is_root plan (end_of d (hops (is_root plan) plan n d)) ≡ true

-- the hop is there, and leads to the device
abbrev pub IsParent : Option Hop → ℕ → Type 0
IsParent o e = (hop : Hop) × (o ≡ Some hop) × (hop.parent ≡ e)

-- a list of the one hop that is there
pub one_parent : (o : Option Hop) (e : ℕ) → list_any (λ hop. nat_eq hop.parent e) (option_to_list o) ≡ true → IsParent o e
one_parent None e some = cc
one_parent (Some hop) e some =
    elim (or_cases (nat_eq hop.parent e) false some) [ inl here ↦ (hop, refl, eqb-true hop.parent e here) | inr none ↦ absurd (wrong none) ]
  where
    wrong : false ≡ true → ⊥
    wrong same = cc

-- how far a device lies below the root
abbrev pub height : Network → Plan → ℕ → ℕ
height net plan d = length (walk net plan d)

-- what a device's hop leads to
pub record IsStep (net : Network) (plan : Plan) (d : ℕ) (hop : Hop) : Type 0 where
  pub within : hop.parent < length net.devices
  pub link : hop.link < length net.links
  pub joined : joins net hop.link d hop.parent ≡ true
  pub above : is_member plan hop.parent ≡ true
  pub below : is_member plan d ≡ true
  pub other : is_root plan d ≡ false
  pub walk : walk net plan d ≡ hop ∷ walk net plan hop.parent

-- each device has a hop to one that is nearer to the root, or no hop and no walk
pub record IsForest (net : Network) (plan : Plan) : Type 0 where
  pub up : (d : ℕ) (hop : Hop) → d < length net.devices → primary_of plan d ≡ Some hop → IsStep net plan d hop
  pub top : (d : ℕ) → primary_of plan d ≡ None → walk net plan d ≡ []
  pub hop : (d : ℕ) → d < length net.devices → is_member plan d ≡ true → is_root plan d ≡ false → (hop : Hop) × (primary_of plan d ≡ Some hop)
  pub outside : (d : ℕ) → length net.devices ≤ d → primary_of plan d ≡ None
  pub root : plan.root < length net.devices
  pub member : is_member plan plan.root ≡ true

-- an option by its two cases
pub by_option : {X : Type 0} (o : Option X) (Q : Type 0) → (o ≡ None → Q) → ((x : X) → o ≡ Some x → Q) → Q
by_option None Q none some = none refl
by_option (Some x) Q none some = some x refl

-- the first hop of some, and those that follow it
abbrev first : (ℕ → Bool) → Option Hop → (ℕ → List Hop) → List Hop
first ends found more = elim found [ None ↦ [] | Some h ↦ h ∷ (elim (ends h.parent) [ true ↦ [] | false ↦ more h.parent ]) ]

-- the hops that follow are the same if these are, wherever they come to the end
same_more : (ends : ℕ → Bool) (d : ℕ) (found : Option Hop) (f g : ℕ → List Hop) → ends (end_of d (first ends found g)) ≡ true
    → ((p : ℕ) → ends p ≡ false → ends (end_of p (g p)) ≡ true → f p ≡ g p) → first ends found f ≡ first ends found g
same_more ends d None f g right same = refl
same_more ends d (Some hop) f g right same = by_end (ends hop.parent) refl right
  where
    by_end : (b : Bool) → ends hop.parent ≡ b → ends (end_of hop.parent (elim b [ true ↦ [] | false ↦ g hop.parent ])) ≡ true
        → hop ∷ (elim b [ true ↦ [] | false ↦ f hop.parent ]) ≡ hop ∷ (elim b [ true ↦ [] | false ↦ g hop.parent ])
    by_end true is right = refl
    by_end false is right = ap (λ hs. hop ∷ hs) (same hop.parent is right)

-- hops that come to the end are all
enough : (ends : ℕ → Bool) (plan : Plan) (n d : ℕ) → ends d ≡ false → ends (end_of d (hops ends plan n d)) ≡ true
    → hops ends plan (suc n) d ≡ hops ends plan n d
enough ends plan zero d other right = cc
enough ends plan (suc n) d other right =
    same_more ends d (primary_of plan d) (hops ends plan (suc n)) (hops ends plan n) right (λ p other right. enough ends plan n p other right)

-- so the hops after the first are those of its parent
follow : (ends : ℕ → Bool) (plan : Plan) (n d : ℕ) (hop : Hop) → ends d ≡ false → primary_of plan d ≡ Some hop → ends (end_of d (hops ends plan n d)) ≡ true
    → hops ends plan n d ≡ hop ∷ (if ends hop.parent then [] else hops ends plan n hop.parent)
follow ends plan zero d hop other is right = cc
follow ends plan (suc n) d hop other is right =
    let right_there = subst (λ (found : Option Hop). ends (end_of d (first ends found (hops ends plan n))) ≡ true) is right in
    ap (λ found. first ends found (hops ends plan n)) is ∙ ap (λ hs. hop ∷ hs) (by_end (ends hop.parent) refl right_there)
  where
    by_end : (b : Bool) → ends hop.parent ≡ b → ends (end_of hop.parent (elim b [ true ↦ [] | false ↦ hops ends plan n hop.parent ])) ≡ true
        → (elim b [ true ↦ [] | false ↦ hops ends plan n hop.parent ]) ≡ (if b then [] else hops ends plan (suc n) hop.parent)
    by_end true is right = refl
    by_end false is right = sym (enough ends plan n hop.parent is right)

-- a row has its primary hop
hop_of_row : (row : Option PlanRow) → map_or row false (λ row. true) ≡ true → (hop : Hop) × (option_map (λ row. row.primary) row ≡ Some hop)
hop_of_row None there = cc
hop_of_row (Some row) there = (row.primary, refl)

row_of_hop : (row : Option PlanRow) (hop : Hop) → option_map (λ row. row.primary) row ≡ Some hop → map_or row false (λ row. true) ≡ true
row_of_hop None hop is = cc
row_of_hop (Some row) hop is = refl

-- just a member other than the root has a row
row_tests : (member root row : Bool) → (if member && not root then row else not row) ≡ true → row ≡ true → (member ≡ true) × (root ≡ false)
row_tests true false row right there = (refl, refl)
row_tests true true row right there = cc (not-true row right)
row_tests false root row right there = cc (not-true row right)

-- such a member has one
row_there : (member root row : Bool) → (if member && not root then row else not row) ≡ true → member ≡ true → root ≡ false → row ≡ true
row_there true false row right is other = right
row_there true true row right is other = cc
row_there false root row right is other = cc

-- a right hop
right_hop : (net : Network) (plan : Plan) (d : ℕ) (found : Option Hop) (hop : Hop) → found ≡ Some hop → hop_is_right net plan d found ≡ true
    → (is_member plan hop.parent ≡ true) × (joins net hop.link d hop.parent ≡ true)
right_hop net plan d found hop is right =
    let front : (is_member plan hop.parent && is_present plan hop.link && joins net hop.link d hop.parent) ≡ true =
    subst (λ (o : Option Hop). hop_is_right net plan d o ≡ true) is right in
    let (two, joined) = and_parts (is_member plan hop.parent && is_present plan hop.link) (joins net hop.link d hop.parent) front in
    let (member, present) = and_parts (is_member plan hop.parent) (is_present plan hop.link) two in
    (member, joined)

-- without a hop there is no walk
no_walk : (root : Bool) (ends : ℕ → Bool) (plan : Plan) (n d : ℕ) → primary_of plan d ≡ None → (if root then [] else hops ends plan n d) ≡ []
no_walk true ends plan n d none = refl
no_walk false ends plan zero d none = refl
no_walk false ends plan (suc n) d none = ap (λ found. first ends found (hops ends plan n)) none

-- the walk of a device other than the root is its hops
pub other_walk : (net : Network) (plan : Plan) (d : ℕ) → is_root plan d ≡ false → walk net plan d ≡ hops (is_root plan) plan net.params.depth d
other_walk net plan d other = ap (λ (root : Bool). if root then [] else hops (is_root plan) plan net.params.depth d) other

-- a plan without a breach
pub forest_of : (net : Network) (plan : Plan) → Fits net plan → structure_breach net plan ≡ None → IsForest net plan
forest_of net plan fits structured =
    let rules = keeps_rules net plan structured in
    record {
      up = λ d hop within is. step rules d hop within is;
      top = λ d none. no_walk (is_root plan d) (is_root plan) plan net.params.depth d none;
      hop = λ d within member other. hop_of_row (row_of plan d)
          (row_there (is_member plan d) (is_root plan d) (has_row plan d) (rules.rows d within) member other);
      outside = λ d past. ap (λ o. option_map (λ row. row.primary) (map_or o None (λ row. row))) (slice_get_past plan.rows d (omega (arith, fits.entries)));
      root = fits.root;
      member = rules.root;
    }
  where
    step : KeepsRules net plan → (d : ℕ) (hop : Hop) → d < length net.devices → primary_of plan d ≡ Some hop → IsStep net plan d hop
    step rules d hop within is =
        let (member, other) = row_tests (is_member plan d) (is_root plan d) (has_row plan d) (rules.rows d within) (row_of_hop (row_of plan d) hop is) in
        let (primary, backup) = and_parts (hop_is_right net plan d (primary_of plan d)) (hop_is_right net plan d (backup_of plan d)) (rules.hops d within) in
        let (above, joined) = right_hop net plan d (primary_of plan d) hop is primary in
        let there = primary_within net plan d hop fits.rows is in
        let reached : is_root plan (end_of d (walk net plan d)) ≡ true =
        subst (λ (b : Bool). (not b || is_root plan (end_of d (walk net plan d))) ≡ true) member (rules.reaches d within) in
        let right : is_root plan (end_of d (hops (is_root plan) plan net.params.depth d)) ≡ true =
        subst (λ (hs : List Hop). is_root plan (end_of d hs) ≡ true) (other_walk net plan d other) reached in
        record {
          within = there.0;
          link = there.1;
          joined = joined;
          above = above;
          below = member;
          other = other;
          walk = other_walk net plan d other ∙ follow (is_root plan) plan net.params.depth d hop other is right;
        }

-- along the walks: what holds where they end, and of a device if it holds of its parent
pub climb : (net : Network) (plan : Plan) → IsForest net plan → (P : ℕ → Type 0)
    → ((d : ℕ) → d < length net.devices → primary_of plan d ≡ None → P d)
    → ((d : ℕ) (hop : Hop) → d < length net.devices → primary_of plan d ≡ Some hop → IsStep net plan d hop → P hop.parent → P d)
    → (d : ℕ) → d < length net.devices → P d
climb net plan forest P top up d within = within_height net plan forest P top up (height net plan d) d within (omega arith)
  where
    within_height : (net : Network) (plan : Plan) → IsForest net plan → (P : ℕ → Type 0)
        → ((d : ℕ) → d < length net.devices → primary_of plan d ≡ None → P d)
        → ((d : ℕ) (hop : Hop) → d < length net.devices → primary_of plan d ≡ Some hop → IsStep net plan d hop → P hop.parent → P d)
        → (n d : ℕ) → d < length net.devices → height net plan d ≤ n → P d
    within_height net plan forest P top up zero d within most =
        by_option (primary_of plan d) (P d) (top d within) (λ hop is. (let long = ap length (forest.up d hop within is).walk in absurd (omega arith)))
    within_height net plan forest P top up (suc n) d within most =
        by_option (primary_of plan d) (P d) (top d within) (λ hop is.
        let step = forest.up d hop within is in
        let long = ap length step.walk in
        up d hop within is step (within_height net plan forest P top up n hop.parent step.within (omega arith)))

pub or_none : (b : Bool) → (b || false) ≡ b
or_none true = refl
or_none false = refl

-- a walk of no hop has the device alone
pub on_top : (net : Network) (plan : Plan) (d x : ℕ) → walk net plan d ≡ [] → on_walk net plan d x ≡ nat_eq x d
on_top net plan d x none = ap (λ hs. has (devices_of d hs) x) none ∙ or_none (nat_eq x d)

-- another one has the device and the walk of its parent
pub on_up : (net : Network) (plan : Plan) (d x : ℕ) (hop : Hop) → walk net plan d ≡ hop ∷ walk net plan hop.parent
    → on_walk net plan d x ≡ (nat_eq x d || on_walk net plan hop.parent x)
on_up net plan d x hop more = ap (λ hs. has (devices_of d hs) x) more

-- a device is on its own walk
pub on_itself : (net : Network) (plan : Plan) (d : ℕ) → on_walk net plan d d ≡ true
on_itself net plan d = ap (λ b. b || list_any (nat_eq d) (map (λ hop. hop.parent) (walk net plan d))) (eq-eqb d d refl)

-- what is on a walk is its beginning or lies nearer to the root
pub nearer : (net : Network) (plan : Plan) → IsForest net plan → (x d : ℕ) → d < length net.devices → on_walk net plan d x ≡ true
    → (x ≡ d) ⊎ (height net plan x < height net plan d)
nearer net plan forest x = climb net plan forest (λ d. on_walk net plan d x ≡ true → (x ≡ d) ⊎ (height net plan x < height net plan d))
    (λ d within none on. inl (eqb-true x d (sym (on_top net plan d x (forest.top d none)) ∙ on)))
    (λ d hop within is step above on.
    let long = ap length step.walk in
    elim (or_cases (nat_eq x d) (on_walk net plan hop.parent x) (sym (on_up net plan d x hop step.walk) ∙ on)) [
      | inl here ↦ inl (eqb-true x d here)
      | inr there ↦ inr (elim (above there) [ inl same ↦ (let equal = ap (height net plan) same in omega arith) | inr less ↦ omega arith ])
    ])

-- it is a device
pub on_within : (net : Network) (plan : Plan) → IsForest net plan → (x d : ℕ) → d < length net.devices → on_walk net plan d x ≡ true → x < length net.devices
on_within net plan forest x = climb net plan forest (λ d. on_walk net plan d x ≡ true → x < length net.devices)
    (λ d within none on. (let same = eqb-true x d (sym (on_top net plan d x (forest.top d none)) ∙ on) in omega arith))
    (λ d hop within is step above on.
    elim (or_cases (nat_eq x d) (on_walk net plan hop.parent x) (sym (on_up net plan d x hop step.walk) ∙ on)) [
      | inl here ↦ (let same = eqb-true x d here in omega arith)
      | inr there ↦ above there
    ])

-- of a member it is a member
pub on_member : (net : Network) (plan : Plan) → IsForest net plan → (x d : ℕ) → d < length net.devices → is_member plan d ≡ true → on_walk net plan d x ≡ true
    → is_member plan x ≡ true
on_member net plan forest x = climb net plan forest (λ d. is_member plan d ≡ true → on_walk net plan d x ≡ true → is_member plan x ≡ true)
    (λ d within none member on. subst (λ y. is_member plan y ≡ true) (sym (eqb-true x d (sym (on_top net plan d x (forest.top d none)) ∙ on))) member)
    (λ d hop within is step above member on.
    elim (or_cases (nat_eq x d) (on_walk net plan hop.parent x) (sym (on_up net plan d x hop step.walk) ∙ on)) [
      | inl here ↦ subst (λ y. is_member plan y ≡ true) (sym (eqb-true x d here)) member
      | inr there ↦ above step.above there
    ])

-- the root is on the walk of each member
pub on_root : (net : Network) (plan : Plan) → IsForest net plan → (d : ℕ) → d < length net.devices → is_member plan d ≡ true
    → on_walk net plan d plan.root ≡ true
on_root net plan forest = climb net plan forest (λ d. is_member plan d ≡ true → on_walk net plan d plan.root ≡ true)
    (λ d within none member.
    elim (cases_Bool (is_root plan d)) [
      | inl root ↦ (on_top net plan d plan.root (forest.top d none) ∙ root)
      | inr other ↦ (let (hop, is) = forest.hop d within member other in cc)
    ])
    (λ d hop within is step above member. on_up net plan d plan.root hop step.walk
    ∙ or_right (nat_eq plan.root d) (on_walk net plan hop.parent plan.root) (above step.above))

-- what is on the walk of a device on a walk is on this
pub on_through : (net : Network) (plan : Plan) → IsForest net plan → (x a b : ℕ) → x < length net.devices → on_walk net plan x a ≡ true
    → on_walk net plan a b ≡ true → on_walk net plan x b ≡ true
on_through net plan forest x a b within = climb net plan forest (λ x. on_walk net plan x a ≡ true → on_walk net plan a b ≡ true → on_walk net plan x b ≡ true)
    (λ x within none first second. subst (λ y. on_walk net plan y b ≡ true) (eqb-true a x (sym (on_top net plan x a (forest.top x none)) ∙ first)) second)
    (λ x hop within is step above first second.
    elim (or_cases (nat_eq a x) (on_walk net plan hop.parent a) (sym (on_up net plan x a hop step.walk) ∙ first)) [
      | inl here ↦ subst (λ y. on_walk net plan y b ≡ true) (eqb-true a x here) second
      | inr there ↦ (on_up net plan x b hop step.walk ∙ or_right (nat_eq b x) (on_walk net plan hop.parent b) (above there second))
    ])
    x within

-- two devices of a walk that lie as far from the root are one
pub on_level : (net : Network) (plan : Plan) → IsForest net plan → (x a b : ℕ) → x < length net.devices → height net plan a ≡ height net plan b
    → on_walk net plan x a ≡ true → on_walk net plan x b ≡ true → a ≡ b
on_level net plan forest x a b within level = climb net plan forest (λ x. on_walk net plan x a ≡ true → on_walk net plan x b ≡ true → a ≡ b)
    (λ x within none first second.
    eqb-true a x (sym (on_top net plan x a (forest.top x none)) ∙ first) ∙ sym (eqb-true b x (sym (on_top net plan x b (forest.top x none)) ∙ second)))
    (λ x hop within is step above first second.
    let long = ap length step.walk in
    elim (or_cases (nat_eq a x) (on_walk net plan hop.parent a) (sym (on_up net plan x a hop step.walk) ∙ first)) [
      | inl here ↦
          elim (nearer net plan forest b x within second) [
            | inl same ↦ (eqb-true a x here ∙ sym same)
            | inr less ↦ (let same = ap (height net plan) (eqb-true a x here) in absurd (omega arith))
          ]
      | inr there ↦
          elim (or_cases (nat_eq b x) (on_walk net plan hop.parent b) (sym (on_up net plan x b hop step.walk) ∙ second)) [
            | inl here ↦
                elim (nearer net plan forest a x within first) [
                  | inl same ↦ (same ∙ sym (eqb-true b x here))
                  | inr less ↦ (let same = ap (height net plan) (eqb-true b x here) in absurd (omega arith))
                ]
            | inr beside ↦ above there beside
          ]
    ])
    x within

-- a device is not on the walk of its parent
pub not_above : (net : Network) (plan : Plan) → IsForest net plan → (d : ℕ) (hop : Hop) → IsStep net plan d hop → on_walk net plan hop.parent d ≡ false
not_above net plan forest d hop step =
    false_from_ne_true (on_walk net plan hop.parent d) (λ on.
    let long = ap length step.walk in
    elim (nearer net plan forest d hop.parent step.within on) [ inl same ↦ (let equal = ap (height net plan) same in omega arith) | inr less ↦ omega arith ])

-- of two devices just one can lie above the other
pub one_above : (net : Network) (plan : Plan) → IsForest net plan → (a b : ℕ) → a < length net.devices → b < length net.devices → on_walk net plan a b ≡ true
    → on_walk net plan b a ≡ true → a ≡ b
one_above net plan forest a b first second below above =
    elim (nearer net plan forest b a first below) [
      | inl same ↦ sym same
      | inr less ↦ elim (nearer net plan forest a b second above) [ inl same ↦ same | inr more ↦ absurd (omega arith) ]
    ]

-- what goes over a link
pub hop_over : (plan : Plan) (l d : ℕ) → goes_over plan l d ≡ true → (hop : Hop) × (primary_of plan d ≡ Some hop) × (hop.link ≡ l)
hop_over plan l d goes =
    by_option (primary_of plan d) ((hop : Hop) × (primary_of plan d ≡ Some hop) × (hop.link ≡ l))
    (λ none. absurd (no_hop (primary_of plan d) none goes))
    (λ hop is. (hop, is, eqb-true hop.link l (subst (λ (o : Option Hop). map_or o false (λ hop. nat_eq hop.link l) ≡ true) is goes)))
  where
    no_hop : (o : Option Hop) → o ≡ None → map_or o false (λ hop. nat_eq hop.link l) ≡ true → ⊥
    no_hop None none goes = cc
    no_hop (Some hop) none goes = cc

-- no two devices' hops go over one link
pub one_over_link : (net : Network) (plan : Plan) → IsForest net plan → (l c d : ℕ) → c < length net.devices → d < length net.devices
    → goes_over plan l c ≡ true → goes_over plan l d ≡ true → c ≡ d
one_over_link net plan forest l c d first second one two =
    let (hop, is, over) = hop_over plan l c one in
    let (other, here, also) = hop_over plan l d two in
    let step = forest.up c hop first is in
    let beside = forest.up d other second here in
    let long = ap length step.walk in
    let far = ap length beside.walk in
    let joined : joins net l c hop.parent ≡ true = subst (λ m. joins net m c hop.parent ≡ true) over step.joined in
    let joined_too : joins net l d other.parent ≡ true = subst (λ m. joins net m d other.parent ≡ true) also beside.joined in
    elim (ends_are (link_of net l).end_a (link_of net l).end_b c hop.parent joined) [
      | inl p ↦
          elim (ends_are (link_of net l).end_a (link_of net l).end_b d other.parent joined_too) [
            | inl q ↦ (sym p.0 ∙ q.0)
            | inr q ↦ absurd (crossed c d hop.parent other.parent (sym q.1 ∙ p.1) (sym p.0 ∙ q.0) long far)
          ]
      | inr p ↦
          elim (ends_are (link_of net l).end_a (link_of net l).end_b d other.parent joined_too) [
            | inl q ↦ absurd (crossed c d hop.parent other.parent (sym q.0 ∙ p.0) (sym p.1 ∙ q.1) long far)
            | inr q ↦ (sym p.1 ∙ q.1)
          ]
    ]
  where
    crossed : (c d up over : ℕ) → d ≡ up → c ≡ over → height net plan c ≡ suc (height net plan up) → height net plan d ≡ suc (height net plan over) → ⊥
    crossed c d up over same also long far =
        let one = ap (height net plan) same in
        let two = ap (height net plan) also in
        omega arith

-- nothing after an end
abbrev pub until : Bool → List Hop → List Hop
until b hs = elim b [ true ↦ [] | false ↦ hs ]

until_most : (n : ℕ) (b : Bool) (hs : List Hop) → length hs ≤ n → length (until b hs) ≤ n
until_most n true hs most = omega arith
until_most n false hs most = most

-- hops are as many as asked for at most
pub most_hops : (ends : ℕ → Bool) (plan : Plan) (n d : ℕ) → length (hops ends plan n d) ≤ n
most_hops ends plan zero d = omega arith
most_hops ends plan (suc n) d = by_hop (primary_of plan d) (λ p. most_hops ends plan n p)
  where
    by_hop : (o : Option Hop) → ((p : ℕ) → length (hops ends plan n p) ≤ n) → length (first ends o (hops ends plan n)) ≤ suc n
    by_hop None most = omega arith
    by_hop (Some hop) most = let tail : length (until (ends hop.parent) (hops ends plan n hop.parent)) ≤ n =
        until_most n (ends hop.parent) (hops ends plan n hop.parent) (most hop.parent) in omega arith

-- no device lies deeper than the network allows
pub height_most : (net : Network) (plan : Plan) (d : ℕ) → height net plan d ≤ net.params.depth
height_most net plan d = by_root (is_root plan d)
  where
    by_root : (b : Bool) → length (if b then [] else hops (is_root plan) plan net.params.depth d) ≤ net.params.depth
    by_root true = omega arith
    by_root false = most_hops (is_root plan) plan net.params.depth d

-- what walks to a device is a device
pub on_inside : (net : Network) (plan : Plan) → IsForest net plan → (x d : ℕ) → d < length net.devices → on_walk net plan x d ≡ true → x < length net.devices
on_inside net plan forest x d within on =
    elim (cases_lt x (length net.devices)) [
      | inl less ↦ less
      | inr past ↦ (let same = eqb-true d x (sym (on_top net plan x d (forest.top x (forest.outside x past))) ∙ on) in omega arith)
    ]

-- a device on whose walk the root is is a member
pub rooted_member : (net : Network) (plan : Plan) → IsForest net plan → (d : ℕ) → d < length net.devices → on_walk net plan d plan.root ≡ true
    → is_member plan d ≡ true
rooted_member net plan forest d within on =
    by_option (primary_of plan d) (is_member plan d ≡ true)
    (λ none. subst (λ x. is_member plan x ≡ true) (eqb-true plan.root d (sym (on_top net plan d plan.root (forest.top d none)) ∙ on)) forest.member)
    (λ hop is. (forest.up d hop within is).below)
