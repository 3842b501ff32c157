-- What a walk has before and with the backup root.
use Rattle.std.proofs.Common.{◌≡◌, ℕ, zero, suc, ◌<◌, inl, inr, Bool, true, false, ◌&&◌, ◌||◌, not, if◌then◌else◌, List, [], ◌∷◌, length, map, get_or, Option, Some, None, nat_eq, refl, sym, ap, ◌∙◌, subst, arith}
use Rattle.std.specs.List.{slice_get}
use Rattle.std.proofs.lemmas.Option.{slice_get-get_or}
use Rattle.sd_plan.specs.IndexView.{IsSomeBelow}
use Rattle.std.proofs.lemmas.Bool.{or_cases, or_left, or_right, and_left, and_right, not_from_true, not_from_false, not-true, eqb-true, eq-eqb, ne_eqb, cases_eq, cases_Bool, false_from_ne_true}
use Rattle.sd_num.specs.Lists.{has, map_or}
use Rattle.sd_plan.specs.topo.Network.{Network, Each}
use Rattle.sd_plan.specs.Plans.{is_member, is_root, is_backup_root, primary_of}
use Rattle.sd_plan.specs.Walks.{hops, walk, epath, path, things_of, on_walk, ends_walks}
use Rattle.sd_plan.specs.IndexedPlan.{IndexedPlan, IsIndexOf, goes_over, carried_over, has_device, has_link, stands_below, is_cut_before}
use Rattle.sd_plan.specs.declared.Hop.{Hop}
use Rattle.sd_plan.specs.declared.Plan.{Plan}
use Rattle.sd_plan.proofs.Numbered.{none_found, found_passes, get_or-numbered, length-numbered}
use Rattle.sd_plan.proofs.Forest.{IsForest, IsStep, forest_of, by_option, climb, other_walk, on_top, on_up, on_itself, on_member, not_above, one_above, one_over_link, hop_over, until}

-- hops cut at the first that leads to an end
abbrev cut : (ℕ → Bool) → List Hop → List Hop
cut ends [] = []
cut ends (h ∷ hs) = h ∷ (elim (ends h.parent) [ true ↦ [] | false ↦ cut ends hs ])

-- a hop and those that follow it
abbrev begin : (ℕ → Bool) → Option Hop → (ℕ → List Hop) → List Hop
begin ends found more = elim found [ None ↦ [] | Some h ↦ h ∷ until (ends h.parent) (more h.parent) ]

-- the hops to either root are those to the root, cut
cut_hops : (plan : Plan) (n d : ℕ) → hops (ends_walks plan) plan n d ≡ cut (ends_walks plan) (hops (is_root plan) plan n d)
cut_hops plan zero d = refl
cut_hops plan (suc n) d = by_hop (λ p. cut_hops plan n p) (primary_of plan d)
  where
    by_root : ((p : ℕ) → hops (ends_walks plan) plan n p ≡ cut (ends_walks plan) (hops (is_root plan) plan n p)) → (root backup : Bool) (p : ℕ)
        → until (root || backup) (hops (ends_walks plan) plan n p) ≡ until (root || backup) (cut (ends_walks plan) (until root (hops (is_root plan) plan n p)))
    by_root more true backup p = refl
    by_root more false true p = refl
    by_root more false false p = more p

    by_hop : ((p : ℕ) → hops (ends_walks plan) plan n p ≡ cut (ends_walks plan) (hops (is_root plan) plan n p)) → (o : Option Hop)
        → begin (ends_walks plan) o (hops (ends_walks plan) plan n) ≡ cut (ends_walks plan) (begin (is_root plan) o (hops (is_root plan) plan n))
    by_hop more None = refl
    by_hop more (Some hop) = ap (λ hs. hop ∷ hs) (by_root more (is_root plan hop.parent) (is_backup_root plan hop.parent) hop.parent)

-- the cut path is the walk, cut
cut_path : (net : Network) (plan : Plan) (d : ℕ) → is_root plan d ≡ false → epath net plan d ≡ things_of (cut (ends_walks plan) (walk net plan d))
cut_path net plan d other =
    ap (λ (root : Bool). things_of (if root then [] else hops (ends_walks plan) plan net.params.depth d)) other
    ∙ ap things_of (cut_hops plan net.params.depth d)
    ∙ ap (λ hs. things_of (cut (ends_walks plan) hs)) (sym (other_walk net plan d other))

-- what a cut walk has the walk has
cut_has : (ends : ℕ → Bool) (hs : List Hop) (a : ℕ) → has_device (things_of (cut ends hs)) a ≡ true → has (map (λ hop. hop.parent) hs) a ≡ true
cut_has ends [] a there = there
cut_has ends (h ∷ hs) a there =
    elim (or_cases (nat_eq h.parent a) (has_device (things_of (elim (ends h.parent) [ true ↦ [] | false ↦ cut ends hs ])) a) there) [
      | inl here ↦ or_left (nat_eq a h.parent) (has (map (λ hop. hop.parent) hs) a) (eq-eqb a h.parent (sym (eqb-true h.parent a here)))
      | inr more ↦ or_right (nat_eq a h.parent) (has (map (λ hop. hop.parent) hs) a) (by_end (cut_has ends hs a) (ends h.parent) more)
    ]
  where
    by_end : (has_device (things_of (cut ends hs)) a ≡ true → has (map (λ hop. hop.parent) hs) a ≡ true) → (b : Bool)
        → has_device (things_of (elim b [ true ↦ [] | false ↦ cut ends hs ])) a ≡ true → has (map (λ hop. hop.parent) hs) a ≡ true
    by_end after true none = cc
    by_end after false more = after more

-- the walk of d comes to the backup root, after its beginning, before it comes to a
abbrev cut_off : Network → Plan → ℕ → ℕ → Bool
cut_off net plan d a = not (nat_eq d plan.backup_root) && on_walk net plan d plan.backup_root && not (on_walk net plan a plan.backup_root)

flip : (a b : ℕ) (v : Bool) → nat_eq a b ≡ v → nat_eq b a ≡ v
flip a b true same = eq-eqb b a (sym (eqb-true a b same))
flip a b false other = ne_eqb b a (λ same. absurd (cc (eq-eqb a b (sym same), other)))

-- nothing lies before the parent
not_cut_at_parent : (net : Network) (plan : Plan) (d : ℕ) (hop : Hop) → IsStep net plan d hop → cut_off net plan d hop.parent ≡ false
not_cut_at_parent net plan d hop step =
    elim (cases_eq d plan.backup_root) [
      | inl same ↦ ap (λ b. not b && on_walk net plan d plan.backup_root && not (on_walk net plan hop.parent plan.backup_root)) (eq-eqb d plan.backup_root same)
      | inr other ↦
          (ap (λ b. not b && on_walk net plan d plan.backup_root && not (on_walk net plan hop.parent plan.backup_root)) (ne_eqb d plan.backup_root other)
          ∙ ap (λ b. b && not (on_walk net plan hop.parent plan.backup_root))
          (on_up net plan d plan.backup_root hop step.walk
          ∙ ap (λ b. b || on_walk net plan hop.parent plan.backup_root) (flip d plan.backup_root false (ne_eqb d plan.backup_root other)))
          ∙ apart (on_walk net plan hop.parent plan.backup_root))
    ]
  where
    apart : (b : Bool) → (b && not b) ≡ false
    apart true = refl
    apart false = refl

-- a walk is cut after the parent where that of the parent is
same_cut : (net : Network) (plan : Plan) → IsForest net plan → (d a : ℕ) (hop : Hop) → IsStep net plan d hop → nat_eq hop.parent plan.backup_root ≡ false
    → cut_off net plan hop.parent a ≡ cut_off net plan d a
same_cut net plan forest d a hop step apart =
    ap (λ b. not b && on_walk net plan hop.parent plan.backup_root && not (on_walk net plan a plan.backup_root)) apart
    ∙ elim (cases_eq d plan.backup_root) [
      | inl same ↦
          (ap (λ b. b && not (on_walk net plan a plan.backup_root))
          (subst (λ x. on_walk net plan hop.parent x ≡ false) same (not_above net plan forest d hop step))
          ∙ sym (ap (λ b. not b && on_walk net plan d plan.backup_root && not (on_walk net plan a plan.backup_root)) (eq-eqb d plan.backup_root same)))
      | inr other ↦
          sym
          (ap (λ b. not b && on_walk net plan d plan.backup_root && not (on_walk net plan a plan.backup_root)) (ne_eqb d plan.backup_root other)
          ∙ ap (λ b. b && not (on_walk net plan a plan.backup_root))
          (on_up net plan d plan.backup_root hop step.walk
          ∙ ap (λ b. b || on_walk net plan hop.parent plan.backup_root) (flip d plan.backup_root false (ne_eqb d plan.backup_root other))))
    ]

-- where the parent is the backup root the walk is cut before all else above it
cut_there : (net : Network) (plan : Plan) → IsForest net plan → (d a : ℕ) (hop : Hop) → IsStep net plan d hop → a < length net.devices
    → nat_eq plan.backup_root hop.parent ≡ true → nat_eq a plan.backup_root ≡ false
    → on_walk net plan hop.parent a ≡ true → cut_off net plan d a ≡ true
cut_there net plan forest d a hop step within here apart on =
    let same : plan.backup_root ≡ hop.parent = eqb-true plan.backup_root hop.parent here in
    let above : on_walk net plan d plan.backup_root ≡ true =
    on_up net plan d plan.backup_root hop step.walk
    ∙ or_right (nat_eq plan.backup_root d) (on_walk net plan hop.parent plan.backup_root)
    (subst (λ x. on_walk net plan x plan.backup_root ≡ true) same (on_itself net plan plan.backup_root))
    in
    let behind : nat_eq d plan.backup_root ≡ false =
    ne_eqb d plan.backup_root
    (λ equal. absurd (cc (not_above net plan forest d hop step, subst (λ x. on_walk net plan x d ≡ true) (equal ∙ same) (on_itself net plan d))))
    in
    let before : on_walk net plan a plan.backup_root ≡ false =
    false_from_ne_true (on_walk net plan a plan.backup_root) (λ over.
    let equal = one_above net plan forest hop.parent a step.within within on (subst (λ x. on_walk net plan a x ≡ true) same over) in
    absurd (cc (eq-eqb a plan.backup_root (sym (same ∙ equal)), apart)))
    in
    ap (λ b. not b && on_walk net plan d plan.backup_root && not (on_walk net plan a plan.backup_root)) behind
    ∙ ap (λ b. b && not (on_walk net plan a plan.backup_root)) above ∙ ap not before

-- the root has no hop
no_root_hop : (net : Network) (plan : Plan) → IsForest net plan → primary_of plan plan.root ≡ None
no_root_hop net plan forest =
    by_option (primary_of plan plan.root) (primary_of plan plan.root ≡ None) (λ none. none) (λ hop is.
    let step = forest.up plan.root hop forest.root is in
    absurd (cc (step.other, eq-eqb plan.root plan.root refl)))

-- above the root is nothing
on_root_walk : (net : Network) (plan : Plan) → IsForest net plan → (d a : ℕ) → is_root plan d ≡ true → on_walk net plan d a ≡ nat_eq a d
on_root_walk net plan forest d a root =
    let same : plan.root ≡ d = eqb-true plan.root d root in
    on_top net plan d a (forest.top d (subst (λ x. primary_of plan x ≡ None) same (no_root_hop net plan forest)))

-- what the rest of a cut walk has
abbrev rest : Plan → Bool → List Hop → List Hop
rest plan b hs = elim b [ true ↦ [] | false ↦ cut (ends_walks plan) hs ]

-- a cut walk has the devices above its beginning that it comes to before the cut
pub devices_before : (net : Network) (plan : Plan) → IsForest net plan → (a : ℕ) → a < length net.devices → (d : ℕ) → d < length net.devices
    → (not (nat_eq d a) && (on_walk net plan d a && not (cut_off net plan d a))) ≡ has_device (things_of (cut (ends_walks plan) (walk net plan d))) a
devices_before net plan forest a inside = climb net plan forest
    (λ d. (not (nat_eq d a) && (on_walk net plan d a && not (cut_off net plan d a))) ≡ has_device (things_of (cut (ends_walks plan) (walk net plan d))) a)
    top up
  where
    top : (d : ℕ) → d < length net.devices → primary_of plan d ≡ None
        → (not (nat_eq d a) && (on_walk net plan d a && not (cut_off net plan d a))) ≡ has_device (things_of (cut (ends_walks plan) (walk net plan d))) a
    top d within none =
        elim (cases_eq d a) [
          | inl same ↦ and_left (not (nat_eq d a)) (on_walk net plan d a && not (cut_off net plan d a)) (not_from_true (nat_eq d a) (eq-eqb d a same))
          | inr other ↦
              and_right (not (nat_eq d a)) (on_walk net plan d a && not (cut_off net plan d a))
              (and_left (on_walk net plan d a) (not (cut_off net plan d a)) (on_top net plan d a (forest.top d none) ∙ flip d a false (ne_eqb d a other)))
        ]
        ∙ sym (ap (λ hs. has_device (things_of (cut (ends_walks plan) hs)) a) (forest.top d none))

    on_same : (d : ℕ) (hop : Hop) → IsStep net plan d hop → d ≡ a → has_device (things_of (cut (ends_walks plan) (hop ∷ walk net plan hop.parent))) a ≡ false
    on_same d hop step same =
        false_from_ne_true (has_device (things_of (cut (ends_walks plan) (hop ∷ walk net plan hop.parent))) a) (λ there.
        let on : on_walk net plan hop.parent a ≡ true = cut_has (ends_walks plan) (hop ∷ walk net plan hop.parent) a there in
        absurd (cc (not_above net plan forest d hop step, subst (λ x. on_walk net plan hop.parent x ≡ true) (sym same) on)))

    beyond : (d : ℕ) (hop : Hop) → IsStep net plan d hop → nat_eq hop.parent a ≡ false
        → ((not (nat_eq hop.parent a) && (on_walk net plan hop.parent a && not (cut_off net plan hop.parent a)))
        ≡ has_device (things_of (cut (ends_walks plan) (walk net plan hop.parent))) a)
        → (on_walk net plan hop.parent a && not (cut_off net plan d a))
        ≡ has_device (things_of (rest plan (is_root plan hop.parent || is_backup_root plan hop.parent) (walk net plan hop.parent))) a
    beyond d hop step apart above = by_root (is_root plan hop.parent) (is_backup_root plan hop.parent) refl refl
      where
        by_root : (root backup : Bool) → is_root plan hop.parent ≡ root → is_backup_root plan hop.parent ≡ backup
            → (on_walk net plan hop.parent a && not (cut_off net plan d a)) ≡ has_device (things_of (rest plan (root || backup) (walk net plan hop.parent))) a
        by_root true backup is also =
            and_left (on_walk net plan hop.parent a) (not (cut_off net plan d a)) (on_root_walk net plan forest hop.parent a is ∙ flip hop.parent a false apart)
        by_root false true is also =
            elim (cases_Bool (on_walk net plan hop.parent a)) [
              | inl on ↦
                  and_right (on_walk net plan hop.parent a) (not (cut_off net plan d a))
                  (not_from_true (cut_off net plan d a)
                  (cut_there net plan forest d a hop step inside also
                  (flip plan.backup_root a false (subst (λ x. nat_eq x a ≡ false) (sym (eqb-true plan.backup_root hop.parent also)) apart)) on))
              | inr off ↦ and_left (on_walk net plan hop.parent a) (not (cut_off net plan d a)) off
            ]
        by_root false false is also =
            ap (λ k. on_walk net plan hop.parent a && not k) (sym (same_cut net plan forest d a hop step (flip plan.backup_root hop.parent false also)))
            ∙ sym (ap (λ b. not b && (on_walk net plan hop.parent a && not (cut_off net plan hop.parent a))) apart) ∙ above

    up : (d : ℕ) (hop : Hop) → d < length net.devices → primary_of plan d ≡ Some hop → IsStep net plan d hop
        → ((not (nat_eq hop.parent a) && (on_walk net plan hop.parent a && not (cut_off net plan hop.parent a)))
        ≡ has_device (things_of (cut (ends_walks plan) (walk net plan hop.parent))) a)
        → (not (nat_eq d a) && (on_walk net plan d a && not (cut_off net plan d a))) ≡ has_device (things_of (cut (ends_walks plan) (walk net plan d))) a
    up d hop within is step above =
        elim (cases_eq d a) [
          | inl same ↦
              (and_left (not (nat_eq d a)) (on_walk net plan d a && not (cut_off net plan d a)) (not_from_true (nat_eq d a) (eq-eqb d a same))
              ∙ sym (on_same d hop step same))
          | inr other ↦
              (ap (λ b. not b && (on_walk net plan d a && not (cut_off net plan d a))) (ne_eqb d a other)
              ∙ ap (λ b. b && not (cut_off net plan d a)) (on_up net plan d a hop step.walk
              ∙ ap (λ b. b || on_walk net plan hop.parent a) (flip d a false (ne_eqb d a other)))
              ∙ elim (cases_eq hop.parent a) [
                | inl same ↦
                    (ap (λ b. b && not (cut_off net plan d a)) (subst (λ x. on_walk net plan hop.parent x ≡ true) same (on_itself net plan hop.parent))
                    ∙ ap not (subst (λ x. cut_off net plan d x ≡ false) same (not_cut_at_parent net plan d hop step))
                    ∙ sym (ap (λ b. b || has_device (things_of (rest plan (ends_walks plan hop.parent) (walk net plan hop.parent))) a)
                    (eq-eqb hop.parent a same)))
                | inr apart ↦
                    (beyond d hop step (ne_eqb hop.parent a apart) above
                    ∙ sym (ap (λ b. b || has_device (things_of (rest plan (ends_walks plan hop.parent) (walk net plan hop.parent))) a)
                    (ne_eqb hop.parent a apart)))
              ])
        ]
        ∙ sym (ap (λ hs. has_device (things_of (cut (ends_walks plan) hs)) a) step.walk)

-- a device that goes over a link is the one that is carried there
at_child : (net : Network) (plan : Plan) → IsForest net plan → (l child d : ℕ) (hop : Hop) → child < length net.devices → goes_over plan l child ≡ true
    → d < length net.devices → primary_of plan d ≡ Some hop → nat_eq hop.link l ≡ nat_eq d child
at_child net plan forest l child d hop there goes within is =
    let goes_d : goes_over plan l d ≡ nat_eq hop.link l = ap (λ o. map_or o false (λ hop. nat_eq hop.link l)) is in
    elim (cases_eq d child) [
      | inl same ↦ (sym goes_d ∙ subst (λ x. goes_over plan l x ≡ true) (sym same) goes ∙ sym (eq-eqb d child same))
      | inr other ↦
          (sym goes_d ∙ false_from_ne_true (goes_over plan l d) (λ over. other (one_over_link net plan forest l d child within there over goes))
          ∙ sym (ne_eqb d child other))
    ]

-- what is carried over a link has a hop
child_hop : (plan : Plan) (l child : ℕ) → goes_over plan l child ≡ true → primary_of plan child ≡ None → ⊥
child_hop plan l child goes none = let (hop, is, over) = hop_over plan l child goes in cc

-- a cut walk has the links that carry its devices, up to the cut
pub link_before : (net : Network) (plan : Plan) → IsForest net plan → (l child : ℕ) → child < length net.devices → goes_over plan l child ≡ true → (d : ℕ)
    → d < length net.devices
    → ((nat_eq d child || not (nat_eq child plan.backup_root)) && (on_walk net plan d child && not (cut_off net plan d child)))
    ≡ has_link (things_of (cut (ends_walks plan) (walk net plan d))) l
link_before net plan forest l child inside goes = climb net plan forest
    (λ d. ((nat_eq d child || not (nat_eq child plan.backup_root)) && (on_walk net plan d child && not (cut_off net plan d child)))
    ≡ has_link (things_of (cut (ends_walks plan) (walk net plan d))) l)
    top up
  where
    top : (d : ℕ) → d < length net.devices → primary_of plan d ≡ None
        → ((nat_eq d child || not (nat_eq child plan.backup_root)) && (on_walk net plan d child && not (cut_off net plan d child)))
        ≡ has_link (things_of (cut (ends_walks plan) (walk net plan d))) l
    top d within none =
        let apart : nat_eq child d ≡ false = ne_eqb child d (λ same. child_hop plan l child goes (subst (λ x. primary_of plan x ≡ None) (sym same) none)) in
        and_right (nat_eq d child || not (nat_eq child plan.backup_root)) (on_walk net plan d child && not (cut_off net plan d child))
        (and_left (on_walk net plan d child) (not (cut_off net plan d child)) (on_top net plan d child (forest.top d none) ∙ apart))
        ∙ sym (ap (λ hs. has_link (things_of (cut (ends_walks plan) hs)) l) (forest.top d none))

    not_cut_itself : (x y : Bool) → not (not x && y && not y) ≡ true
    not_cut_itself true y = refl
    not_cut_itself false true = refl
    not_cut_itself false false = refl

    beyond : (d : ℕ) (hop : Hop) → IsStep net plan d hop
        → (((nat_eq hop.parent child || not (nat_eq child plan.backup_root)) && (on_walk net plan hop.parent child && not (cut_off net plan hop.parent child)))
        ≡ has_link (things_of (cut (ends_walks plan) (walk net plan hop.parent))) l)
        → (not (nat_eq child plan.backup_root) && (on_walk net plan hop.parent child && not (cut_off net plan d child)))
        ≡ has_link (things_of (rest plan (is_root plan hop.parent || is_backup_root plan hop.parent) (walk net plan hop.parent))) l
    beyond d hop step above = by_root (is_root plan hop.parent) (is_backup_root plan hop.parent) refl refl
      where
        by_root : (root backup : Bool) → is_root plan hop.parent ≡ root → is_backup_root plan hop.parent ≡ backup
            → (not (nat_eq child plan.backup_root) && (on_walk net plan hop.parent child && not (cut_off net plan d child)))
            ≡ has_link (things_of (rest plan (root || backup) (walk net plan hop.parent))) l
        by_root true backup is also =
            let apart : nat_eq child hop.parent ≡ false =
            ne_eqb child hop.parent (λ same.
            child_hop plan l child goes (subst (λ x. primary_of plan x ≡ None) (eqb-true plan.root hop.parent is ∙ sym same) (no_root_hop net plan forest)))
            in
            and_right (not (nat_eq child plan.backup_root)) (on_walk net plan hop.parent child && not (cut_off net plan d child))
            (and_left (on_walk net plan hop.parent child) (not (cut_off net plan d child)) (on_root_walk net plan forest hop.parent child is ∙ apart))
        by_root false true is also =
            elim (cases_Bool (on_walk net plan hop.parent child)) [
              | inl on ↦
                  elim (cases_eq child plan.backup_root) [
                    | inl same ↦ and_left (not (nat_eq child plan.backup_root)) (on_walk net plan hop.parent child && not (cut_off net plan d child))
                        (not_from_true (nat_eq child plan.backup_root) (eq-eqb child plan.backup_root same))
                    | inr other ↦
                        and_right (not (nat_eq child plan.backup_root)) (on_walk net plan hop.parent child && not (cut_off net plan d child))
                        (and_right (on_walk net plan hop.parent child) (not (cut_off net plan d child))
                        (not_from_true (cut_off net plan d child)
                        (cut_there net plan forest d child hop step inside also (ne_eqb child plan.backup_root other) on)))
                  ]
              | inr off ↦
                  and_right (not (nat_eq child plan.backup_root)) (on_walk net plan hop.parent child && not (cut_off net plan d child))
                  (and_left (on_walk net plan hop.parent child) (not (cut_off net plan d child)) off)
            ]
        by_root false false is also =
            ap (λ b. b && (on_walk net plan hop.parent child && not (cut_off net plan d child))) (sym free)
            ∙ ap (λ k. (nat_eq hop.parent child || not (nat_eq child plan.backup_root)) && (on_walk net plan hop.parent child && not k))
            (sym (same_cut net plan forest d child hop step (flip plan.backup_root hop.parent false also)))
            ∙ above
          where
            free : (nat_eq hop.parent child || not (nat_eq child plan.backup_root)) ≡ not (nat_eq child plan.backup_root)
            free =
                elim (cases_eq hop.parent child) [
                  | inl same ↦
                      (or_left (nat_eq hop.parent child) (not (nat_eq child plan.backup_root)) (eq-eqb hop.parent child same)
                      ∙ sym (not_from_false (nat_eq child plan.backup_root)
                      (subst (λ x. nat_eq x plan.backup_root ≡ false) same (flip plan.backup_root hop.parent false also))))
                  | inr other ↦ ap (λ b. b || not (nat_eq child plan.backup_root)) (ne_eqb hop.parent child other)
                ]

    up : (d : ℕ) (hop : Hop) → d < length net.devices → primary_of plan d ≡ Some hop → IsStep net plan d hop
        → (((nat_eq hop.parent child || not (nat_eq child plan.backup_root)) && (on_walk net plan hop.parent child && not (cut_off net plan hop.parent child)))
        ≡ has_link (things_of (cut (ends_walks plan) (walk net plan hop.parent))) l)
        → ((nat_eq d child || not (nat_eq child plan.backup_root)) && (on_walk net plan d child && not (cut_off net plan d child)))
        ≡ has_link (things_of (cut (ends_walks plan) (walk net plan d))) l
    up d hop within is step above =
        elim (cases_eq d child) [
          | inl same ↦
              (ap (λ b. (b || not (nat_eq child plan.backup_root)) && (on_walk net plan d child && not (cut_off net plan d child))) (eq-eqb d child same)
              ∙ ap (λ b. b && not (cut_off net plan d child)) (subst (λ x. on_walk net plan d x ≡ true) same (on_itself net plan d))
              ∙ subst (λ x. not (cut_off net plan d x) ≡ true) same (not_cut_itself (nat_eq d plan.backup_root) (on_walk net plan d plan.backup_root))
              ∙ sym (or_left (nat_eq hop.link l) (has_link (things_of (rest plan (ends_walks plan hop.parent) (walk net plan hop.parent))) l)
              (at_child net plan forest l child d hop inside goes within is ∙ eq-eqb d child same)))
          | inr other ↦
              (ap (λ b. (b || not (nat_eq child plan.backup_root)) && (on_walk net plan d child && not (cut_off net plan d child))) (ne_eqb d child other)
              ∙ ap (λ b. not (nat_eq child plan.backup_root) && (b && not (cut_off net plan d child)))
              (on_up net plan d child hop step.walk ∙ ap (λ b. b || on_walk net plan hop.parent child) (flip d child false (ne_eqb d child other)))
              ∙ beyond d hop step above
              ∙ sym (ap (λ b. b || has_link (things_of (rest plan (ends_walks plan hop.parent) (walk net plan hop.parent))) l)
              (at_child net plan forest l child d hop inside goes within is ∙ ne_eqb d child other)))
        ]
        ∙ sym (ap (λ hs. has_link (things_of (cut (ends_walks plan) hs)) l) step.walk)

-- a walk has the links that carry its devices
pub link_on : (net : Network) (plan : Plan) → IsForest net plan → (l child : ℕ) → child < length net.devices → goes_over plan l child ≡ true → (d : ℕ)
    → d < length net.devices
    → on_walk net plan d child ≡ has_link (things_of (walk net plan d)) l
link_on net plan forest l child inside goes = climb net plan forest (λ d. on_walk net plan d child ≡ has_link (things_of (walk net plan d)) l)
    (λ d within none.
    on_top net plan d child (forest.top d none) ∙ ne_eqb child d (λ same. child_hop plan l child goes (subst (λ x. primary_of plan x ≡ None) (sym same) none))
    ∙ sym (ap (λ hs. has_link (things_of hs) l) (forest.top d none)))
    (λ d hop within is step above.
    on_up net plan d child hop step.walk
    ∙ ap (λ b. b || on_walk net plan hop.parent child) (flip d child (nat_eq d child) refl ∙ sym (at_child net plan forest l child d hop inside goes within is))
    ∙ ap (λ b. nat_eq hop.link l || b) above ∙ sym (ap (λ hs. has_link (things_of hs) l) step.walk))

-- a link that nobody's hop goes over is on no walk
pub link_off : (net : Network) (plan : Plan) → IsForest net plan → (l : ℕ) → ((x : ℕ) → x < length net.devices → goes_over plan l x ≡ false) → (d : ℕ)
    → d < length net.devices → has_link (things_of (walk net plan d)) l ≡ false
link_off net plan forest l nobody = climb net plan forest (λ d. has_link (things_of (walk net plan d)) l ≡ false)
    (λ d within none. ap (λ hs. has_link (things_of hs) l) (forest.top d none))
    (λ d hop within is step above.
    ap (λ hs. has_link (things_of hs) l) step.walk
    ∙ ap (λ b. b || has_link (things_of (walk net plan hop.parent)) l) (sym (ap (λ o. map_or o false (λ hop. nat_eq hop.link l)) is) ∙ nobody d within)
    ∙ above)

-- nor on a cut one
pub cut_link_off : (plan : Plan) (hs : List Hop) (l : ℕ) → has_link (things_of hs) l ≡ false → has_link (things_of (cut (ends_walks plan) hs)) l ≡ false
cut_link_off plan [] l off = refl
cut_link_off plan (h ∷ hs) l off = by_test (cut_link_off plan hs l) (nat_eq h.link l) off
  where
    by_end : (has_link (things_of hs) l ≡ false → has_link (things_of (cut (ends_walks plan) hs)) l ≡ false) → (b : Bool) → has_link (things_of hs) l ≡ false
        → has_link (things_of (elim b [ true ↦ [] | false ↦ cut (ends_walks plan) hs ])) l ≡ false
    by_end after true off = refl
    by_end after false off = after off

    by_test : (has_link (things_of hs) l ≡ false → has_link (things_of (cut (ends_walks plan) hs)) l ≡ false) → (b : Bool)
        → (b || has_link (things_of hs) l) ≡ false
        → (b || has_link (things_of (elim (ends_walks plan h.parent) [ true ↦ [] | false ↦ cut (ends_walks plan) hs ])) l) ≡ false
    by_test after true off = cc
    by_test after false off = by_end after (ends_walks plan h.parent) off

-- the numbers of an index say what the walks do
below_is : (net : Network) (plan : Plan) (index : IndexedPlan) → IsIndexOf net plan index → (d a : ℕ) → d < length net.devices → a < length net.devices
    → is_member plan d ≡ true
    → (stands_below index d a && not (is_cut_before index d a)) ≡ (on_walk net plan d a && not (cut_off net plan d a))
below_is net plan index law d a within inside member =
    let forest = forest_of net plan law.fits law.structured in
    let root : index.backup_root ≡ plan.backup_root = law.backup_root in
    let there : plan.backup_root < length net.devices = law.fits.backup_root in
    let here : stands_below index d a ≡ on_walk net plan d a = law.below d a within inside member in
    elim (cases_Bool (on_walk net plan d a)) [
      | inl on ↦
          (let above = on_member net plan forest a d within member on in
          let same : is_cut_before index d a ≡ cut_off net plan d a =
          ap (λ r. not (nat_eq d r) && stands_below index d r && not (stands_below index a r)) root
          ∙ ap (λ b. not (nat_eq d plan.backup_root) && b && not (stands_below index a plan.backup_root)) (law.below d plan.backup_root within there member)
          ∙ ap (λ b. not (nat_eq d plan.backup_root) && on_walk net plan d plan.backup_root && not b) (law.below a plan.backup_root inside there above)
          in
          ap (λ b. b && not (is_cut_before index d a)) here ∙ ap (λ b. on_walk net plan d a && not b) same)
      | inr off ↦
          (and_left (stands_below index d a) (not (is_cut_before index d a)) (here ∙ off)
          ∙ sym (and_left (on_walk net plan d a) (not (cut_off net plan d a)) off))
    ]

-- by these numbers, whether a cut path has a device
pub has_device_by : (net : Network) (plan : Plan) (index : IndexedPlan) (d a : ℕ) → IsIndexOf net plan index → d < length index.spans → a < length index.spans
    → is_member plan d ≡ true → not (is_root plan d) ≡ true
    → (not (nat_eq d a) && (stands_below index d a && not (is_cut_before index d a))) ≡ has_device (epath net plan d) a
has_device_by net plan index d a law within inside member other =
    let forest = forest_of net plan law.fits law.structured in
    let size : length index.spans ≡ length net.devices = law.spans in
    let first : d < length net.devices = omega arith in
    let second : a < length net.devices = omega arith in
    ap (λ b. not (nat_eq d a) && b) (below_is net plan index law d a first second member)
    ∙ devices_before net plan forest a second d first
    ∙ sym (ap (λ things. has_device things a) (cut_path net plan d (not-true (is_root plan d) other)))

-- what an index says that a link carries
carried_is : (net : Network) (plan : Plan) (index : IndexedPlan) (l : ℕ) → IsIndexOf net plan index → l < length index.carried
    → get_or index.carried l None ≡ carried_over net plan l
carried_is net plan index l law within =
    let size : length index.carried ≡ length net.links = ap length law.carried ∙ length-numbered (carried_over net plan) (length net.links) in
    ap (λ xs. get_or xs l None) law.carried ∙ get_or-numbered (carried_over net plan) (length net.links) l None (omega arith)

-- whether a cut path has a link that carries a device
pub has_link_by : (net : Network) (plan : Plan) (index : IndexedPlan) (d l child : ℕ) → IsIndexOf net plan index → d < length index.spans
    → l < length index.carried
    → get_or index.carried l None ≡ Some child
    → is_member plan d ≡ true → not (is_root plan d) ≡ true
    → ((nat_eq d child || not (nat_eq child index.backup_root)) && (stands_below index d child && not (is_cut_before index d child)))
    ≡ has_link (epath net plan d) l
has_link_by net plan index d l child law within link is member other =
    let forest = forest_of net plan law.fits law.structured in
    let size : length index.spans ≡ length net.devices = law.spans in
    let first : d < length net.devices = omega arith in
    let found = found_passes (goes_over plan l) (length net.devices) child (sym (carried_is net plan index l law link) ∙ is) in
    ap (λ r. (nat_eq d child || not (nat_eq child r)) && (stands_below index d child && not (is_cut_before index d child))) law.backup_root
    ∙ ap (λ b. (nat_eq d child || not (nat_eq child plan.backup_root)) && b) (below_is net plan index law d child first found.0 member)
    ∙ link_before net plan forest l child found.0 found.1 d first
    ∙ sym (ap (λ things. has_link things l) (cut_path net plan d (not-true (is_root plan d) other)))

-- it has none that carries nobody
pub has_no_link_by : (net : Network) (plan : Plan) (index : IndexedPlan) (d l : ℕ) → IsIndexOf net plan index → d < length index.spans
    → l < length index.carried
    → get_or index.carried l None ≡ None
    → not (is_root plan d) ≡ true → false ≡ has_link (epath net plan d) l
has_no_link_by net plan index d l law within link is other =
    let forest = forest_of net plan law.fits law.structured in
    let size : length index.spans ≡ length net.devices = law.spans in
    let none : (x : ℕ) → x < length net.devices → goes_over plan l x ≡ false =
    λ x inside. none_found (goes_over plan l) (length net.devices) x (sym (carried_is net plan index l law link) ∙ is) inside in
    sym
    (ap (λ things. has_link things l) (cut_path net plan d (not-true (is_root plan d) other))
    ∙ cut_link_off plan (walk net plan d) l (link_off net plan forest l none d (omega arith)))

-- whether a whole path has a link that carries a device
pub walk_link_by : (net : Network) (plan : Plan) (index : IndexedPlan) (d l child : ℕ) → IsIndexOf net plan index → d < length index.spans
    → l < length index.carried → get_or index.carried l None ≡ Some child
    → is_member plan d ≡ true → stands_below index d child ≡ has_link (path net plan d) l
walk_link_by net plan index d l child law within link is member =
    let forest = forest_of net plan law.fits law.structured in
    let size : length index.spans ≡ length net.devices = law.spans in
    let first : d < length net.devices = omega arith in
    let found = found_passes (goes_over plan l) (length net.devices) child (sym (carried_is net plan index l law link) ∙ is) in
    law.below d child first found.0 member ∙ link_on net plan forest l child found.0 found.1 d first

-- it has none that carries nobody
pub walk_no_link_by : (net : Network) (plan : Plan) (index : IndexedPlan) (d l : ℕ) → IsIndexOf net plan index → d < length index.spans
    → l < length index.carried
    → get_or index.carried l None ≡ None
    → false ≡ has_link (path net plan d) l
walk_no_link_by net plan index d l law within link is =
    let forest = forest_of net plan law.fits law.structured in
    let size : length index.spans ≡ length net.devices = law.spans in
    sym
    (link_off net plan forest l (λ x inside. none_found (goes_over plan l) (length net.devices) x (sym (carried_is net plan index l law link) ∙ is) inside) d
    (omega arith))

-- what a link carries is a device
pub child_within : (n : ℕ) (carried seen : List (Option ℕ)) (l child : ℕ) → Each (IsSomeBelow n) carried → carried ≡ seen → l < length seen
    → Some child ≡ get_or seen l None → child < n
child_within n carried seen l child each view within is =
    let there : slice_get carried l ≡ Some (Some child) =
    ap (λ xs. slice_get xs l) view ∙ slice_get-get_or seen l None within ∙ ap (λ (o : Option ℕ). Some o) (sym is)
    in
    each l (Some child) there
