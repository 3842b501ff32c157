-- What lies below the ends of a link.
use Rattle.std.proofs.Common.{◌≡◌, ◌≢◌, ℕ, ◌+◌, ◌<◌, Bool, true, false, ◌&&◌, ◌||◌, ◌⊎◌, cond, List, [], ◌∷◌, ◌++◌, length, map, filter_map, get_or, Option, Some, None, option_map, refl, sym, ap, ◌∙◌, inl, inr, arith, append_assoc, nat_eq, replicate}
use Rattle.std.proofs.lemmas.List.{get_or-replicate, length-replicate}
use Rattle.std.proofs.lemmas.Bool.{and_parts, or_cases, eqb-true, eq-eqb, ne_eqb, cases_eq, false_from_ne_true}
use Rattle.sd_num.proofs.Firsts.{find_below_none}
use Rattle.sd_plan.specs.topo.Network.{Network, joins, link_of, device_numbers}
use Rattle.sd_plan.specs.topo.Limits.{IsNetwork}
use Rattle.sd_plan.proofs.topo.Laws.{link_law}
use Rattle.sd_plan.specs.Plans.{primary_of, backup_of}
use Rattle.sd_plan.specs.Duties.{leads_to, follows_over}
use Rattle.sd_plan.specs.Tables.{end_over, ends_before, end_below}
use Rattle.sd_plan.specs.declared.End.{End}
use Rattle.sd_plan.specs.declared.Plan.{Plan}
use Rattle.sd_plan.proofs.Numbered.{numbered_is, get_or-numbered, length-numbered, filtered_more, find_only}
use Rattle.sd_plan.proofs.Rules.{KeepsRules, both_led}

-- who follows a device over a link is joined to it by this
follower_joined : (net : Network) (plan : Plan) (d l c : ℕ) → KeepsRules net plan → c < length net.devices → follows_over plan d l c ≡ true
    → joins net l c d ≡ true
follower_joined net plan d l c rules within follows =
    let (primary, backup) = both_led net plan d l c rules within in
    elim (or_cases (leads_to d l (primary_of plan c)) (leads_to d l (backup_of plan c)) follows) [ inl first ↦ primary first | inr second ↦ backup second ]

-- the ends of a link that joins two devices are these
pub ends_are : (a b c d : ℕ) → ((nat_eq a c && nat_eq b d) || (nat_eq a d && nat_eq b c)) ≡ true → ((a ≡ c) × (b ≡ d)) ⊎ ((a ≡ d) × (b ≡ c))
ends_are a b c d joined =
    elim (or_cases (nat_eq a c && nat_eq b d) (nat_eq a d && nat_eq b c) joined) [
      | inl forth ↦ (let (p, q) = and_parts (nat_eq a c) (nat_eq b d) forth in inl (eqb-true a c p, eqb-true b d q))
      | inr back ↦ (let (p, q) = and_parts (nat_eq a d) (nat_eq b c) back in inr (eqb-true a d p, eqb-true b c q))
    ]

-- an end over a link
abbrev pub over : ℕ → ℕ → End
over l c = record { link = l; device = c }

-- an end that is there or not, as a list
as_list : (l c : ℕ) (t : Bool) → filter_map (λ (x : ℕ). option_map (over l) (cond t (Some c) None)) (l ∷ []) ≡ cond t (over l c ∷ []) []
as_list l c true = refl
as_list l c false = refl

-- what h gives of one number depends on h there alone
one_filtered : {X : Type 0} (g h : ℕ → Option X) (l : ℕ) → g l ≡ h l → filter_map g (l ∷ []) ≡ filter_map h (l ∷ [])
one_filtered g h l same = rw same refl

-- what is below a device over a link with two ends
one_over : (net : Network) (plan : Plan) (l d a b : ℕ) → a ≢ b → a < length net.devices → b < length net.devices
    → ((c : ℕ) → c < length net.devices → follows_over plan d l c ≡ true → ((a ≡ c) × (b ≡ d)) ⊎ ((a ≡ d) × (b ≡ c)))
    → filter_map (end_over net plan d) (l ∷ []) ≡ end_below plan l a b d ++ end_below plan l b a d
one_over net plan l d a b apart first second ends = by_side (cases_eq d a) (cases_eq d b)
  where
    just : (c : ℕ) → c < length net.devices → ((x : ℕ) → x < length net.devices → follows_over plan d l x ≡ true → x ≡ c)
        → filter_map (end_over net plan d) (l ∷ []) ≡ cond (follows_over plan d l c) (over l c ∷ []) []
    just c within only =
        one_filtered (end_over net plan d) (λ x. option_map (over l) (cond (follows_over plan d l c) (Some c) None)) l
        (ap (option_map (over l)) (find_only (follows_over plan d l) (length net.devices) c within only))
        ∙ as_list l c (follows_over plan d l c)

    none : ((x : ℕ) → x < length net.devices → follows_over plan d l x ≡ true → ⊥) → filter_map (end_over net plan d) (l ∷ []) ≡ []
    none nobody =
        one_filtered (end_over net plan d) (λ x. None) l
        (ap (option_map (over l))
        (find_below_none (follows_over plan d l) (length net.devices) (λ x within. false_from_ne_true (follows_over plan d l x) (nobody x within))))

    alone : (t : Bool) → cond t (over l b ∷ []) [] ≡ cond t (over l b ∷ []) [] ++ []
    alone true = refl
    alone false = refl

    by_side : (d ≡ a) ⊎ (d ≡ a → ⊥) → (d ≡ b) ⊎ (d ≡ b → ⊥) → filter_map (end_over net plan d) (l ∷ []) ≡ end_below plan l a b d ++ end_below plan l b a d
    by_side (inl is_a) (inl is_b) = absurd (apart (sym is_a ∙ is_b))
    by_side (inl is_a) (inr not_b) =
        just b second (λ x within follows. elim (ends x within follows) [ inl h ↦ absurd (apart (sym (h.1 ∙ is_a))) | inr h ↦ sym h.1 ])
        ∙ rw (ne_eqb d b not_b, eq-eqb d a is_a, is_a) (alone (follows_over plan a l b))
    by_side (inr not_a) (inl is_b) =
        just a first (λ x within follows. elim (ends x within follows) [ inl h ↦ sym h.0 | inr h ↦ absurd (not_a (sym h.0)) ])
        ∙ rw (ne_eqb d a not_a, eq-eqb d b is_b, is_b) refl
    by_side (inr not_a) (inr not_b) =
        none (λ x within follows. elim (ends x within follows) [ inl h ↦ not_b (sym h.1) | inr h ↦ not_a (sym h.0) ])
        ∙ rw (ne_eqb d a not_a, ne_eqb d b not_b) refl

-- one more link
pub ends_more : (net : Network) (plan : Plan) (l d : ℕ) → IsNetwork net → KeepsRules net plan → l < length net.links
    → ends_before net plan (l + 1) d
    ≡ (ends_before net plan l d ++ end_below plan l (link_of net l).end_a (link_of net l).end_b d)
    ++ end_below plan l (link_of net l).end_b (link_of net l).end_a d
ends_more net plan l d law rules within =
    let is_link = link_law net l law within in
    filtered_more (end_over net plan d) l
    ∙ ap (λ more. ends_before net plan l d ++ more)
    (one_over net plan l d (link_of net l).end_a (link_of net l).end_b is_link.apart is_link.first is_link.second
    (λ c present follows. ends_are (link_of net l).end_a (link_of net l).end_b c d (follower_joined net plan d l c rules present follows)))
    ∙ sym (append_assoc (ends_before net plan l d) (end_below plan l (link_of net l).end_a (link_of net l).end_b d)
    (end_below plan l (link_of net l).end_b (link_of net l).end_a d))

-- the rows after both ends of one more link
pub rows_more : (net : Network) (plan : Plan) (l : ℕ) (rows some all : List (List End)) → IsNetwork net → KeepsRules net plan → l < length net.links
    → rows ≡ map (ends_before net plan l) (device_numbers net) → length some ≡ length rows → length all ≡ length rows
    → ((d : ℕ) → d < length rows → get_or some d [] ≡ get_or rows d [] ++ end_below plan l (link_of net l).end_a (link_of net l).end_b d)
    → ((d : ℕ) → d < length some → get_or all d [] ≡ get_or some d [] ++ end_below plan l (link_of net l).end_b (link_of net l).end_a d)
    → all ≡ map (ends_before net plan (l + 1)) (device_numbers net)
rows_more net plan l rows some all law rules within before some_size all_size first second =
    let size : length rows ≡ length net.devices = ap length before ∙ length-numbered (ends_before net plan l) (length net.devices) in
    numbered_is (ends_before net plan (l + 1)) (length net.devices) [] all (all_size ∙ size) (λ d present.
    let was : get_or rows d [] ≡ ends_before net plan l d =
    ap (λ xs. get_or xs d []) before ∙ get_or-numbered (ends_before net plan l) (length net.devices) d [] present in
    second d (omega arith)
    ∙ ap (λ xs. xs ++ end_below plan l (link_of net l).end_b (link_of net l).end_a d)
    (first d (omega arith) ∙ ap (λ xs. xs ++ end_below plan l (link_of net l).end_a (link_of net l).end_b d) was)
    ∙ sym (ends_more net plan l d law rules within))

-- before the first link nothing lies below any device
pub none_before : (net : Network) (plan : Plan) (count : ℕ) → count ≡ length net.devices
    → replicate count [] ≡ map (ends_before net plan 0) (device_numbers net)
none_before net plan count all =
    numbered_is (ends_before net plan 0) (length net.devices) [] (replicate count []) (length-replicate count [] ∙ all)
    (λ d within. get_or-replicate count d [] [] (omega arith))
