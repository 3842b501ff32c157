-- That plans which were read and accepted lead to what comes after them.
use Rattle.std.proofs.Common.{◌≡◌, ℕ, ◌+◌, ◌<◌, List, [], ◌∷◌, ◌++◌, Option, Some, None, Result, Ok, Err, String, refl, sym, ap, ◌∙◌, subst, length, map, take, drop, arith, append_assoc, append-nil, add-one, length-append, take-append-drop, suc, zero}
use Rattle.std.proofs.Math.ListN.{get_or}
use Rattle.std.proofs.Math.Seq.{drop-cons, take-suc, take-length}
use Rattle.std.proofs.lemmas.List.{get_or-map, length-map}
use Rattle.std.proofs.lemmas.List.Elements.{All-get_or}
use Rattle.std.specs.Prelude.{All, IfErr, IfSome, IsErrAnd, string_bytes}
use Rattle.sd_plan.specs.topo.Network.{Network, Each}
use Rattle.sd_plan.specs.declared.Plan.{Plan}
use Rattle.sd_checker.specs.Conditions.{IsAccepted}
use Rattle.sd_checker.specs.declared.Verdict.{Verdict}
use Rattle.sd_checker.specs.declared.Verdict.TheVariants.{Accepted, Refused}
use Rattle.sd_files.specs.Answering.{Allowed, After}
use Rattle.sd_files.specs.Inputs.{plan_in_file}
use Rattle.sd_files.specs.Texts.{texts_of}
use Rattle.sd_files.specs.Writes.{IsAllowed}
use Rattle.sd_files.specs.declared.Status.{Status}
use Rattle.sd_files.specs.declared.command_error.Answer.{Answer}
use Rattle.sd_files.specs.declared.command_error.CommandError.{CommandError}
use Rattle.sd_files.specs.declared.command_error.CommandError.TheVariants as ended
use Rattle.sd_files.specs.declared.command_error.Refusal.{Refusal}
use Rattle.sd_files.specs.declared.planfiles.setup_error.SetupError.{SetupError}
use Rattle.sd_files.specs.planfiles.PlanFiles.{AfterAllPlans, AfterJudged, AfterPlan, AfterPlans, AfterVerdict, AreRead}
use Rattle.sd_files.specs.planfiles.Refusing.{Nothing}
use Rattle.sd_files.proofs.Shared.{makes_more}

-- what is written early, before anything comes after a plan, is written early whatever comes after
early_verdict : (net : Network) (place : ℕ) (verdict : Verdict) (Never Then : Allowed) (bytes : List ℕ) (status : Status)
    → ((b : List ℕ) (s : Status) → Never b s → ⊥) → AfterVerdict net place verdict Never bytes status
    → AfterVerdict net place verdict Then bytes status
early_verdict net place Accepted Never Then bytes status never written = absurd (never bytes status written)
early_verdict net place (Refused breach) Never Then bytes status never written = written

early_file : (net : Network) (place : ℕ) (says : Result Plan Refusal) (Then : Plan → Allowed) (bytes : List ℕ) (status : Status)
    → After says (λ plan. AfterJudged net place plan (Nothing plan)) bytes status
    → After says (λ plan. AfterJudged net place plan (Then plan)) bytes status
early_file net place (Ok plan) Then bytes status (verdict, says, written) =
    (verdict, says, early_verdict net place verdict (Nothing plan) (Then plan) bytes status (λ b s never. never) written)
early_file net place (Err why) Then bytes status written = written

pub early_plan : (net : Network) (place : ℕ) (text : List ℕ) (Then : Plan → Allowed) (bytes : List ℕ) (status : Status)
    → AfterPlan net place text Nothing bytes status → AfterPlan net place text Then bytes status
early_plan net place text Then bytes status written = early_file net place (plan_in_file net place text) Then bytes status written

-- a plan that was read and accepted leads to what comes after it
goes_on : (net : Network) (place : ℕ) (says : Result Plan Refusal) (plan : Plan) (Then : Plan → Allowed) (bytes : List ℕ) (status : Status) → says ≡ Ok plan
    → IsAccepted net plan → Then plan bytes status
    → After says (λ p. AfterJudged net place p (Then p)) bytes status
goes_on net place says plan Then bytes status is accepted written =
    subst (λ (s : Result Plan Refusal). After s (λ p. AfterJudged net place p (Then p)) bytes status) (sym is) (Accepted, accepted, written)

first_of : (P : Plan → Type 0) (plan : Plan) (plans : List Plan) → Each P (plan ∷ plans) → P plan
first_of P plan plans each = each 0 plan refl

others_of : (P : Plan → Type 0) (plan : Plan) (plans : List Plan) → Each P (plan ∷ plans) → Each P plans
others_of P plan plans each = λ i x is. each (suc i) x is

next_place : (place n : ℕ) → place + suc n ≡ (place + 1) + n
next_place place n = omega arith

no_place : (place : ℕ) → place + 0 ≡ place
no_place place = omega arith

behind_front : (front plans : List Plan) (plan : Plan) → front ++ (plan ∷ plans) ≡ (front ++ plan ∷ []) ++ plans
behind_front front plans plan = sym (append_assoc front (plan ∷ []) plans)

-- plans that were read and accepted lead to what comes after them, after those before
pub through : (net : Network) (place : ℕ) (front plans : List Plan) (texts more : List (List ℕ)) (Then : List Plan → Allowed) (bytes : List ℕ) (status : Status)
    → AreRead net place texts plans → Each (IsAccepted net) plans
    → AfterPlans net (place + length texts) (front ++ plans) more Then bytes status → AfterPlans net place front (texts ++ more) Then bytes status
through net place front [] [] more Then bytes status read accepted written =
    subst (λ (n : ℕ). AfterPlans net n front more Then bytes status) (no_place place)
    (subst (λ (ps : List Plan). AfterPlans net (place + 0) ps more Then bytes status) (append-nil front) written)
through net place front (plan ∷ plans) [] more Then bytes status read accepted written = absurd read
through net place front [] (text ∷ texts) more Then bytes status read accepted written = absurd read
through net place front (plan ∷ plans) (text ∷ texts) more Then bytes status read accepted written =
    goes_on net place (plan_in_file net place text) plan (λ p. AfterPlans net (place + 1) (front ++ p ∷ []) (texts ++ more) Then) bytes status read.0
    (first_of (IsAccepted net) plan plans accepted)
    (through net (place + 1) (front ++ plan ∷ []) plans texts more Then bytes status read.1 (others_of (IsAccepted net) plan plans accepted)
    (subst (λ (n : ℕ). AfterPlans net n ((front ++ plan ∷ []) ++ plans) more Then bytes status) (next_place place (length texts))
    (subst (λ (ps : List Plan). AfterPlans net (place + suc (length texts)) ps more Then bytes status) (behind_front front plans plan) written)))

-- one more plan was read
pub read_more : (net : Network) (place : ℕ) (texts : List (List ℕ)) (plans : List Plan) (text : List ℕ) (plan : Plan) → AreRead net place texts plans
    → plan_in_file net (place + length texts) text ≡ Ok plan
    → AreRead net place (texts ++ text ∷ []) (plans ++ plan ∷ [])
read_more net place [] [] text plan read is = (subst (λ (n : ℕ). plan_in_file net n text ≡ Ok plan) (no_place place) is, tt)
read_more net place (first ∷ texts) [] text plan read is = absurd read
read_more net place [] (first ∷ plans) text plan read is = absurd read
read_more net place (one ∷ texts) (first ∷ plans) text plan read is =
    (read.0, read_more net (place + 1) texts plans text plan read.1 (subst (λ (n : ℕ). plan_in_file net n text ≡ Ok plan) (next_place place (length texts)) is))

-- as many plans as texts
pub read_count : (net : Network) (place : ℕ) (texts : List (List ℕ)) (plans : List Plan) → AreRead net place texts plans → length texts ≡ length plans
read_count net place [] [] read = refl
read_count net place (text ∷ texts) [] read = absurd read
read_count net place [] (plan ∷ plans) read = absurd read
read_count net place (text ∷ texts) (plan ∷ plans) read = ap suc (read_count net (place + 1) texts plans read.1)

-- Of the loop

-- a name that is served
pub served : (P : List ℕ → Type 0) {Z : Type 0} (names : List (String Z)) (i : ℕ) (name : String Z) → All P (map string_bytes names) → i < length names
    → name ≡ get_or names i name → P (string_bytes name)
served P names i name all within is =
    let at : get_or (map string_bytes names) i [] ≡ string_bytes name = get_or-map string_bytes names i name [] within ∙ ap string_bytes (sym is) in
    subst P at (All-get_or P (map string_bytes names) i [] (subst (λ (n : ℕ). i < n) (sym (length-map names string_bytes)) within) all)

pub each_none : (P : Plan → Type 0) (plans : List Plan) → plans ≡ [] → Each P plans
each_none P plans none = subst (Each P) (sym none) (λ i x is. cc)

-- the texts of the first names, the next one, and the others
split_at : {A : Type 0} (xs : List A) (n : ℕ) (d : A) → n < length xs → xs ≡ take n xs ++ (get_or xs n d ∷ drop (suc n) xs)
split_at xs n d within = sym (take-append-drop n xs) ∙ ap (λ (r : List _). take n xs ++ r) (drop-cons xs n d within)

first_place : (n : ℕ) → n + 1 ≡ 1 + n
first_place n = omega arith

-- a plan that ends the command early ends it whatever was accepted before
ends_early : (net : Network) (texts : List (List ℕ)) (plans : List Plan) (text : List ℕ) (made : Result Answer CommandError)
    → AreRead net 1 (take (length plans) texts) plans → Each (IsAccepted net) plans → length plans < length texts
    → text ≡ get_or texts (length plans) [] → IsAllowed (AfterPlan net (length plans + 1) text Nothing) made → IsAllowed (AfterAllPlans net texts Nothing) made
ends_early net texts plans text made read accepted within is makes =
    makes_more (AfterPlan net (length plans + 1) text Nothing) (AfterAllPlans net texts Nothing) made more makes
  where
    first : List (List ℕ)
    first = take (length plans) texts

    others : List (List ℕ)
    others = drop (suc (length plans)) texts

    place : length plans + 1 ≡ 1 + length first
    place = first_place (length plans) ∙ ap (λ (n : ℕ). 1 + n) (sym (read_count net 1 first plans read))

    more : (bytes : List ℕ) (status : Status) → AfterPlan net (length plans + 1) text Nothing bytes status → AfterAllPlans net texts Nothing bytes status
    more bytes status written =
        subst (λ (ts : List (List ℕ)). AfterPlans net 1 [] ts Nothing bytes status)
        (sym (split_at texts (length plans) [] within ∙ ap (λ (t : List ℕ). first ++ (t ∷ others)) (sym is)))
        (through net 1 [] plans first (text ∷ others) Nothing bytes status read accepted
        (
        early_plan net (1 + length first) text (λ plan. AfterPlans net ((1 + length first) + 1) (plans ++ plan ∷ []) others Nothing) bytes status
        (subst (λ (n : ℕ). AfterPlan net n text Nothing bytes status) place written)
        ))

-- the text of the name at a place
text_at : {Z : Type 0} (names : List (String Z)) (h : List ℕ → Option (List ℕ)) (i : ℕ) (name : String Z) → i < length names → name ≡ get_or names i name
    → texts_of h (string_bytes name) ≡ get_or (map (λ n. texts_of h n) (map string_bytes names)) i []
text_at names h i name within is =
    sym
    (get_or-map (λ (n : List ℕ). texts_of h n) (map string_bytes names) i [] [] (subst (λ (n : ℕ). i < n) (sym (length-map names string_bytes)) within)
    ∙ ap (λ (n : List ℕ). texts_of h n) (get_or-map string_bytes names i name [] within ∙ ap string_bytes (sym is)))

texts_count : {Z : Type 0} (names : List (String Z)) (h : List ℕ → Option (List ℕ)) → length (map (λ n. texts_of h n) (map string_bytes names)) ≡ length names
texts_count names h = length-map (map string_bytes names) (λ n. texts_of h n) ∙ length-map names string_bytes

told_early_of : (held : Option (List ℕ → Option (List ℕ))) (net : Network) {Z : Type 0} (names : List (String Z)) (plans : List Plan) (name : String Z)
    (made : Result Answer CommandError)
    → IfSome held (λ h. AreRead net 1 (take (length plans) (map (λ n. texts_of h n) (map string_bytes names))) plans) → Each (IsAccepted net) plans
    → length plans < length names → name ≡ get_or names (length plans) name
    → IfSome held (λ h. IsAllowed (AfterPlan net (length plans + 1) (texts_of h (string_bytes name)) Nothing) made)
    → IfSome held (λ h. IsAllowed (AfterAllPlans net (map (λ n. texts_of h n) (map string_bytes names)) Nothing) made)
told_early_of None net names plans name made read accepted within is makes = tt
told_early_of (Some h) net names plans name made read accepted within is makes =
    ends_early net (map (λ n. texts_of h n) (map string_bytes names)) plans (texts_of h (string_bytes name)) made read accepted
    (subst (λ (n : ℕ). length plans < n) (sym (texts_count names h)) within)
    (text_at names h (length plans) name within is) makes

-- one more plan
more_read : (net : Network) (texts : List (List ℕ)) (plans : List Plan) (text : List ℕ) (plan : Plan) → AreRead net 1 (take (length plans) texts) plans
    → length plans < length texts → text ≡ get_or texts (length plans) []
    → plan_in_file net (length plans + 1) text ≡ Ok plan → AreRead net 1 (take (length (plans ++ plan ∷ [])) texts) (plans ++ plan ∷ [])
more_read net texts plans text plan read within is says =
    let first = take (length plans) texts in
    let place : length plans + 1 ≡ 1 + length first = first_place (length plans) ∙ ap (λ (n : ℕ). 1 + n) (sym (read_count net 1 first plans read)) in
    let count : length (plans ++ plan ∷ []) ≡ suc (length plans) = length-append plans (plan ∷ []) ∙ add-one (length plans) in
    let longer : first ++ text ∷ [] ≡ take (length (plans ++ plan ∷ [])) texts =
    ap (λ (t : List ℕ). first ++ t ∷ []) is ∙ sym (take-suc texts (length plans) [] within) ∙ ap (λ (n : ℕ). take n texts) (sym count) in
    subst (λ (ts : List (List ℕ)). AreRead net 1 ts (plans ++ plan ∷ [])) longer
    (read_more net 1 first plans text plan read (subst (λ (n : ℕ). plan_in_file net n text ≡ Ok plan) place says))

told_more_of : (held : Option (List ℕ → Option (List ℕ))) (net : Network) {Z : Type 0} (names : List (String Z)) (plans longer : List Plan) (name : String Z)
    (plan : Plan)
    → IfSome held (λ h. AreRead net 1 (take (length plans) (map (λ n. texts_of h n) (map string_bytes names))) plans) → length plans < length names
    → name ≡ get_or names (length plans) name
    → IfSome held (λ h. plan_in_file net (length plans + 1) (texts_of h (string_bytes name)) ≡ Ok plan) → longer ≡ plans ++ plan ∷ []
    → IfSome held (λ h. AreRead net 1 (take (length longer) (map (λ n. texts_of h n) (map string_bytes names))) longer)
told_more_of None net names plans longer name plan read within is says same = tt
told_more_of (Some h) net names plans longer name plan read within is says same =
    subst (λ (ps : List Plan). AreRead net 1 (take (length ps) (map (λ n. texts_of h n) (map string_bytes names))) ps) (sym same)
    (more_read net (map (λ n. texts_of h n) (map string_bytes names)) plans (texts_of h (string_bytes name)) plan read
    (subst (λ (n : ℕ). length plans < n) (sym (texts_count names h)) within) (text_at names h (length plans) name within is) says)

each_append : (P : Plan → Type 0) (plans : List Plan) (plan : Plan) → Each P plans → P plan → Each P (plans ++ plan ∷ [])
each_append P [] plan each has zero x is = let same : plan ≡ x = cc in subst P same has
each_append P [] plan each has (suc i) x is = cc
each_append P (p ∷ plans) plan each has zero x is = each 0 x is
each_append P (p ∷ plans) plan each has (suc i) x is = each_append P plans plan (others_of P p plans each) has i x is

pub each_more : (P : Plan → Type 0) (plans longer : List Plan) (plan : Plan) → Each P plans → P plan → longer ≡ plans ++ plan ∷ [] → Each P longer
each_more P plans longer plan each has same = subst (Each P) (sym same) (each_append P plans plan each has)

-- an end that is handed on
pub handed_on : {X : Type 0} (P : SetupError → Type 0) (result : Result X SetupError) (early : SetupError) → IsErrAnd result (λ other. other ≡ early) → P early
    → IfErr result P
handed_on P (Ok x) early same p = tt
handed_on P (Err other) early same p = subst P (sym same) p

-- the same at a place that is counted
pub told_early : (held : Option (List ℕ → Option (List ℕ))) (net : Network) {Z : Type 0} (names : List (String Z)) (plans : List Plan) (n : ℕ) (name : String Z)
    (made : Result Answer CommandError) → n ≡ length plans
    → IfSome held (λ h. AreRead net 1 (take (length plans) (map (λ x. texts_of h x) (map string_bytes names))) plans) → Each (IsAccepted net) plans
    → n < length names → name ≡ get_or names n name
    → IfSome held (λ h. IsAllowed (AfterPlan net (n + 1) (texts_of h (string_bytes name)) Nothing) made)
    → IfSome held (λ h. IsAllowed (AfterAllPlans net (map (λ x. texts_of h x) (map string_bytes names)) Nothing) made)
told_early held net names plans n name made same read accepted =
    subst
    (
    λ (k : ℕ). k < length names → name ≡ get_or names k name
    → IfSome held (λ h. IsAllowed (AfterPlan net (k + 1) (texts_of h (string_bytes name)) Nothing) made)
    → IfSome held (λ h. IsAllowed (AfterAllPlans net (map (λ x. texts_of h x) (map string_bytes names)) Nothing) made)
    )
    (sym same) (told_early_of held net names plans name made read accepted)

pub told_more : (held : Option (List ℕ → Option (List ℕ))) (net : Network) {Z : Type 0} (names : List (String Z)) (plans longer : List Plan) (n : ℕ)
    (name : String Z) (plan : Plan) → n ≡ length plans
    → IfSome held (λ h. AreRead net 1 (take (length plans) (map (λ x. texts_of h x) (map string_bytes names))) plans) → n < length names
    → name ≡ get_or names n name
    → IfSome held (λ h. plan_in_file net (n + 1) (texts_of h (string_bytes name)) ≡ Ok plan) → longer ≡ plans ++ plan ∷ []
    → IfSome held (λ h. AreRead net 1 (take (length longer) (map (λ x. texts_of h x) (map string_bytes names))) longer)
told_more held net names plans longer n name plan same read =
    subst
    (
    λ (k : ℕ). k < length names → name ≡ get_or names k name → IfSome held (λ h. plan_in_file net (k + 1) (texts_of h (string_bytes name)) ≡ Ok plan)
    → longer ≡ plans ++ plan ∷ []
    → IfSome held (λ h. AreRead net 1 (take (length longer) (map (λ x. texts_of h x) (map string_bytes names))) longer)
    )
    (sym same) (told_more_of held net names plans longer name plan read)
