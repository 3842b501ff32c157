-- What a text means is a network: in range, with distinct names and ends.
use Rattle.std.proofs.Common.{◌≡◌, ◌⊎◌, inl, inr, ℕ, ◌+◌, ◌<◌, ◌≤◌, Bool, true, false, not, ◌&&◌, nat_le, nat_eq, cond, List, [], ◌∷◌, ◌++◌, length, Option, None, Some, is_none, Result, Ok, Err, ℤ, pos, negsuc, All, refl, ap, sym, ◌∙◌, subst, arith}
use Rattle.std.specs.List.{list_any, IsDistinct}
use Rattle.std.specs.Str.{bytes_eq}
use Rattle.std.specs.Cmp.{nat_eq_equiv}
use Rattle.std.proofs.lemmas.Bool.{leb-true, and_parts, not-true}
use Rattle.std.proofs.lemmas.Map.Keys.{IsDistinct-push}
use Rattle.std.proofs.lemmas.List.Elements.{All-push, All-nil}
use Rattle.std.proofs.lemmas.List.Quantifiers.{position-Some}
use Rattle.toml.specs.Data.{Data, Items, no_items, item, Members, as_str, as_integer}
use Rattle.sd_num.specs.Lists.{has, ascending}
use Rattle.sd_topotext.specs.declared.fault.TopoFault.{TopoFault}
use Rattle.sd_topotext.specs.declared.fault.TopoFault.TheVariants.{Range, TwiceNamed}
use Rattle.sd_topotext.specs.declared.fault.Place.{Place}
use Rattle.sd_topotext.specs.declared.fault.Key.{Key}
use Rattle.sd_topotext.specs.Then.{◌>>=◌}
use Rattle.sd_plan.specs.topo.Network.{number_in, is_name}
use Rattle.sd_topotext.specs.Meaning.{place, value, allowed, there, of_kind, in_range, known, count_of, each_from, number, number_or, text, array_or_none, own_name, referred, one_more, members_in}

-- what goes on without a fault had none before
pub bind_ok : {A B : Type 0} (r : Result A TopoFault) (f : A → Result B TopoFault) (y : B) → (r >>= f) ≡ Ok y → (x : A) × (r ≡ Ok x) × (f x ≡ Ok y)
bind_ok (Ok x) f y h = (x, refl, h)
bind_ok (Err e) f y h = cc

-- what is allowed passed its test
pub allowed_ok : {X : Type 0} (test : Bool) (fault : TopoFault) (x y : X) → allowed test fault x ≡ Ok y → (test ≡ true) × (x ≡ y)
allowed_ok true fault x y h = (refl, cc)
allowed_ok false fault x y h = cc

-- one of two answers
pub one_of : {X : Type 0} (b : Bool) (x y : X) (r : Result X TopoFault) → cond b (Ok x) r ≡ Ok y → (x ≡ y) ⊎ (r ≡ Ok y)
one_of true x y r h = inl cc
one_of false x y r h = inr h

-- equal answers hold equal values
pub ok_inside : {X : Type 0} (x y : X) → let made : X → Result X TopoFault = λ z. Ok z in made x ≡ made y → x ≡ y
ok_inside x y h = cc

-- what is known was found
known_ok : (p : Place) (o : Option ℕ) (n : ℕ) → known p o ≡ Ok n → o ≡ Some n
known_ok p None n h = cc
known_ok p (Some m) n h = cc

-- what is in range lies in it
in_range_ok : (p : Place) (least most : ℕ) (z : ℤ) (n : ℕ) → in_range p least most z ≡ Ok n → (least ≤ n) × (n ≤ most)
in_range_ok p least most (pos m) n h =
    let (tests, same) = allowed_ok (nat_le least m && nat_le m most) _ m n h in
    let (low, high) = and_parts (nat_le least m) (nat_le m most) tests in
    let below = leb-true least m low in
    let above = leb-true m most high in
    (omega arith, omega arith)
in_range_ok p least most (negsuc m) n h = cc

-- a number that was read is in its range
pub number_ok : (key : Key) (entry least most : ℕ) (ms : Members) (n : ℕ) → number key entry least most ms ≡ Ok n → (least ≤ n) × (n ≤ most)
unfolding number
number_ok key entry least most ms n h =
    let p = place key entry in
    let (d, at, more) = bind_ok (there p (value key ms)) (λ d. of_kind p (as_integer d) >>= in_range p least most) n h in
    let (z, kind, last) = bind_ok (of_kind p (as_integer d)) (in_range p least most) n more in
    in_range_ok p least most z n last

-- so is one that may be missing
pub number_or_ok : (key : Key) (entry most default : ℕ) (ms : Members) (n : ℕ) → default ≤ most → number_or key entry most default ms ≡ Ok n → n ≤ most
unfolding number_or
number_or_ok key entry most default ms n inside h =
    elim (one_of (is_none (value key ms)) default n (number key entry 0 most ms) h)
    [ inl same ↦ omega arith | inr read ↦ (number_ok key entry 0 most ms n read).1 ]

-- an entry's own name is within the limits and new
pub own_name_ok : (key : Key) (entry : ℕ) (names : List (List ℕ)) (ms : Members) (name : List ℕ) → own_name key entry names ms ≡ Ok name
    → (is_name name ≡ true) × (list_any (bytes_eq name) names ≡ false)
unfolding own_name
own_name_ok key entry names ms name h =
    let p = place key entry in
    let fresh : List ℕ → Result (List ℕ) TopoFault = λ n. allowed (not (list_any (bytes_eq n) names)) (TwiceNamed p) n in
    let (first, read, more) = bind_ok (text key entry ms) (λ n. allowed (is_name n) (Range p) n >>= fresh) name h in
    let (second, limits, last) = bind_ok (allowed (is_name first) (Range p) first) fresh name more in
    let (good, same) = allowed_ok (is_name first) (Range p) first second limits in
    let (new, end) = allowed_ok (not (list_any (bytes_eq second) names)) (TwiceNamed p) second name last in
    (subst (λ (n : List ℕ). is_name n ≡ true) (same ∙ end) good, not-true _ (subst (λ (n : List ℕ). not (list_any (bytes_eq n) names) ≡ true) end new))

-- a thing that was named is there
pub referred_ok : (p : Place) (names : List (List ℕ)) (d : Data) (n : ℕ) → referred p names d ≡ Ok n → n < length names
unfolding referred
referred_ok p names d n h =
    let (name, kind, last) = bind_ok (of_kind p (as_str d)) (λ name. known p (number_in names name)) n h in
    (position-Some (bytes_eq name) names n [] (known_ok p (number_in names name) n last)).0

-- one more listed thing is there, and new
pub one_more_ok : (p : Place) (names : List (List ℕ)) (seen : List ℕ) (d : Data) (more : List ℕ) → one_more p names seen d ≡ Ok more
    → (n : ℕ) × (more ≡ seen ++ n ∷ []) × (n < length names) × (has seen n ≡ false)
unfolding one_more
one_more_ok p names seen d more h =
    let (n, at, last) = bind_ok (referred p names d) (λ n. allowed (not (has seen n)) (TwiceNamed p) (seen ++ n ∷ [])) more h in
    let (new, same) = allowed_ok (not (has seen n)) (TwiceNamed p) (seen ++ n ∷ []) more last in
    (n, sym same, referred_ok p names d n at, not-true (has seen n) new)

-- what each step keeps is kept
pub each_ok : {B : Type 0} (step : List B → Data → Result (List B) TopoFault) (Keeps : List B → Type 0)
    → ((seen : List B) (d : Data) (more : List B) → step seen d ≡ Ok more → Keeps seen → Keeps more)
    → (seen out : List B) (ds : Items) → each_from step seen ds ≡ Ok out → Keeps seen → Keeps out
each_ok step Keeps keeps seen out no_items h kept = let same : seen ≡ out = cc in subst Keeps same kept
each_ok step Keeps keeps seen out (item d ds) h kept =
    let (more, first, rest) = bind_ok (step seen d) (λ more. each_from step more ds) out h in
    each_ok step Keeps keeps more out ds rest (keeps seen d more first kept)

-- what each step makes longer by one is as long as the items
pub each_len : {B : Type 0} (step : List B → Data → Result (List B) TopoFault)
    → ((seen : List B) (d : Data) (more : List B) → step seen d ≡ Ok more → length more ≡ length seen + 1)
    → (seen out : List B) (ds : Items) → each_from step seen ds ≡ Ok out → length out ≡ length seen + count_of ds
each_len step grows seen out no_items h = let same : seen ≡ out = cc in rw same (omega arith)
each_len step grows seen out (item d ds) h =
    let (more, first, rest) = bind_ok (step seen d) (λ more. each_from step more ds) out h in
    let one = grows seen d more first in
    let all = each_len step grows more out ds rest in
    omega arith

-- listed numbers: below a bound, and distinct
pub record AreListed (bound : ℕ) (numbers : List ℕ) : Type 0 where
  pub within : All (λ n. n < bound) numbers
  pub apart : IsDistinct nat_eq numbers

-- the numbers that an array lists
pub listed_ok : (p : Place) (names : List (List ℕ)) (ds : Items) (out : List ℕ) → each_from (one_more p names) [] ds ≡ Ok out → AreListed (length names) out
unfolding IsDistinct
listed_ok p names ds out h =
    each_ok (one_more p names) (AreListed (length names)) step [] out ds h (record { within = All-nil (λ n. n < length names); apart = tt })
  where
    step : (seen : List ℕ) (d : Data) (more : List ℕ) → one_more p names seen d ≡ Ok more → AreListed (length names) seen → AreListed (length names) more
    step seen d more h kept =
        let (n, is, below, new) = one_more_ok p names seen d more h in
        subst (AreListed (length names)) (sym is) (record {
          within = All-push (λ m. m < length names) seen n kept.within below;
          apart = IsDistinct-push nat_eq_equiv seen n kept.apart new;
        })

-- a domain's list from its array
pub members_are : (key : Key) (entry : ℕ) (names : List (List ℕ)) (ms : Members) (ds : Items) (xs v : List ℕ) → array_or_none key entry ms ≡ Ok ds
    → each_from (one_more (place key entry) names) [] ds ≡ Ok xs
    → ((count : ℕ) → All (λ n. n < count) xs → v ≡ ascending count xs) → members_in key entry names ms ≡ Ok v
unfolding members_in
members_are key entry names ms ds xs v there listed is =
    let ok : List ℕ → Result (List ℕ) TopoFault = λ l. Ok l in
    rw (there, listed) (ap ok (sym (is (length names) (listed_ok (place key entry) names ds xs listed).within)))
