-- The first of the heap is the one that is received first, and without it the heap has the rest.
use Rattle.std.specs.Prelude.{◌≡◌, ℕ, ◌+◌, ◌<◌, ◌≤◌, Bool, true, false, ◌&&◌, ◌||◌, not, cond, List, [], ◌∷◌, ◌++◌, length, sum_by, nat_eq, nat_lt, Some, None, refl}
use Rattle.std.specs.Ordering.{is_lt, nat_cmp, ordering_then}
use Rattle.std.specs.declared.cmp.Ordering.{Ordering}
use Rattle.std.specs.declared.cmp.Reverse.{Reverse}
use Rattle.std.specs.List.Sorted.{IsPermutation}
use Rattle.std.specs.BinaryHeap.{IsUpperBound}
use Rattle.std.proofs.Common.{arith, ap, sym, ◌∙◌, subst, get_or, Less, Equal, Greater}
use Rattle.std.proofs.lemmas.Bool.{eq-eqb, ne_eqb, eqb-true, ltb-false, and_parts, or_parts}
use Rattle.std.proofs.lemmas.List.Sums.{sum_by-cons, sum_by_push, get_or-le-sum_by}
use Rattle.std.proofs.lemmas.List.Sorted.{sum_by_pushed, sum_by_popped}
use Rattle.sd_num.specs.Counts.{one_if}
use Rattle.sd_gen.specs.declared.arrivals.Arrival.{Arrival}
use Rattle.sd_gen.specs.arrivals.Waiting.{comes_before, soonest_of, soonest, without}
use Rattle.sd_gen.specs.arrivals.Left.{left_by, AreNumbered}
use Rattle.sd_gen.specs.declared.arrivals.Arrivals.{Arrivals}
use Rattle.sd_gen.specs.arrivals.Order.{by_receipt}
use Rattle.sd_gen.specs.arrivals.Standing.{StandsFor}

abbrev same_arrival : Arrival → Arrival → Bool
same_arrival a b = nat_eq a.moment b.moment && (nat_eq a.number b.number && nat_eq a.receiver b.receiver)

-- how many of them come before x, and how often x is one of them
abbrev before : Arrival → List Arrival → ℕ
before x ws = sum_by (λ v. one_if (comes_before v x)) ws

abbrev times : Arrival → List Arrival → ℕ
times x ws = sum_by (λ v. one_if (same_arrival x v)) ws

same_is : (x y : Arrival) → same_arrival x y ≡ true → x ≡ y
same_is x y same =
    let first = and_parts (nat_eq x.moment y.moment) (nat_eq x.number y.number && nat_eq x.receiver y.receiver) same in
    let second = and_parts (nat_eq x.number y.number) (nat_eq x.receiver y.receiver) first.1 in
    ap (λ m. record { moment = m; number = x.number; receiver = x.receiver }) (eqb-true x.moment y.moment first.0)
    ∙ ap (λ n. record { moment = y.moment; number = n; receiver = x.receiver }) (eqb-true x.number y.number second.0)
    ∙ ap (λ r. record { moment = y.moment; number = y.number; receiver = r }) (eqb-true x.receiver y.receiver second.1)

same_itself : (x : Arrival) → same_arrival x x ≡ true
same_itself x = rw (eq-eqb x.moment x.moment refl, eq-eqb x.number x.number refl, eq-eqb x.receiver x.receiver refl) refl

before-cons : (x w : Arrival) (ws : List Arrival) → before x (w ∷ ws) ≡ one_if (comes_before w x) + before x ws
before-cons x w ws = sum_by-cons (λ v. one_if (comes_before v x)) w ws

times-cons : (x w : Arrival) (ws : List Arrival) → times x (w ∷ ws) ≡ one_if (same_arrival x w) + times x ws
times-cons x w ws = sum_by-cons (λ v. one_if (same_arrival x v)) w ws

-- Numbers

lower : (low high top : ℕ) (ws : List Arrival) → low ≤ high → AreNumbered high top ws → AreNumbered low top ws
lower low high top [] less is = omega (arith, less, is)
lower low high top (w ∷ ws) less is = (omega (arith, less, is.0), is.1)

pub numbered_without : (floor top n : ℕ) (ws : List Arrival) → AreNumbered floor top ws → AreNumbered floor top (without n ws)
numbered_without floor top n [] is = is
numbered_without floor top n (w ∷ ws) is = by (not (nat_eq w.number n)) (numbered_without w.number top n ws is.1)
  where
    by : (b : Bool) → AreNumbered w.number top (without n ws) → AreNumbered floor top (cond b (w ∷ without n ws) (without n ws))
    by true rest = (is.0, rest)
    by false rest = lower floor w.number top (without n ws) (omega (arith, is.0)) rest

-- a number that none of them has leaves them all
all_kept : (floor top n : ℕ) (ws : List Arrival) → AreNumbered floor top ws → n ≤ floor → without n ws ≡ ws
all_kept floor top n [] is less = refl
all_kept floor top n (w ∷ ws) is less =
    let above : floor < w.number = is.0 in
    rw (ne_eqb w.number n (λ same. omega (arith, above, less, same))) (ap (λ rest. w ∷ rest) (all_kept w.number top n ws is.1 (omega (arith, above, less))))

after_floor : (floor top : ℕ) (x : Arrival) (ws : List Arrival) → AreNumbered floor top ws → 1 ≤ times x ws → floor < x.number
after_floor floor top x [] is some = absurd (omega (arith, some))
after_floor floor top x (w ∷ ws) is some = by (same_arrival x w) refl (after_floor w.number top x ws is.1)
  where
    by : (b : Bool) → same_arrival x w ≡ b → (1 ≤ times x ws → w.number < x.number) → floor < x.number
    by true same rest = subst (λ (v : Arrival). floor < v.number) (sym (same_is x w same)) is.0
    by false other rest =
        let count : times x (w ∷ ws) ≡ one_if false + times x ws = times-cons x w ws ∙ ap (λ b. one_if b + times x ws) other in
        let after : w.number < x.number = rest (omega (arith, some, count)) in
        omega (arith, after, is.0)

-- one of them taken away: what is summed is that of the one and that of the rest
taken : (f : Arrival → ℕ) (floor top : ℕ) (x : Arrival) (ws : List Arrival) → AreNumbered floor top ws → 1 ≤ times x ws
    → sum_by f ws ≡ f x + sum_by f (without x.number ws)
taken f floor top x [] is some = absurd (omega (arith, some))
taken f floor top x (w ∷ ws) is some = by (same_arrival x w) refl (taken f w.number top x ws is.1)
  where
    by : (b : Bool) → same_arrival x w ≡ b → (1 ≤ times x ws → sum_by f ws ≡ f x + sum_by f (without x.number ws))
        → sum_by f (w ∷ ws) ≡ f x + sum_by f (without x.number (w ∷ ws))
    by true same others =
        let number : w.number ≡ x.number = sym (ap (λ (v : Arrival). v.number) (same_is x w same)) in
        let value : f w ≡ f x = sym (ap f (same_is x w same)) in
        let kept : without x.number ws ≡ ws = all_kept w.number top x.number ws is.1 (omega (arith, number)) in
        let whole : sum_by f (w ∷ ws) ≡ f w + sum_by f ws = sum_by-cons f w ws in
        rw (eq-eqb w.number x.number number, kept) (whole ∙ ap (λ n. n + sum_by f ws) value)
    by false other others =
        let count : times x (w ∷ ws) ≡ one_if false + times x ws = times-cons x w ws ∙ ap (λ b. one_if b + times x ws) other in
        let there : 1 ≤ times x ws = omega (arith, some, count) in
        let after : w.number < x.number = after_floor w.number top x ws is.1 there in
        let rest : sum_by f ws ≡ f x + sum_by f (without x.number ws) = others there in
        let whole : sum_by f (w ∷ ws) ≡ f w + sum_by f ws = sum_by-cons f w ws in
        let left : sum_by f (w ∷ without x.number ws) ≡ f w + sum_by f (without x.number ws) = sum_by-cons f w (without x.number ws) in
        rw (ne_eqb w.number x.number (λ same. omega (arith, after, same))) (omega (arith, rest, whole, left))

-- The first

-- two of which neither comes before the other have one number
tied : (v w : Arrival) → comes_before v w ≡ false → comes_before w v ≡ false → v.number ≡ w.number
tied v w one_way other_way =
    let a = or_parts (nat_lt v.moment w.moment) (nat_eq v.moment w.moment && nat_lt v.number w.number) one_way in
    let b = or_parts (nat_lt w.moment v.moment) (nat_eq w.moment v.moment && nat_lt w.number v.number) other_way in
    let down : w.moment ≤ v.moment = ltb-false v.moment w.moment a.0 in
    let up : v.moment ≤ w.moment = ltb-false w.moment v.moment b.0 in
    let c : w.number ≤ v.number = later_of v w (omega (arith, down, up)) a.1 in
    let d : v.number ≤ w.number = later_of w v (omega (arith, down, up)) b.1 in
    omega (arith, c, d)
  where
    later_of : (a b : Arrival) → a.moment ≡ b.moment → (nat_eq a.moment b.moment && nat_lt a.number b.number) ≡ false → b.number ≤ a.number
    later_of a b same test = ltb-false a.number b.number (sym (ap (λ t. t && nat_lt a.number b.number) (eq-eqb a.moment b.moment same)) ∙ test)

-- x is the soonest of u and others, if it is one of them and none comes before it
abbrev IsSoonest : (floor top : ℕ) (x : Arrival) (vs : List Arrival) (u : Arrival) → Type 0
IsSoonest floor top x vs u = AreNumbered floor top (u ∷ vs) → before x (u ∷ vs) ≡ 0 → 1 ≤ times x (u ∷ vs) → soonest_of u vs ≡ x

-- one of them before which none comes is the soonest
soonest_is : (floor top : ℕ) (x w : Arrival) (ws : List Arrival) → AreNumbered floor top (w ∷ ws) → before x (w ∷ ws) ≡ 0 → 1 ≤ times x (w ∷ ws)
    → soonest_of w ws ≡ x
soonest_is floor top x w [] is none some = by (same_arrival x w) refl
  where
    by : (b : Bool) → same_arrival x w ≡ b → w ≡ x
    by true same = sym (same_is x w same)
    by false other = let count : times x (w ∷ []) ≡ one_if false + 0 = times-cons x w [] ∙ ap (λ b. one_if b + 0) other in absurd (omega (arith, some, count))
soonest_is floor top x w (v ∷ vs) is none some = by (comes_before v w) refl (soonest_is floor top x v vs) (soonest_is floor top x w vs)
  where
    at_w : before x (w ∷ v ∷ vs) ≡ one_if (comes_before w x) + before x (v ∷ vs)
    at_w = before-cons x w (v ∷ vs)

    at_v : before x (v ∷ vs) ≡ one_if (comes_before v x) + before x vs
    at_v = before-cons x v vs

    w_times : times x (w ∷ v ∷ vs) ≡ one_if (same_arrival x w) + times x (v ∷ vs)
    w_times = times-cons x w (v ∷ vs)

    v_times : times x (v ∷ vs) ≡ one_if (same_arrival x v) + times x vs
    v_times = times-cons x v vs

    not_before : (u : Arrival) → one_if (comes_before u x) ≡ 0 → comes_before u x ≡ false
    not_before u nothing = zero_is (comes_before u x) nothing
      where
        zero_is : (b : Bool) → one_if b ≡ 0 → b ≡ false
        zero_is true h = absurd (omega (arith, h))
        zero_is false h = refl

    w_not : comes_before w x ≡ false
    w_not = not_before w (omega (arith, none, at_w))

    v_not : comes_before v x ≡ false
    v_not = not_before v (omega (arith, none, at_w, at_v))

    by : (b : Bool) → comes_before v w ≡ b → IsSoonest floor top x vs v → IsSoonest floor top x vs w → soonest_of (cond b v w) vs ≡ x
    by true swaps one other = one (omega (arith, is.0, is.1.0), is.1.1) (omega (arith, none, at_w)) (here (same_arrival x w) refl)
      where
        here : (b : Bool) → same_arrival x w ≡ b → 1 ≤ times x (v ∷ vs)
        here true same =
            let swaps_x : comes_before v x ≡ true = ap (comes_before v) (same_is x w same) ∙ swaps in
            absurd (let never : true ≡ false = sym swaps_x ∙ v_not in cc)
        here false apart = let count : one_if (same_arrival x w) ≡ 0 = ap one_if apart in omega (arith, some, w_times, count)
    by false stays one other =
        other (is.0, lower w.number v.number top vs (omega (arith, is.1.0)) is.1.1)
        (let more = before-cons x w vs in omega (arith, none, at_w, at_v, more)) (here (same_arrival x v) refl)
      where
        here : (b : Bool) → same_arrival x v ≡ b → 1 ≤ times x (w ∷ vs)
        here true same =
            let other_way : comes_before w v ≡ false = sym (ap (comes_before w) (same_is x v same)) ∙ w_not in
            let numbers : v.number ≡ w.number = tied v w stays other_way in
            absurd (omega (arith, numbers, is.1.0))
        here false apart =
            let count : one_if (same_arrival x v) ≡ 0 = ap one_if apart in
            let more = times-cons x w vs in
            omega (arith, some, w_times, v_times, count, more)

-- The heap

not_less : (a b c d : Bool) (o : Ordering)
    → is_lt (ordering_then (cond a Less (cond b Equal Greater)) (ordering_then (cond c Less (cond d Equal Greater)) o)) ≡ false → (a || (b && c)) ≡ false
not_less true b c d o h = cc
not_less false true true d o h = cc
not_less false true false d o h = refl
not_less false false c d o h = refl

none_before : (x : Reverse Arrival) (items : List (Reverse Arrival)) → IsUpperBound by_receipt x items → sum_by (λ e. one_if (comes_before e.0 x.0)) items ≡ 0
none_before x [] bound = refl
none_before x (e ∷ items) bound =
    let rest : sum_by (λ y. one_if (comes_before y.0 x.0)) items ≡ 0 = none_before x items bound.1 in
    let whole = sum_by-cons (λ (y : Reverse Arrival). one_if (comes_before y.0 x.0)) e items in
    let first : comes_before e.0 x.0 ≡ false =
    not_less (nat_lt e.0.moment x.0.moment) (nat_eq e.0.moment x.0.moment) (nat_lt e.0.number x.0.number) (nat_eq e.0.number x.0.number)
    (nat_cmp e.0.receiver x.0.receiver) bound.0 in
    let nothing : one_if (comes_before e.0 x.0) ≡ 0 = ap one_if first in
    omega (arith, rest, whole, nothing)

itself_there : (x : Reverse Arrival) (items : List (Reverse Arrival)) → 0 < length items → x ≡ get_or items 0 x
    → 1 ≤ sum_by (λ e. one_if (same_arrival x.0 e.0)) items
itself_there x items some is =
    let most = get_or-le-sum_by (λ (e : Reverse Arrival). one_if (same_arrival x.0 e.0)) items 0 x some in
    let its : one_if (same_arrival x.0 (get_or items 0 x).0) ≡ 1 =
    ap (λ (e : Reverse Arrival). one_if (same_arrival x.0 e.0)) (sym is) ∙ ap one_if (same_itself x.0) in
    omega (arith, most, its)

-- the heap holds what waits
abbrev pub Holds : List (Reverse Arrival) → List Arrival → Type 0
Holds items waiting = (f : Arrival → ℕ) → sum_by (λ e. f e.0) items ≡ sum_by f waiting

there : (x : Reverse Arrival) (items : List (Reverse Arrival)) (waiting : List Arrival) → Holds items waiting → 0 < length items → x ≡ get_or items 0 x
    → 1 ≤ times x.0 waiting
there x items waiting same some is = let it = itself_there x items some is in let counted = same (λ v. one_if (same_arrival x.0 v)) in omega (arith, it, counted)

pub first_is : (x : Reverse Arrival) (items : List (Reverse Arrival)) (top : ℕ) (waiting : List Arrival) → AreNumbered 0 top waiting → Holds items waiting
    → 0 < length items → x ≡ get_or items 0 x
    → IsUpperBound by_receipt x items → soonest waiting ≡ Some x.0
first_is x items top [] numbers same some is bound = let it = there x items [] same some is in absurd (omega (arith, it))
first_is x items top (w ∷ ws) numbers same some is bound =
    let nothing : before x.0 (w ∷ ws) ≡ 0 = sym (same (λ v. one_if (comes_before v x.0))) ∙ none_before x items bound in
    ap (λ (v : Arrival). Some v) (soonest_is 0 top x.0 w ws numbers nothing (there x items (w ∷ ws) same some is))

pub none_is : (items : List (Reverse Arrival)) (waiting : List Arrival) → Holds items waiting → length items ≡ 0 → soonest waiting ≡ None
none_is items [] same empty = refl
none_is (e ∷ items) (w ∷ ws) same empty = absurd (omega (arith, empty))
none_is [] (w ∷ ws) same empty = let one_more = sum_by-cons (λ (v : Arrival). 1) w ws in let counted = same (λ v. 1) in
    absurd (omega (arith, one_more, counted))

pub rest_is : (x : Reverse Arrival) (items rest : List (Reverse Arrival)) (top : ℕ) (waiting : List Arrival) → AreNumbered 0 top waiting → Holds items waiting
    → 0 < length items → x ≡ get_or items 0 x
    → IsPermutation items (x ∷ rest) → Holds rest (without x.0.number waiting)
rest_is x items rest top waiting numbers same some is popped f =
    let without_it = taken f 0 top x.0 waiting numbers (there x items waiting same some is) in
    let counted = same f in
    let left = sum_by_popped (λ (e : Reverse Arrival). f e.0) x items rest popped in
    omega (arith, without_it, counted, left)

pub one_more : (items more : List (Reverse Arrival)) (waiting : List Arrival) (a : Arrival) → Holds items waiting
    → IsPermutation (record { 0 = a } ∷ items) more → Holds more (waiting ++ a ∷ [])
one_more items more waiting a same pushed f =
    let added = sum_by_pushed (λ (e : Reverse Arrival). f e.0) (record { 0 = a }) items more pushed in
    let counted = same f in
    let last = sum_by_push f waiting a in
    omega (arith, added, counted, last)

pub numbered_more : (floor top : ℕ) (ws : List Arrival) (a : Arrival) → AreNumbered floor top ws → top < a.number → AreNumbered floor a.number (ws ++ a ∷ [])
numbered_more floor top [] a is above = (omega (arith, is, above), omega arith)
numbered_more floor top (w ∷ ws) a is above = (is.0, numbered_more w.number top ws a is.1 above)

pub took : (new : Arrivals) (x : Arrival) (top : ℕ) (waiting : List Arrival) → soonest waiting ≡ Some x → StandsFor new top (without x.number waiting)
    → StandsFor new top (left_by (soonest waiting) waiting)
took new x top waiting is stands = subst (λ o. StandsFor new top (left_by o waiting)) (sym is) stands
