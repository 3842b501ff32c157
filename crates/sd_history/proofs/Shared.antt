-- Lemmas that several crates above share.
use Rattle.sd_sched.specs.declared.Event.TheVariants as event
use Rattle.std.specs.Prelude.{◌≡◌, ℕ, ◌+◌, count_by, Some, Bool, true, false, ◌&&◌, ◌||◌, not, List, [], ◌∷◌, nat_lt, refl, if◌then◌else◌, zero, suc, slice_get, ◌<◌, ◌≤◌, ◌++◌, ◌⊎◌, find, Option, None, option_and_then}
use Rattle.std.proofs.lemmas.Bool.{or_left, or_right, cases_lt, or_parts, not-true, ltb-false}
use Rattle.std.proofs.Common.{subst, arith, sym, inl, inr, ap, ◌∙◌, cond}
use Rattle.std.proofs.lemmas.List.Sums.{sum_by-cons}
use Rattle.sd_sched.specs.declared.Event.{Event}
use Rattle.sd_sched.specs.Events.{message_of, received, reference_of}
use Rattle.sd_num.specs.Lists.{below, follow, map_or}
use Rattle.sd_device.specs.declared.msg.Flight.{Flight}
use Rattle.sd_plan.specs.topo.Network.{Each}
use Rattle.sd_plan.specs.declared.topo.Thing.TheVariants as thing
use Rattle.sd_num.proofs.Shared.{or_first}
use Rattle.sd_history.specs.World.{Setting, Seen, makes, fails, is_up, was_made, epoch_in_force, latest_reference}
use Rattle.sd_history.specs.Refusals.{unknown_device, unknown_link, time_falls}
use Rattle.sd_history.specs.Open.{may_be_seen}
use Rattle.sd_history.specs.Premises.{was_received, is_overdue, was_interrupted, spoils}
use Rattle.sd_history.proofs.Among.{Among, first, later}
use Rattle.sd_history.proofs.Given.{some_is}

pub received_message : (e : Event) (n : ℕ) → received e ≡ Some n → message_of e ≡ Some n
received_message (event.Recv r m c k) n is = is
received_message _ n is = cc

pub spoiled_is_overdue : (seen : List Seen) (f : Flight) → spoils seen f ≡ true → is_overdue seen f ≡ true
spoiled_is_overdue [] f bad = cc
spoiled_is_overdue (s ∷ earlier) f bad = go (is_overdue earlier f) bad
  where
    go : (b : Bool)
        → (if b then spoils earlier f else nat_lt f.due (reference_of s.event) && not (was_received (s ∷ earlier) f.number)
        && not (was_interrupted (s ∷ earlier) f)) ≡ true → (nat_lt f.due (reference_of s.event) || b) ≡ true
    go true bad' = or_right (nat_lt f.due (reference_of s.event)) true refl
    go false bad' =
        or_left (nat_lt f.due (reference_of s.event)) false
        (first_of_three (nat_lt f.due (reference_of s.event)) (not (was_received (s ∷ earlier) f.number)) (not (was_interrupted (s ∷ earlier) f)) bad')
      where
        first_of_three : (a b c : Bool) → (a && b && c) ≡ true → a ≡ true
        first_of_three true b c h = refl
        first_of_three false b c h = cc

pub stays_spoiled : (s : Seen) (earlier : List Seen) (f : Flight) → spoils earlier f ≡ true → spoils (s ∷ earlier) f ≡ true
stays_spoiled s earlier f spoilt = rw (spoiled_is_overdue earlier f spoilt) spoilt

pub among_at : {A : Type 0} (xs : List A) (p : ℕ) (x : A) → slice_get xs p ≡ Some x → Among x xs
among_at [] p x same = cc
among_at (y ∷ ys) zero x same = subst (λ z. Among z (y ∷ ys)) (some_is same) first
among_at (y ∷ ys) (suc p) x same = later (among_at ys p x same)

-- an element of a list has a place
pub each_among : {A : Type 0} (P : A → Type 0) (xs : List A) (x : A) → Each P xs → Among x xs → P x
each_among P [] x each a = elim a [ ]
each_among P (y ∷ ys) x each first = each zero x refl
each_among P (y ∷ ys) x each (later a) = each_among P ys x (λ i z at. each (suc i) z at) a

pub among_below : (n d : ℕ) → d < n → Among d (below n)
among_below zero d lt = absurd (omega (arith, lt))
among_below (suc n) d lt = by_order (among_below n d) (cases_lt d n)
  where
    at_end : {A : Type 0} {x : A} (xs ys : List A) → Among x xs → Among x (xs ++ ys)
    at_end _ ys first = first
    at_end (x ∷ xs) ys (later a) = later (at_end xs ys a)

    last : {A : Type 0} (x : A) (xs : List A) → Among x (xs ++ x ∷ [])
    last x [] = first
    last x (y ∷ xs) = later (last x xs)

    by_order : (d < n → Among d (below n)) → (d < n) ⊎ (n ≤ d) → Among d (below n ++ n ∷ [])
    by_order before (inl less) = at_end (below n) (n ∷ []) (before less)
    by_order before (inr le) = let is : n ≡ d = omega (arith, le, lt) in
        subst (λ x. Among d (below n ++ x ∷ [])) (sym is) (subst (λ x. Among x (below n ++ x ∷ [])) is (last n (below n)))

pub passed_by : {A : Type 0} (p : A → Bool) (y : A) (xs : List A) (b : Bool) → p y ≡ b → (if b then Some y else find p xs) ≡ None
    → (p y ≡ false) × (find p xs ≡ None)
passed_by p y xs true is none = cc
passed_by p y xs false is none = (is, none)

-- what is not found fails the test
pub none_passes : {A : Type 0} (p : A → Bool) (xs : List A) (x : A) → find p xs ≡ None → Among x xs → p x ≡ false
none_passes p [] x none a = elim a [ ]
none_passes p (y ∷ xs) x none first = (passed_by p x xs (p x) refl none).0
none_passes p (y ∷ xs) x none (later a) = none_passes p xs x (passed_by p y xs (p y) refl none).1 a

-- two functions that agree lead to the same devices
pub same_follow : (p q : ℕ → Option ℕ) → ((d : ℕ) → p d ≡ q d) → (n d : ℕ) → follow p n d ≡ follow q n d
same_follow p q same zero d = refl
same_follow p q same (suc n) d = ap (option_and_then p) (same_follow p q same n d) ∙ by (follow q n d)
  where
    by : (o : Option ℕ) → option_and_then p o ≡ option_and_then q o
    by None = refl
    by (Some x) = same x

-- what is up was made
pub up_made : (seen : List Seen) (d : ℕ) → is_up seen d ≡ true → was_made seen d ≡ true
up_made [] d up = cc
up_made (s ∷ seen) d up = go (makes d s.event) (fails (thing.Device d) s.event) up (up_made seen d)
  where
    go : (m f : Bool) → map_or (if m then Some true else if f then Some false else None) (is_up seen d) (λ told. told) ≡ true
        → (is_up seen d ≡ true → was_made seen d ≡ true) → (m || was_made seen d) ≡ true
    go true f up' rest = refl
    go false true up' rest = cc
    go false false up' rest = rest up'

-- an event that closes no window keeps the epoch in force
pub epoch_kept : (s : Seen) (seen : List Seen) → s.closed ≡ false → epoch_in_force (s ∷ seen) ≡ epoch_in_force seen
epoch_kept s seen open_ =
    ap (λ n. n + 1)
    (sum_by-cons (λ (x : Seen). cond x.closed 1 0) s seen ∙ ap (λ b. cond b 1 0 + count_by (λ (x : Seen). x.closed) seen) open_
    ∙ nothing (count_by (λ (x : Seen). x.closed) seen))
  where
    nothing : (n : ℕ) → 0 + n ≡ n
    nothing n = omega arith

-- An event that may be seen

parts : (a b c d e f g h i j k l m n : Bool) → not (a || b || c || d || e || f || g || h || i || j || k || l || m || n) ≡ true
    → (a ≡ false) × (b ≡ false) × (e ≡ false)
parts a b c d e f g h i j k l m n all =
    let five : (a || b || c || d || e) ≡ false =
    or_first _ f (or_first _ g (or_first _ h (or_first _ i (or_first _ j (or_first _ k (or_first _ l (or_first _ m (or_first _ n (not-true _ all))))))))) in
    let two : (a || b) ≡ false = or_first _ c (or_first _ d (or_first _ e five)) in
    ((or_parts a b two).0, (or_parts a b two).1, (or_parts (a || b || c || d) e five).1)

-- it names what is known, and time does not fall
pub seen_parts : (setting : Setting) (earlier : List Seen) (e : Event) → may_be_seen setting earlier e ≡ true
    → (unknown_device setting e ≡ false) × (unknown_link setting e ≡ false) × (time_falls earlier e ≡ false)
seen_parts setting earlier e allowed = parts _ _ _ _ _ _ _ _ _ _ _ _ _ _ allowed

-- the reference does not fall
pub time_rises : (setting : Setting) (earlier : List Seen) (e : Event) → may_be_seen setting earlier e ≡ true → latest_reference earlier ≤ reference_of e
time_rises setting earlier e allowed = ltb-false (reference_of e) (latest_reference earlier) (seen_parts setting earlier e allowed).2
