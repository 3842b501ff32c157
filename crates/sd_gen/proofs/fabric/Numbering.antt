-- Lists of a fabric as functions of numbers below a count.
use Rattle.std.specs.Prelude.{◌≡◌, ℕ, zero, suc, ◌+◌, ◌-◌, ◌*◌, ◌/◌, ◌%◌, ◌<◌, Bool, false, ◌||◌, List, [], ◌∷◌, ◌++◌, map, flat_map, sum_by, nat_lt, refl, if◌then◌else◌}
use Rattle.std.specs.List.{list_any}
use Rattle.std.proofs.Common.{arith, ap, sym, ◌∙◌, append_assoc}
use Rattle.std.proofs.lemmas.Bool.{lt-ltb, le-ltb}
use Rattle.std.proofs.lemmas.Nat.{div-mul-add, mod-mul-add}
use Rattle.std.proofs.lemmas.List.{map-append, append-nil}
use Rattle.std.proofs.lemmas.List.Concat.{flat_map-append}
use Rattle.std.proofs.lemmas.List.Folds.{list_any-append}
use Rattle.std.proofs.lemmas.List.Sums.{sum_by_push}
use Rattle.sd_num.specs.Lists.{below}

-- the list of the numbers below a count, each seen by f
abbrev pub numbered : {A : Type 0} → (ℕ → A) → ℕ → List A
numbered f n = map f (below n)

pub one_more : {A : Type 0} (f : ℕ → A) (n : ℕ) → numbered f (suc n) ≡ numbered f n ++ f n ∷ []
one_more f n = map-append f (below n) (n ∷ [])

pub alike : {A : Type 0} (f g : ℕ → A) (n : ℕ) → ((k : ℕ) → k < n → f k ≡ g k) → numbered f n ≡ numbered g n
alike f g zero same = refl
alike f g (suc n) same =
    one_more f n
    ∙ ap (λ xs. xs ++ f n ∷ []) (alike f g n (λ k h. same k (omega (arith, h))))
    ∙ ap (λ y. numbered g n ++ y ∷ []) (same n (omega arith))
    ∙ sym (one_more g n)

plus : {A : Type 0} (f : ℕ → A) (m n : ℕ) → numbered f (m + n) ≡ numbered f m ++ numbered (λ k. f (m + k)) n
plus f m zero = ap (numbered f) (let same : m + 0 ≡ m = omega arith in same) ∙ sym (append-nil (numbered f m))
plus f m (suc n) =
    ap (numbered f) (let same : m + suc n ≡ suc (m + n) = omega arith in same)
    ∙ one_more f (m + n)
    ∙ ap (λ xs. xs ++ f (m + n) ∷ []) (plus f m n)
    ∙ append_assoc (numbered f m) (numbered (λ k. f (m + k)) n) (f (m + n) ∷ [])
    ∙ ap (λ xs. numbered f m ++ xs) (sym (one_more (λ k. f (m + k)) n))

-- two lists, one after the other
pub numbered_append : {A : Type 0} (f g : ℕ → A) (m n : ℕ) → numbered f m ++ numbered g n ≡ numbered (λ k. if nat_lt k m then f k else g (k - m)) (m + n)
numbered_append {A} f g m n =
    let h : ℕ → A = λ k. if nat_lt k m then f k else g (k - m) in
    ap (λ xs. xs ++ numbered g n) (alike f h m (λ k less. rw (lt-ltb k m less) refl))
    ∙ ap (λ xs. numbered h m ++ xs)
    (alike g (λ k. h (m + k)) n (λ k less. let back : m + k - m ≡ k = omega arith in rw (le-ltb (m + k) m (omega arith), back) refl))
    ∙ sym (plus h m n)

-- the rows of a grid, one after the other
pub grid : {A : Type 0} (h : ℕ → ℕ → A) (rows columns : ℕ)
    → flat_map (λ i. numbered (h i) columns) (below rows) ≡ numbered (λ l. h (l / columns) (l % columns)) (rows * columns)
grid {A} h zero columns = let none : 0 * columns ≡ 0 = omega arith in let f : ℕ → A = λ l. h (l / columns) (l % columns) in sym (ap (numbered f) none)
grid {A} h (suc rows) columns =
    let f : ℕ → A = λ l. h (l / columns) (l % columns) in
    flat_map-append (λ i. numbered (h i) columns) (below rows) (rows ∷ [])
    ∙ ap (λ xs. flat_map (λ i. numbered (h i) columns) (below rows) ++ xs) (append-nil (numbered (h rows) columns))
    ∙ ap (λ xs. xs ++ numbered (h rows) columns) (grid h rows columns)
    ∙ ap (λ xs. numbered f (rows * columns) ++ xs)
    (alike (h rows) (λ k. f (rows * columns + k)) columns (λ k less. rw (div-mul-add rows columns k less, mod-mul-add rows columns k less) refl))
    ∙ sym (plus f (rows * columns) columns)
    ∙ ap (numbered f) (let same : rows * columns + columns ≡ suc rows * columns = omega arith in same)

-- a test that all fail
pub none_below : {A : Type 0} (p : A → Bool) (f : ℕ → A) (n : ℕ) → ((k : ℕ) → k < n → p (f k) ≡ false) → list_any p (numbered f n) ≡ false
none_below p f zero fails = refl
none_below p f (suc n) fails =
    ap (list_any p) (one_more f n)
    ∙ list_any-append p (numbered f n) (f n ∷ [])
    ∙ ap (λ b. b || (p (f n) || false)) (none_below p f n (λ k h. fails k (omega (arith, h))))
    ∙ ap (λ b. b || false) (fails n (omega arith))

-- a sum of equal parts
pub sum_alike : {A : Type 0} (g : A → ℕ) (f : ℕ → A) (c n : ℕ) → ((k : ℕ) → g (f k) ≡ c) → sum_by g (numbered f n) ≡ n * c
sum_alike g f c zero same = omega arith
sum_alike g f c (suc n) same =
    let more : sum_by g (numbered f (suc n)) ≡ sum_by g (numbered f n) + g (f n) = ap (sum_by g) (one_more f n) ∙ sum_by_push g (numbered f n) (f n) in
    let rest : sum_by g (numbered f n) ≡ n * c = sum_alike g f c n same in
    let one : g (f n) ≡ c = same n in
    omega (arith, more, rest, one)
