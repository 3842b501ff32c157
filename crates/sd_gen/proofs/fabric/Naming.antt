-- The names of a fabric are within the limits of names, and no two of a kind are equal.
use Rattle.std.specs.Prelude.{◌≡◌, ◌≢◌, ℕ, ◌+◌, ◌-◌, ◌^◌, ◌<◌, ◌≤◌, Bool, true, false, ◌%◌, List, [], ◌∷◌, ◌++◌, length, nat_le, nat_lt, codes, decimal, refl, if◌then◌else◌}
use Rattle.std.specs.List.{list_all}
use Rattle.std.specs.Str.{bytes_eq}
use Rattle.std.proofs.Common.{arith, ap, sym, ◌∙◌, append_assoc}
use Rattle.std.proofs.lemmas.Bool.{le-leb, leb-true, and_parts, and_from, false_from_ne_true, ltb-false}
use Rattle.std.proofs.lemmas.Fmt.{decimal_by_steps, decimal_injective, length-decimal-le}
use Rattle.std.proofs.lemmas.Nat.{mod_below}
use Rattle.std.proofs.lemmas.List.{length-append}
use Rattle.std.proofs.lemmas.List.Folds.{list_all-append}
use Rattle.sd_num.specs.Decimals.{is_digit}
use Rattle.sd_plan.specs.topo.Network.{is_name, is_name_byte}
use Rattle.sd_plan.proofs.topo.Places.{same_bytes}
use Rattle.sd_gen.specs.fabric.Fabrics.{spine_name, leaf_name, link_name}
use Rattle.sd_gen.specs.fabric.Numbered.{numbered_device_name}

-- a decimal number has digits alone
all_digits : (n : ℕ) → n < 2 ^ 64 → list_all is_digit (decimal n) ≡ true
all_digits = decimal_by_steps (λ n ds. list_all is_digit ds ≡ true) one more
  where
    digit : (d : ℕ) → d < 10 → is_digit (48 + d) ≡ true
    digit d small = and_from (nat_le 48 (48 + d)) (nat_le (48 + d) 57) (le-leb 48 (48 + d) (omega arith)) (le-leb (48 + d) 57 (omega (arith, small)))

    one : (n : ℕ) → n < 10 → list_all is_digit ((48 + n) ∷ []) ≡ true
    one n small = and_from (is_digit (48 + n)) true (digit n small) refl

    more : (n : ℕ) (ds : List ℕ) → 10 ≤ n → list_all is_digit ds ≡ true → list_all is_digit (ds ++ ((48 + n % 10) ∷ [])) ≡ true
    more n ds large all =
        list_all-append is_digit ds ((48 + n % 10) ∷ [])
        ∙ and_from (list_all is_digit ds) (list_all is_digit ((48 + n % 10) ∷ [])) all
        (and_from (is_digit (48 + n % 10)) true (digit (n % 10) (mod_below n 10 (omega arith))) refl)

-- a digit may stand in a name
name_byte : (b : ℕ) → is_digit b ≡ true → is_name_byte b ≡ true
name_byte b digit = rw digit refl

name_bytes : (bs : List ℕ) → list_all is_digit bs ≡ true → list_all is_name_byte bs ≡ true
name_bytes [] all = refl
name_bytes (b ∷ bs) all =
    let parts = and_parts (is_digit b) (list_all is_digit bs) all in
    and_from (is_name_byte b) (list_all is_name_byte bs) (name_byte b parts.0) (name_bytes bs parts.1)

decimal_bytes : (n : ℕ) → n < 2 ^ 64 → list_all is_name_byte (decimal n) ≡ true
decimal_bytes n small = name_bytes (decimal n) (all_digits n small)

is_name_by : (bs : List ℕ) → 1 ≤ length bs → length bs ≤ 64 → list_all is_name_byte bs ≡ true → is_name bs ≡ true
is_name_by bs some few all = rw (le-leb 1 (length bs) some, le-leb (length bs) 64 few, all) refl

-- a few letters with a number after them
lettered : (front : List ℕ) (n : ℕ) → n < 10 ^ 3 → 1 ≤ length front → length front ≤ 60 → list_all is_name_byte front ≡ true
    → is_name (front ++ decimal n) ≡ true
lettered front n small some few all =
    let count = length-append front (decimal n) in
    let digits : length (decimal n) ≤ 3 = length-decimal-le 3 n (omega arith) small (omega (arith, small)) in
    is_name_by (front ++ decimal n) (omega (arith, count, some)) (omega (arith, count, few, digits))
    (list_all-append is_name_byte front (decimal n)
    ∙ and_from (list_all is_name_byte front) (list_all is_name_byte (decimal n)) all (decimal_bytes n (omega (arith, small))))

pub spine_is_name : (j : ℕ) → j < 10 ^ 3 → is_name (spine_name j) ≡ true
spine_is_name j small = lettered (codes "s") j small (omega arith) (omega arith) refl

pub leaf_is_name : (i : ℕ) → i < 10 ^ 3 → is_name (leaf_name i) ≡ true
leaf_is_name i small = lettered (codes "l") i small (omega arith) (omega arith) refl

pub rack_is_name : (i : ℕ) → i < 10 ^ 3 → is_name (codes "rack" ++ decimal i) ≡ true
rack_is_name i small = lettered (codes "rack") i small (omega arith) (omega arith) refl

pub device_is_name : (spines d : ℕ) → d < 10 ^ 3 → is_name (numbered_device_name spines d) ≡ true
device_is_name spines d small = by (nat_lt d spines)
  where
    by : (b : Bool) → is_name (if b then spine_name d else leaf_name (d - spines)) ≡ true
    by true = spine_is_name d small
    by false = leaf_is_name (d - spines) (omega (arith, small))

-- a link's name in its parts
link_parts : (i j : ℕ) → link_name i j ≡ 107 ∷ (decimal i ++ 45 ∷ decimal j)
link_parts i j = ap (λ bs. 107 ∷ bs) (append_assoc (decimal i) (45 ∷ []) (decimal j))

pub link_is_name : (i j : ℕ) → i < 10 ^ 3 → j < 10 ^ 3 → is_name (link_name i j) ≡ true
link_is_name i j small narrow =
    let first : length (decimal i) ≤ 3 = length-decimal-le 3 i (omega arith) small (omega (arith, small)) in
    let second : length (decimal j) ≤ 3 = length-decimal-le 3 j (omega arith) narrow (omega (arith, narrow)) in
    let count : length (decimal i ++ 45 ∷ decimal j) ≡ length (decimal i) + length (45 ∷ decimal j) = length-append (decimal i) (45 ∷ decimal j) in
    ap is_name (link_parts i j)
    ∙ is_name_by (107 ∷ (decimal i ++ 45 ∷ decimal j)) (omega arith) (omega (arith, count, first, second))
    (list_all-append is_name_byte (decimal i) (45 ∷ decimal j)
    ∙ and_from (list_all is_name_byte (decimal i)) (list_all is_name_byte (45 ∷ decimal j)) (decimal_bytes i (omega (arith, small)))
    (decimal_bytes j (omega (arith, narrow))))

-- No two are equal

-- names that differ are told apart
pub told_apart : (x y : List ℕ) → x ≢ y → bytes_eq x y ≡ false
told_apart x y differ = false_from_ne_true (bytes_eq x y) (λ same. differ (same_bytes x y same))

-- what stands after equal fronts is equal
behind : (front xs ys : List ℕ) → front ++ xs ≡ front ++ ys → xs ≡ ys
behind [] xs ys same = same
behind (b ∷ front) xs ys same = behind front xs ys (tails same)
  where
    tail_of : List ℕ → List ℕ
    tail_of [] = []
    tail_of (c ∷ cs) = cs

    tails : b ∷ (front ++ xs) ≡ b ∷ (front ++ ys) → front ++ xs ≡ front ++ ys
    tails h = ap tail_of h

numbers_same : (front : List ℕ) (m n : ℕ) → m < 10 ^ 3 → n < 10 ^ 3 → front ++ decimal m ≡ front ++ decimal n → m ≡ n
numbers_same front m n small narrow same = decimal_injective m n (omega (arith, small)) (omega (arith, narrow)) (behind front (decimal m) (decimal n) same)

pub racks_apart : (m n : ℕ) → m < 10 ^ 3 → n < 10 ^ 3 → m ≢ n → (codes "rack" ++ decimal m) ≢ (codes "rack" ++ decimal n)
racks_apart m n small narrow differ same = differ (numbers_same (codes "rack") m n small narrow same)

abbrev head_of : List ℕ → ℕ
head_of [] = 0
head_of (b ∷ bs) = b

heads : (xs ys : List ℕ) → xs ≡ ys → (head_of xs ≡ head_of ys → ⊥) → ⊥
heads xs ys same differ = differ (ap head_of same)

pub devices_apart : (spines m n : ℕ) → m < 10 ^ 3 → n < 10 ^ 3 → m ≢ n → numbered_device_name spines m ≢ numbered_device_name spines n
devices_apart spines m n small narrow differ = by (nat_lt m spines) (nat_lt n spines) refl refl
  where
    by : (a b : Bool) → nat_lt m spines ≡ a → nat_lt n spines ≡ b
        → (if a then spine_name m else leaf_name (m - spines)) ≢ (if b then spine_name n else leaf_name (n - spines))
    by true true h k same = differ (numbers_same (codes "s") m n small narrow same)
    by true false h k same = heads (spine_name m) (leaf_name (n - spines)) same (λ e. omega (arith, e))
    by false true h k same = heads (leaf_name (m - spines)) (spine_name n) same (λ e. omega (arith, e))
    by false false h k same =
        let less : m - spines ≡ n - spines = numbers_same (codes "l") (m - spines) (n - spines) (omega (arith, small)) (omega (arith, narrow)) same in
        let low : spines ≤ m = ltb-false m spines h in
        let high : spines ≤ n = ltb-false n spines k in
        differ (omega (arith, less, low, high))

-- two numbers with a dash between them
dashed : (xs ys us vs : List ℕ) → list_all is_digit xs ≡ true → list_all is_digit us ≡ true → xs ++ 45 ∷ ys ≡ us ++ 45 ∷ vs → (xs ≡ us) × (ys ≡ vs)
dashed [] ys [] vs a b same = (refl, behind (45 ∷ []) ys vs same)
dashed [] ys (u ∷ us) vs a b same =
    let first : 45 ≡ u = cc in
    absurd (let digit = (and_parts (is_digit u) (list_all is_digit us) b).0 in
    let low : 48 ≤ u = leb-true 48 u (and_parts (nat_le 48 u) (nat_le u 57) digit).0 in omega (arith, first, low))
dashed (x ∷ xs) ys [] vs a b same =
    let first : x ≡ 45 = cc in
    absurd (let digit = (and_parts (is_digit x) (list_all is_digit xs) a).0 in
    let low : 48 ≤ x = leb-true 48 x (and_parts (nat_le 48 x) (nat_le x 57) digit).0 in omega (arith, first, low))
dashed (x ∷ xs) ys (u ∷ us) vs a b same =
    let first : x ≡ u = cc in
    let rest : xs ++ 45 ∷ ys ≡ us ++ 45 ∷ vs = cc in
    let more = dashed xs ys us vs (and_parts (is_digit x) (list_all is_digit xs) a).1 (and_parts (is_digit u) (list_all is_digit us) b).1 rest in
    (ap (λ c. c ∷ xs) first ∙ ap (λ cs. u ∷ cs) more.0, more.1)

pub links_same : (i j m n : ℕ) → i < 10 ^ 3 → j < 10 ^ 3 → m < 10 ^ 3 → n < 10 ^ 3 → link_name i j ≡ link_name m n → (i ≡ m) × (j ≡ n)
links_same i j m n a b c d same =
    let parts = dashed (decimal i) (decimal j) (decimal m) (decimal n) (all_digits i (omega (arith, a))) (all_digits m (omega (arith, c)))
    (behind (107 ∷ []) (decimal i ++ 45 ∷ decimal j) (decimal m ++ 45 ∷ decimal n) (sym (link_parts i j) ∙ same ∙ link_parts m n)) in
    (decimal_injective i m (omega (arith, a)) (omega (arith, c)) parts.0, decimal_injective j n (omega (arith, b)) (omega (arith, d)) parts.1)
