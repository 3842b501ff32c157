-- Ranges of a buffer.
use Rattle.std.proofs.Common.{◌≡◌, ℕ, ◌+◌, ◌-◌, ◌≤◌, List, ◌++◌, refl, sym, ap, ◌∙◌, length, take, drop, slice_range, arith}
use Rattle.std.proofs.lemmas.List.{drop-take, drop-drop, take_all, take_at}
use Rattle.sd_num.proofs.Shared.{range_split}

-- a range of the front
range_in_front : (xs : List ℕ) (a b : ℕ) → a ≤ b → slice_range xs a b ≡ drop a (take b xs)
range_in_front xs a b h =
    let e : a + (b - a) ≡ b = omega arith in
    rw e at (sym (drop-take a (b - a) xs))

-- what stands before the end stays, whatever comes after it
pub same_range : (old new : List ℕ) (s e : ℕ) → s ≤ e → take e new ≡ take e old → slice_range new s e ≡ slice_range old s e
same_range old new s e h same = range_in_front new s e h ∙ ap (drop s) same ∙ sym (range_in_front old s e h)

-- what came stands after what was there
pub grown_range : (old new : List ℕ) (s e n : ℕ) → s ≤ e → take e new ≡ take e old
    → slice_range new s (e + n) ≡ slice_range old s e ++ slice_range new e (e + n)
grown_range old new s e n h same =
    let le : e ≤ e + n = omega arith in
    range_split new s e (e + n) h le ∙ ap (λ l. l ++ slice_range new e (e + n)) (same_range old new s e h same)

-- the bytes that were there are the front
pub front_kept : (old more new : List ℕ) → new ≡ old ++ more → take (length old) new ≡ old
front_kept old more new e = ap (take (length old)) e ∙ take_at old more (length old) refl

-- a range without its first bytes
pub passed_range : (xs : List ℕ) (s e n : ℕ) → s + n ≤ e → slice_range xs (s + n) e ≡ drop n (slice_range xs s e)
passed_range xs s e n h =
    let k : e - s ≡ n + (e - (s + n)) = omega arith in
    rw (k, drop-take n (e - (s + n)) (drop s xs), drop-drop n s xs) refl

-- bytes that begin with the old ones, and are as many, are the old ones
pub same_bytes : (old new : List ℕ) → take (length old) new ≡ old → length new ≡ length old → new ≡ old
same_bytes old new front same = sym (take_all (length old) new (omega arith)) ∙ front
