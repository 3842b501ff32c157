-- Pieces of bytes, one more of them, and all of them together.
use Rattle.std.proofs.Common.{◌≡◌, ℕ, ◌+◌, ◌≤◌, ◌<◌, List, [], ◌∷◌, ◌++◌, refl, sym, ap, ◌∙◌, length, take, drop, arith, suc, zero}
use Rattle.std.specs.List.{concat}
use Rattle.std.proofs.lemmas.List.{take-append-drop, take-append-le, drop-append-le, take_all, nil_from_length, length-drop}
use Rattle.sd_io.specs.outside.Pieces.{IsBegun, piece_of}
use Rattle.sd_io.specs.outside.MemSink.{cut_by, total}

-- one more piece after the others
cut_more : (ns : List ℕ) (n : ℕ) (bytes more : List ℕ) → total ns ≡ length bytes → n ≡ length more
    → cut_by (ns ++ n ∷ []) (bytes ++ more) ≡ cut_by ns bytes ++ more ∷ []
cut_more [] n bytes more all is =
    let none : bytes ≡ [] = nil_from_length bytes (sym all) in
    rw (none, is) (ap (λ (l : List ℕ). l ∷ []) (take_all (length more) more (omega arith)))
cut_more (m ∷ ns) n bytes more all is =
    let within : m ≤ length bytes = omega arith in
    let others : total ns ≡ length (drop m bytes) = omega (arith, length-drop m bytes) in
    rw (take-append-le m bytes more within, drop-append-le m bytes more within, cut_more ns n (drop m bytes) more others is) refl

pub cut_piece : (ns : List ℕ) (bytes more : List ℕ) → total ns ≡ length bytes → 0 < length more
    → cut_by (ns ++ length more ∷ []) (bytes ++ more) ≡ cut_by ns bytes ++ piece_of more
cut_piece ns bytes [] all some = absurd (omega arith)
cut_piece ns bytes (byte ∷ more) all some = cut_more ns (length (byte ∷ more)) bytes (byte ∷ more) all refl

pub total_more : (ns : List ℕ) (n : ℕ) → total (ns ++ n ∷ []) ≡ total ns + n
total_more [] n = omega arith
total_more (m ∷ ns) n = omega (arith, total_more ns n)

-- all pieces together are the bytes
pub concat_cut : (ns : List ℕ) (bytes : List ℕ) → total ns ≡ length bytes → concat (cut_by ns bytes) ≡ bytes
concat_cut [] bytes all = sym (nil_from_length bytes (sym all))
concat_cut (n ∷ ns) bytes all =
    let others : total ns ≡ length (drop n bytes) = omega (arith, length-drop n bytes) in
    ap (λ (l : List ℕ). take n bytes ++ l) (concat_cut ns (drop n bytes) others) ∙ take-append-drop n bytes

-- a front of a piece is one
pub begun_by : (bytes : List ℕ) (n : ℕ) → IsBegun (piece_of bytes) (piece_of (take n bytes))
begun_by [] zero = tt
begun_by [] (suc n) = tt
begun_by (byte ∷ bytes) zero = tt
begun_by (byte ∷ bytes) (suc n) = (suc n, refl)
