-- What several writes add, one after the other, and the bytes of them all.
use Rattle.std.proofs.Common.{◌≡◌, ℕ, List, [], ◌∷◌, ◌++◌, Option, None, Some, refl, sym, ap, ◌∙◌, subst, length, take, drop, append_assoc, append-nil, take-append-drop}
use Rattle.std.specs.List.{concat}
use Rattle.std.specs.Option.{option_map}
use Rattle.std.proofs.Math.Seq.{take-append_seam}
use Rattle.std.proofs.lemmas.List.Folds.{concat-append}
use Rattle.sd_io.specs.outside.Pieces.{Pieces, AddsFront, AddsPieces, IsBegun, piece_of}

-- no piece more
pub adds_none : (a : Option Pieces) → AddsPieces a a []
adds_none None = refl
adds_none (Some x) = ap Some (sym (append-nil x))

pub adds_both : (a b c : Option Pieces) (xs ys : Pieces) → AddsPieces a b xs → AddsPieces b c ys → AddsPieces a c (xs ++ ys)
adds_both None b c xs ys p q = q ∙ ap (option_map (λ (before : Pieces). before ++ ys)) p
adds_both (Some x) b c xs ys p q = q ∙ ap (option_map (λ (before : Pieces). before ++ ys)) p ∙ ap Some (append_assoc x xs ys)

begun_more : (others more begun : Pieces) → IsBegun others begun → IsBegun (others ++ more) begun
begun_more others more [] h = tt
begun_more [] more (front ∷ begun) h = absurd h
begun_more (piece ∷ others) more (front ∷ []) h = h
begun_more (piece ∷ others) more (front ∷ next ∷ begun) h = absurd h

regroup : (a b c d : Pieces) → (a ++ (b ++ c)) ++ d ≡ (a ++ b) ++ (c ++ d)
regroup a b c d = simp append_assoc

-- a front of what comes next is a front of it all
pub front_behind : (a b c : Option Pieces) (done next more : Pieces) → AddsPieces a b done → AddsFront b c next → AddsFront a c ((done ++ next) ++ more)
front_behind a b c done next more first f =
    record {
      whole = done ++ f.whole;
      others = f.others ++ more;
      begun = f.begun;
      are = ap (λ (l : Pieces). (done ++ l) ++ more) f.are ∙ regroup done f.whole f.others more;
      front = begun_more f.others more f.begun f.front;
      added = subst (AddsPieces a c) (sym (append_assoc done f.whole f.begun)) (adds_both a b c done (f.whole ++ f.begun) first f.added);
    }

-- the bytes of one write
pub concat_piece : (bytes : List ℕ) → concat (piece_of bytes) ≡ bytes
concat_piece [] = refl
concat_piece (byte ∷ bytes) = append-nil (byte ∷ bytes)

begun_rest : (others begun : Pieces) → IsBegun others begun → (rest : List ℕ) × (concat others ≡ concat begun ++ rest)
begun_rest others [] h = (concat others, refl)
begun_rest [] (front ∷ begun) h = absurd h
begun_rest (piece ∷ others) (front ∷ next ∷ begun) h = absurd h
begun_rest (piece ∷ others) (front ∷ []) h =
    let split : piece ≡ front ++ drop h.0 piece = sym (take-append-drop h.0 piece) ∙ ap (λ (l : List ℕ). l ++ drop h.0 piece) (sym h.1) in (
      drop h.0 piece ++ concat others,
      ap (λ (l : List ℕ). l ++ concat others) split
          ∙ append_assoc front (drop h.0 piece) (concat others)
          ∙ ap (λ (l : List ℕ). l ++ (drop h.0 piece ++ concat others)) (sym (append-nil front)),
    )

-- the bytes of a front are a front of the bytes
pub concat_front : (pieces whole others begun : Pieces) → pieces ≡ whole ++ others → IsBegun others begun
    → (n : ℕ) × (concat (whole ++ begun) ≡ take n (concat pieces))
concat_front pieces whole others begun are h =
    let more = begun_rest others begun h in
    let all : concat pieces ≡ concat (whole ++ begun) ++ more.0 =
    ap concat are ∙ concat-append whole others ∙ ap (λ (l : List ℕ). concat whole ++ l) more.1 ∙ sym (append_assoc (concat whole) (concat begun) more.0)
    ∙ ap (λ (l : List ℕ). l ++ more.0) (sym (concat-append whole begun)) in
    (length (concat (whole ++ begun)), sym (ap (take (length (concat (whole ++ begun)))) all ∙ take-append_seam (concat (whole ++ begun)) more.0))
