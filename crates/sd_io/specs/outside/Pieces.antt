-- What is written, write by write.
use Rattle.std.specs.Prelude.{◌≡◌, ℕ, List, [], ◌∷◌, ◌++◌, Option, take}
use Rattle.std.specs.Option.{option_map}

-- the bytes of each write, in order: all that is written is their `concat`
abbrev pub Pieces : Type 0
Pieces = List (List ℕ)

-- the piece of one write: a write of no bytes leaves none
abbrev pub piece_of : List ℕ → Pieces
piece_of [] = []
piece_of (byte ∷ bytes) = (byte ∷ bytes) ∷ []

-- pieces that are told grow by these
abbrev pub AddsPieces : Option Pieces → Option Pieces → Pieces → Type 0
AddsPieces old new pieces = new ≡ option_map (λ before. before ++ pieces) old

-- nothing, or some front of the first of these pieces
abbrev pub IsBegun : Pieces → Pieces → Type 0
IsBegun pieces [] = Unit {0}
IsBegun (piece ∷ pieces) (front ∷ []) = (n : ℕ) × (front ≡ take n piece)
IsBegun _ _ = ⊥

-- a write has failed: whole pieces were added, and of the one after them some front
pub record AddsFront (old new : Option Pieces) (pieces : Pieces) : Type 0 where
  pub whole : Pieces
  pub others : Pieces
  pub begun : Pieces
  pub are : pieces ≡ whole ++ others
  pub front : IsBegun others begun
  pub added : AddsPieces old new (whole ++ begun)
