-- What several writes have added.
use Rattle.std.proofs.Common.{◌≡◌, ℕ, ◌+◌, ◌-◌, List, ◌++◌, Option, length, take, drop, refl, subst}
use Rattle.std.proofs.lemmas.List.{take_rest}
use Rattle.std.proofs.Math.Seq.{take-add}
use Rattle.std.specs.Io.KnownBytes.{Appends}
use Rattle.std.proofs.KnownBytes.{Appends-trans}

-- a front of the bytes was added, and then a front of those that were left
pub Appends-more : (a b c : Option (List ℕ)) (bytes : List ℕ) (done n : ℕ) → Appends a b (take done bytes)
    → Appends b c (take n (take (length bytes - done) (drop done bytes)))
    → Appends a c (take (done + n) bytes)
Appends-more a b c bytes done n first second =
    let joined : take done bytes ++ take n (take (length bytes - done) (drop done bytes)) ≡ take (done + n) bytes =
    rw (take_rest bytes done, take-add done n bytes) refl in
    subst (Appends a c) joined (Appends-trans a b c _ _ first second)
