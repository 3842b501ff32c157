-- The tree of bytes that are text.
use Rattle.std.proofs.Common.{◌≡◌, ℕ, List, length, Option, eq-eqb}
use Rattle.std.specs.Str.{IsUtf8}
use Rattle.std.specs.Str.Lossy.{utf8_valid_len}
use Rattle.std.proofs.lemmas.Str.{utf8_valid_len-IsUtf8}
use Rattle.serde_json.specs.Data.{Data}
use Rattle.serde_json.specs.Read.{read}
use Rattle.sd_plantext.specs.Reading.{tree_of}

-- bytes that are text have the tree that was read
pub tree_known : (bytes text : List ℕ) (x : Option Data) → text ≡ bytes → IsUtf8 bytes → read text ≡ x → tree_of bytes ≡ x
tree_known bytes text x same valid found =
    rw (eq-eqb (utf8_valid_len bytes) (length bytes) (utf8_valid_len-IsUtf8 bytes valid), ← same) found
