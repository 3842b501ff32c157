-- The tree of bytes that are text, and the greatest delay of the links so far.
use Rattle.std.proofs.Common.{◌≡◌, ℕ, List, length, Option, eq-eqb}
use Rattle.std.specs.Str.{IsUtf8}
use Rattle.std.specs.Str.Lossy.{utf8_valid_len}
use Rattle.std.proofs.lemmas.Str.{utf8_valid_len-IsUtf8}
use Rattle.toml.specs.Data.{Members}
use Rattle.toml.specs.Parse.{parse_document}
use Rattle.sd_topotext.specs.Reading.{tree_of}

-- bytes that are text have the tree that was parsed
pub tree_known : (bytes text : List ℕ) (x : Option Members) → text ≡ bytes → IsUtf8 bytes → parse_document text ≡ x → tree_of bytes ≡ x
tree_known bytes text x same valid read =
    rw (eq-eqb (utf8_valid_len bytes) (length bytes) (utf8_valid_len-IsUtf8 bytes valid), ← same) read
