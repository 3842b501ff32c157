-- The tree of a plan text.
use Rattle.std.specs.Prelude.{ℕ, List, Option, None, length, ◌==◌, if◌then◌else◌}
use Rattle.std.specs.Str.Lossy.{utf8_valid_len}
use Rattle.serde_json.specs.Data.{Data}
use Rattle.serde_json.specs.Read.{read}

-- the tree of a text, where the bytes are text and JSON
abbrev pub tree_of : List ℕ → Option Data
tree_of bytes = if utf8_valid_len bytes == length bytes then read bytes else None
