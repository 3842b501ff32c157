-- The tree of a topology text.
use Rattle.std.specs.Prelude.{ℕ, List, Option, None, length, ◌==◌, if◌then◌else◌}
use Rattle.std.specs.Str.Lossy.{utf8_valid_len}
use Rattle.toml.specs.Data.{Members}
use Rattle.toml.specs.Parse.{parse_document}

-- the tree of a text, where the bytes are text and TOML
abbrev pub tree_of : List ℕ → Option Members
tree_of bytes = if utf8_valid_len bytes == length bytes then parse_document bytes else None
