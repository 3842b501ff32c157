-- The lines of a document, part by part.
use Rattle.std.specs.Prelude.{ℕ, ◌<◌, false, List, [], length, map}
use Rattle.toml.specs.Data.{Members, table}
use Rattle.toml.specs.Tables.{Expression}
use Rattle.toml.specs.Text.{IsLinesText, elements}
use Rattle.toml.specs.View.{items_of}
use Rattle.sd_num.specs.Lists.{below}
use Rattle.sd_topotext.specs.declared.fault.Key.TheVariants as keys
use Rattle.sd_topotext.specs.Printed.{put}
use Rattle.sd_gen.specs.fabric.Fabrics.{spine_name}
use Rattle.sd_gen.specs.fabric.Trees.{strings, numbers_tree}

-- the text begins a document with these lines, of which there are some
pub record HasLines (lines : List Expression) (text : List ℕ) : Type 0 where
  pub written : IsLinesText false false lines text
  pub some : 0 < length lines

-- the lines of an array of tables under its key
abbrev pub section_of : List ℕ → List Members → List Expression
section_of key all = elements ([], key) (items_of (map table all))

-- what stands before all arrays of tables
abbrev pub front_tree : (spines : ℕ) → Members
front_tree spines = put keys.Roots (strings (map spine_name (below spines))) numbers_tree
