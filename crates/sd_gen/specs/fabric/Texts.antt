-- A text that means the network of leaves and spines.
use Rattle.std.specs.Prelude.{◌≡◌, ℕ, List, Ok}
use Rattle.sd_topotext.specs.Meaning.{network_of}
use Rattle.sd_topotext.specs.Reading.{tree_of}
use Rattle.sd_gen.specs.fabric.Fabrics.{fabric}

-- a text that is read as the network: of a printed text only what is read from it counts
abbrev pub IsFabricText : (leaves spines : ℕ) → List ℕ → Type 0
IsFabricText leaves spines text = network_of (tree_of text) ≡ Ok (fabric leaves spines)
