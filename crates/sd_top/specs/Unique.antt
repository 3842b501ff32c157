-- Over the same texts a command has one answer.
use Rattle.std.specs.Prelude.{◌≡◌, ℕ, List, Option, Some}
use Rattle.sd_topotext.specs.Meaning.{network_of}
use Rattle.sd_topotext.specs.Reading.{tree_of}
use Rattle.sd_files.specs.Texts.{Texts}
use Rattle.sd_files.specs.declared.Status.{Status}
use Rattle.sd_top.specs.Promise.{Answers}
use Rattle.sd_top.specs.Words.{Command}
use Rattle.sd_top.specs.Words.Command.{Migrate}

-- the bytes are the same; of `migrate`, whose layout is free, what they mean
abbrev pub Alike : Option Command → List ℕ → List ℕ → Type 0
Alike (Some (Migrate topology)) bytes other = network_of (tree_of bytes) ≡ network_of (tree_of other)
Alike _ bytes other = bytes ≡ other

-- a command has one answer over the same texts
abbrev pub HasOneAnswer : Type 0
HasOneAnswer =
    (command : Option Command) (texts : Texts) (bytes other : List ℕ) (status also : Status) → Answers command texts bytes status
    → Answers command texts other also → (status ≡ also) × Alike command bytes other
