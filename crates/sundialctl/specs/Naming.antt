-- The words by which a file is named that could not be read, and how a run ends.
use Rattle.std.specs.Prelude.{◌≡◌, ℕ, ◌-◌, ◌&&◌, Bool, false, List, [], ◌∷◌, length, drop, Option, None, Some, codes, nat_lt, slice_get, if◌then◌else◌}
use Rattle.std.specs.Str.{bytes_eq}
use Rattle.std.specs.declared.io.Error.{Error}
use Rattle.std.specs.declared.process.ExitCode.{ExitCode}
use Rattle.sd_io.specs.declared.outside.LastFault.{LastFault}
use Rattle.sd_files.specs.edge.Endings.{EndsRun}

-- this is the word in a place
abbrev pub is_word : Option (List ℕ) → List ℕ → Bool
is_word None text = false
is_word (Some word) text = bytes_eq word text

-- the files of a command are the words after its own, but for the opening of `resume`: it is opened where the slash stands, and is the last word
abbrev pub words_for : List (List ℕ) → ℕ → List (List ℕ)
words_for words file =
    if is_word (slice_get words 0) (codes "resume") && nat_lt 1 file && is_word (slice_get words file) (codes "/") then drop (length words - 1 - file) words
    else words

-- the feed of `merge` is after the number of the logs
abbrev pub words_by_command : List (List ℕ) → ℕ → List (List ℕ)
words_by_command [] file = []
words_by_command (command ∷ others) file = if bytes_eq command (codes "merge") then others else words_for (command ∷ others) file

abbrev pub naming : List (List ℕ) → Option LastFault → List (List ℕ)
naming words None = words
naming words (Some fault) = words_by_command words fault.file

-- a run ends so, and its words are named so
pub record EndsCtlRun {S : Type 0} (writes : S → List ℕ × Option Error → S → Type 0) (words : List (List ℕ)) (old new : S) (code : ExitCode) : Type 0 where
  pub named : List (List ℕ)
  pub ends : EndsRun writes named old new code
  pub names : named ≡ naming words ends.fault
