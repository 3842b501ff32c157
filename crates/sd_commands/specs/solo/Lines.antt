-- What a line of a schedule says to one device alone.
use Rattle.std.specs.Prelude.{ℕ, Bool, List, [], ◌∷◌, Result, Err, codes, if◌then◌else◌}
use Rattle.std.specs.List.{list_any}
use Rattle.sd_sched.specs.Lines.{event_of_line, same_bytes, first_field}
use Rattle.sd_sched.specs.declared.Event.{Event}
use Rattle.sd_sched.specs.declared.LineFault.{LineFault}
use Rattle.sd_sched.specs.declared.LineFault.TheVariants.{UnknownWord}

-- the words that are known here
abbrev pub known_words : List (List ℕ)
known_words = codes "start" ∷ codes "fix" ∷ codes "ask" ∷ codes "end" ∷ []

-- the word is one of them
unfoldable pub knows : List ℕ → Bool
knows word = list_any (λ w. same_bytes w word) known_words

-- the event of a line, or its fault; a word that is not known here is unknown whatever its fields
unfoldable pub solo_event : List ℕ → Result Event LineFault
solo_event line = if knows (first_field line) then event_of_line line else Err UnknownWord
