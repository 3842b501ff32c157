-- The line at the front of bytes, by its word and the fields after it.
use Rattle.std.proofs.Common.{◌≡◌, ◌∙◌, ℕ, ◌+◌, ◌-◌, ◌≤◌, true, not, List, ◌++◌, length, take, slice_range, Ok, refl, ap, arith, take-add}
use Rattle.std.specs.Prelude.{nat_eq}
use Rattle.std.proofs.lemmas.List.Folds.{list_all-append}
use Rattle.sd_sched.specs.Lines.{fields, event_of_fields, event_of_line}
use Rattle.sd_sched.specs.Spelled.{is_within}
use Rattle.sd_sched.specs.Reading.{row_of, fields_behind}
use Rattle.sd_sched.specs.InPlace.{HasLine, HasFields, is_one_line}
use Rattle.sd_sched.specs.declared.words.Word.{Word}
use Rattle.sd_sched.proofs.Joined.{has_no_space}
use Rattle.sd_sched.proofs.ByWord.{event_of, event_of_word_is, known_word}
use Rattle.sd_sched.proofs.InPlace.{numbers_in, fields_first, fields_ordered, fields_short, fields_one_line, newline_at, newline_behind}

module _ (w : Word) (bytes : List ℕ) (place len : ℕ) (ns : List ℕ) (spells : take place bytes ≡ (row_of w).spelled)
    (has : HasFields (row_of w).shape bytes place len ns)
  where
    -- the line is the word, and what follows it
    parts : take len bytes ≡ (row_of w).spelled ++ slice_range bytes place len
    parts =
        let ordered = fields_ordered (row_of w).shape bytes place len ns has in
        let all : len ≡ place + (len - place) = omega (arith, ordered) in
        ap (λ (n : ℕ). take n bytes) all ∙ take-add place (len - place) bytes
        ∙ ap (λ (word : List ℕ). word ++ slice_range bytes place len) spells

    -- its event is that of the word and the numbers
    event_is : has_no_space (row_of w).spelled ≡ true → event_of_line (take len bytes) ≡ Ok ((row_of w).event ns)
    unfolding event_of_line
    event_is clean =
        let texts = fields_behind (slice_range bytes place len) in
        ap (λ (line : List ℕ). event_of_fields (fields line)) parts
        ∙ ap event_of_fields (fields_first (row_of w).shape bytes (row_of w).spelled place len ns clean has)
        ∙ known_word w texts ∙ event_of_word_is (row_of w) texts
        ∙ ap (event_of (row_of w).event) (numbers_in 1 (row_of w).shape bytes place len ns has)

    -- and so it is the line of its event
    pub has_line : has_no_space (row_of w).spelled ≡ true → is_one_line (row_of w).spelled ≡ true → place ≤ 4 → length (row_of w).shape ≤ 5
        → is_within ((row_of w).event ns) ≡ true → HasLine bytes ((row_of w).event ns) len
    has_line clean one short few within =
        let whole : is_one_line (take len bytes) ≡ true =
        rw (
          parts,
          list_all-append (λ byte. not (nat_eq byte 10)) (row_of w).spelled (slice_range bytes place len),
          one,
          fields_one_line (row_of w).shape bytes place len ns has,
        ) refl in
        record {
          newline = newline_at bytes len whole (newline_behind (row_of w).shape bytes place len ns has);
          short = omega (arith, short, few, fields_short (row_of w).shape bytes place len ns has);
          event_is = event_is clean;
          within = within;
        }
