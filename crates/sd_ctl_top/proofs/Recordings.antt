-- The words of a recording: its plans, of which there are 1 to 64, and its log.
use Rattle.std.proofs.Common.{◌≡◌, ◌∙◌, ◌<◌, ◌≤◌, ℕ, List, Option, Some, None, ap, length, map, refl, sym}
use Rattle.std.specs.Prelude.{◌||◌, nat_lt, if◌then◌else◌}
use Rattle.std.proofs.lemmas.Bool.{le-ltb, lt-ltb}
use Rattle.std.proofs.lemmas.List.{length-map}
use Rattle.sd_ctl_top.specs.Words.{Command, all_but_last, last_word, record_over}
use Rattle.sd_ctl_top.specs.Words.Command.{Record}

module _ {A : Type 0} (bytes : A → List ℕ) (topology : List ℕ) (words : List A) where
  -- by their count
  abbrev over_count : ℕ → Option Command
  over_count n =
      if nat_lt n 2 || nat_lt 65 n then None else Some (Record topology (all_but_last (map bytes words)) (last_word (map bytes words)))

  by_count : record_over topology (map bytes words) ≡ over_count (length words)
  by_count = ap over_count (length-map words bytes)

  pub few_words : length words < 2 → None ≡ record_over topology (map bytes words)
  few_words few = sym (by_count ∙ rw (lt-ltb (length words) 2 few) refl)

  pub many_words : 2 ≤ length words → 65 < length words → None ≡ record_over topology (map bytes words)
  many_words some many = sym (by_count ∙ rw (le-ltb (length words) 2 some, lt-ltb 65 (length words) many) refl)

  pub recording_is : (plans : List (List ℕ)) (log : List ℕ) → 2 ≤ length words → length words ≤ 65 → plans ≡ all_but_last (map bytes words)
      → log ≡ last_word (map bytes words) → Some (Record topology plans log) ≡ record_over topology (map bytes words)
  recording_is plans log some few are is =
      ap (λ (ps : List (List ℕ)). Some (Record topology ps log)) are
      ∙ ap (λ (w : List ℕ). Some (Record topology (all_but_last (map bytes words)) w)) is
      ∙ sym (by_count ∙ rw (le-ltb (length words) 2 some, le-ltb 65 (length words) few) refl)
