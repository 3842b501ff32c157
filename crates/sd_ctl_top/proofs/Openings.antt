-- The words of an opening: where the slash stands, and which words lie before it and after it.
use Rattle.std.proofs.Common.{◌≡◌, ◌∙◌, ◌<◌, ◌≤◌, ◌+◌, ◌-◌, ℕ, Bool, true, false, List, [], ◌∷◌, Option, Some, None, ap, arith, drop, get_or, length, map, refl, sym, take}
use Rattle.std.specs.Prelude.{◌||◌, codes, nat_lt, if◌then◌else◌}
use Rattle.std.specs.Str.{bytes_eq}
use Rattle.std.proofs.lemmas.Bool.{le-ltb, lt-ltb}
use Rattle.std.proofs.lemmas.List.{at_drop_all, at_drop_more, drop-map, get_or-map, length-map, take-map}
use Rattle.sd_ctl_top.specs.Words.{Command, all_but_last, last_word, resume_at, resume_over, resume_parts, same_words, slash_from}
use Rattle.sd_ctl_top.specs.Words.Command.{Resume}

module _ {A : Type 0} (bytes : A → List ℕ) where
  -- a word that is no slash
  pub slash_later : (words : List A) (place : ℕ) (word : A) → place < length words → word ≡ get_or words place word
      → bytes_eq (bytes word) (codes "/") ≡ false
      → slash_from place (map bytes (drop place words)) ≡ slash_from (place + 1) (map bytes (drop (place + 1) words))
  slash_later words place word within is other =
      at_drop_more (λ (ws : List A). slash_from place (map bytes ws)) words place word within ∙ rw (sym is, other) refl

  -- and one that is
  pub slash_here : (words : List A) (place : ℕ) (word : A) → place < length words → word ≡ get_or words place word
      → bytes_eq (bytes word) (codes "/") ≡ true → slash_from place (map bytes (drop place words)) ≡ Some place
  slash_here words place word within is same =
      at_drop_more (λ (ws : List A). slash_from place (map bytes ws)) words place word within ∙ rw (sym is, same) refl

  -- after the last word
  pub no_slash : (words : List A) (place : ℕ) → length words ≤ place → slash_from place (map bytes (drop place words)) ≡ None
  no_slash words place all = at_drop_all (λ (ws : List A). slash_from place (map bytes ws)) words place all

  module _ (ones others : List A) (place : ℕ) (one other : A) (within : place < length ones) (also : place < length others)
      (is : one ≡ get_or ones place one) (is_other : other ≡ get_or others place other) where
    at_both : same_words (map bytes (drop place ones)) (map bytes (drop place others))
        ≡ same_words (bytes (get_or ones place one) ∷ map bytes (drop (place + 1) ones)) (bytes (get_or others place other) ∷ map bytes (drop (place + 1) others))
    at_both =
        at_drop_more (λ (ws : List A). same_words (map bytes ws) (map bytes (drop place others))) ones place one within
        ∙ at_drop_more (λ (ws : List A). same_words (bytes (get_or ones place one) ∷ map bytes (drop (place + 1) ones)) (map bytes ws)) others place other also

    -- two words that are the same
    pub same_later : bytes_eq (bytes one) (bytes other) ≡ true
        → same_words (map bytes (drop place ones)) (map bytes (drop place others))
        ≡ same_words (map bytes (drop (place + 1) ones)) (map bytes (drop (place + 1) others))
    same_later same = at_both ∙ rw (sym is, sym is_other, same) refl

    -- and two that differ
    pub not_same : bytes_eq (bytes one) (bytes other) ≡ false → same_words (map bytes (drop place ones)) (map bytes (drop place others)) ≡ false
    not_same differ = at_both ∙ rw (sym is, sym is_other, differ) refl

  -- all were the same
  pub all_same : (ones others : List A) (place : ℕ) → length ones ≤ place → length others ≤ place
      → same_words (map bytes (drop place ones)) (map bytes (drop place others)) ≡ true
  all_same ones others place all also =
      at_drop_all (λ (ws : List A). same_words (map bytes ws) (map bytes (drop place others))) ones place all
      ∙ at_drop_all (λ (ws : List A). same_words [] (map bytes ws)) others place also

  pub but_last_is : (words : List A) → map bytes (take (length words - 1) words) ≡ all_but_last (map bytes words)
  but_last_is words =
      sym (take-map bytes (length words - 1) words) ∙ ap (λ (n : ℕ). take (n - 1) (map bytes words)) (sym (length-map words bytes))

  pub last_is : (words : List A) (word : A) → 1 ≤ length words → word ≡ get_or words (length words - 1) word → bytes word ≡ last_word (map bytes words)
  last_is words word some is =
      sym
      (ap (λ (n : ℕ). get_or (map bytes words) (n - 1) []) (length-map words bytes)
      ∙ get_or-map bytes words (length words - 1) word [] (omega (arith, some))
      ∙ ap bytes (sym is))

  -- of the words before the slash and after it
  before_is : (words : List A) (place : ℕ) → map bytes (take place words) ≡ take place (map bytes words)
  before_is words place = sym (take-map bytes place words)

  behind_is : (words : List A) (place : ℕ) → map bytes (drop place words) ≡ drop place (map bytes words)
  behind_is words place = sym (drop-map bytes place words)

  -- the opening of words with a slash at this place
  pub parts_at : (topology : List ℕ) (words before behind : List A) (place : ℕ) (found : Option ℕ) → before ≡ take place words
      → behind ≡ drop (place + 1) words → Some place ≡ found
      → resume_parts topology (map bytes before) (map bytes behind) ≡ resume_at topology (map bytes words) found
  parts_at topology words before behind place found is_before is_behind is =
      ap (λ (ws : List (List ℕ)). resume_parts topology ws (map bytes behind)) (ap (map bytes) is_before ∙ before_is words place)
      ∙ ap (resume_parts topology (take place (map bytes words))) (ap (map bytes) is_behind ∙ behind_is words (place + 1))
      ∙ ap (resume_at topology (map bytes words)) is

  module _ (topology : List ℕ) (before behind : List A) where
    abbrev parts_over : Option Command
    parts_over =
        resume_over topology (all_but_last (map bytes before)) (last_word (map bytes before)) (all_but_last (map bytes behind)) (last_word (map bytes behind))

    by_lengths : resume_parts topology (map bytes before) (map bytes behind)
        ≡ (if nat_lt (length before) 2 || nat_lt (length behind) 2 then None else parts_over)
    by_lengths =
        ap (λ (n : ℕ). if nat_lt n 2 || nat_lt (length (map bytes behind)) 2 then None else parts_over) (length-map before bytes)
        ∙ ap (λ (n : ℕ). if nat_lt (length before) 2 || nat_lt n 2 then None else parts_over) (length-map behind bytes)

    pub few_before : length before < 2 → None ≡ resume_parts topology (map bytes before) (map bytes behind)
    few_before few = sym (by_lengths ∙ rw (lt-ltb (length before) 2 few) refl)

    pub few_behind : 2 ≤ length before → length behind < 2 → None ≡ resume_parts topology (map bytes before) (map bytes behind)
    few_behind some few = sym (by_lengths ∙ rw (le-ltb (length before) 2 some, lt-ltb (length behind) 2 few) refl)

    enough : 2 ≤ length before → 2 ≤ length behind → parts_over ≡ resume_parts topology (map bytes before) (map bytes behind)
    enough some more = sym (by_lengths ∙ rw (le-ltb (length before) 2 some, le-ltb (length behind) 2 more) refl)

  -- the same, of the words that were found
  pub over_parts : (topology : List ℕ) (before behind : List A) (plans : List (List ℕ)) (schedule : List ℕ) (later : List (List ℕ)) (opening : List ℕ)
      → 2 ≤ length before → 2 ≤ length behind → plans ≡ all_but_last (map bytes before) → schedule ≡ last_word (map bytes before)
      → later ≡ all_but_last (map bytes behind) → opening ≡ last_word (map bytes behind)
      → resume_over topology plans schedule later opening ≡ resume_parts topology (map bytes before) (map bytes behind)
  over_parts topology before behind plans schedule later opening some more is_plans is_schedule is_later is_opening =
      ap (λ (ws : List (List ℕ)). resume_over topology ws schedule later opening) is_plans
      ∙ ap (λ (w : List ℕ). resume_over topology (all_but_last (map bytes before)) w later opening) is_schedule
      ∙ ap (λ (ws : List (List ℕ)). resume_over topology (all_but_last (map bytes before)) (last_word (map bytes before)) ws opening) is_later
      ∙ ap (λ (w : List ℕ).
      resume_over topology (all_but_last (map bytes before)) (last_word (map bytes before)) (all_but_last (map bytes behind)) w) is_opening
      ∙ enough topology before behind some more

  module _ (topology : List ℕ) (plans : List A) (schedule : List ℕ) (later : List A) (opening : List ℕ) where
    abbrev over_by : ℕ → ℕ → Option Command
    over_by all some =
        if nat_lt some 1 || nat_lt all some || nat_lt 64 all then None
        else if same_words (drop (all - some) (map bytes plans)) (map bytes later) then Some (Resume topology (map bytes plans) (all - some) schedule opening)
        else None

    over_is : resume_over topology (map bytes plans) schedule (map bytes later) opening ≡ over_by (length plans) (length later)
    over_is =
        ap (λ (n : ℕ). over_by n (length (map bytes later))) (length-map plans bytes) ∙ ap (λ (n : ℕ). over_by (length plans) n) (length-map later bytes)

    pub no_later : length later ≡ 0 → None ≡ resume_over topology (map bytes plans) schedule (map bytes later) opening
    no_later none = sym (over_is ∙ rw none refl)

    pub more_later : 1 ≤ length later → length plans < length later → None ≡ resume_over topology (map bytes plans) schedule (map bytes later) opening
    more_later some more = sym (over_is ∙ rw (le-ltb (length later) 1 some, lt-ltb (length plans) (length later) more) refl)

    pub many_plans : 1 ≤ length later → length later ≤ length plans → 64 < length plans
        → None ≡ resume_over topology (map bytes plans) schedule (map bytes later) opening
    many_plans some fewer many =
        sym (over_is ∙ rw (le-ltb (length later) 1 some, le-ltb (length plans) (length later) fewer, lt-ltb 64 (length plans) many) refl)

    module _ (some : 1 ≤ length later) (fewer : length later ≤ length plans) (few : length plans ≤ 64) (last : List A)
        (is : last ≡ drop (length plans - length later) plans) (same : Bool) (says : same ≡ same_words (map bytes last) (map bytes later)) where
      compared : resume_over topology (map bytes plans) schedule (map bytes later) opening
          ≡ (if same then Some (Resume topology (map bytes plans) (length plans - length later) schedule opening) else None)
      compared =
          over_is ∙ rw (le-ltb (length later) 1 some, le-ltb (length plans) (length later) fewer, le-ltb 64 (length plans) few) refl
          ∙ ap (λ (ws : List (List ℕ)). if same_words ws (map bytes later) then Some (Resume topology (map bytes plans) (length plans - length later) schedule opening)
          else None) (sym (ap (map bytes) is ∙ behind_is plans (length plans - length later)))
          ∙ ap (λ (b : Bool). if b then Some (Resume topology (map bytes plans) (length plans - length later) schedule opening) else None) (sym says)

      pub others : same ≡ false → None ≡ resume_over topology (map bytes plans) schedule (map bytes later) opening
      others wrong = sym (compared ∙ rw wrong refl)

      pub the_last : same ≡ true
          → Some (Resume topology (map bytes plans) (length plans - length later) schedule opening)
          ≡ resume_over topology (map bytes plans) schedule (map bytes later) opening
      the_last right = sym (compared ∙ rw right refl)
