-- The lines of commit wait as they are printed, and when a disorder is among them.
use Rattle.std.specs.Prelude.{◌≡◌, ℕ, Bool, true, false, ◌&&◌, List, [], ◌∷◌, ◌++◌, length, map, filter, find, count_by, nat_eq, slice_get, Option, Some, None, codes, decimal, refl}
use Rattle.std.specs.List.{list_all, list_any, join_with_byte}
use Rattle.std.proofs.Common.{arith, ap, ◌∙◌}
use Rattle.std.proofs.lemmas.Bool.{or_parts}
use Rattle.sd_num.specs.Lists.{map_or, at_place, below, greatest}
use Rattle.sd_device.specs.msg.Observed.{ReportAt}
use Rattle.sd_sched.specs.Lines.{fields}
use Rattle.sd_replay.specs.wait.Waits.{WaitLine, Ended, Disorder, Begin, stamp_of, stamp_at, line_at, is_disorder as shows_disorder, ended_at, worst_disorder, lines_at, has_disorder}
use Rattle.sd_replay.specs.wait.Printed.{words_of, bytes_at}
use Rattle.sd_headline.specs.Words.{is_plain}
use Rattle.sd_headline.specs.Headlines.{is_alarm, is_interval_alarm, is_dishonest, is_disorder}
use Rattle.sd_headline.proofs.Behind.{count-append, count-cons}
use Rattle.sd_headline.proofs.Numbers.{decimal_plain}
use Rattle.sd_headline.proofs.Texts.{AreLines, words_are_fields, plain_one_line, texts_are_lines}
use Rattle.sd_headline.proofs.Printed.{word_is, says_dishonest}

-- the line tells a disorder
abbrev pub tells_disorder : WaitLine → Bool
tells_disorder (Disorder line begin) = true
tells_disorder _ = false

-- a line without its newline
abbrev pub printed_wait : (name : List ℕ) → WaitLine → List ℕ
printed_wait name line = join_with_byte 32 (words_of name line)

module _ (name : List ℕ) (plain : is_plain name ≡ true) where
  words_plain : (line : WaitLine) → list_all is_plain (words_of name line) ≡ true
  words_plain (Ended line begin) = rw (decimal_plain line, decimal_plain begin) refl
  words_plain (Disorder line begin) = rw (decimal_plain line, decimal_plain begin) refl
  words_plain (Begin line device stamp) = rw (decimal_plain line, plain, decimal_plain stamp) refl

  fields_are : (line : WaitLine) → fields (printed_wait name line) ≡ words_of name line
  fields_are (Ended line begin) = words_are_fields (codes "ended") (decimal line ∷ decimal begin ∷ []) (words_plain (Ended line begin))
  fields_are (Disorder line begin) = words_are_fields (codes "disorder") (decimal line ∷ decimal begin ∷ []) (words_plain (Disorder line begin))
  fields_are (Begin line device stamp) = words_are_fields (codes "begin") (decimal line ∷ name ∷ decimal stamp ∷ []) (words_plain (Begin line device stamp))

  -- none is an alarm or of a premise
  pub no_alarm : (line : WaitLine) → is_alarm (printed_wait name line) ≡ false
  no_alarm line = ap (word_is 0 (codes "alarm")) (fields_are line) ∙ by line
    where
      by : (line : WaitLine) → word_is 0 (codes "alarm") (words_of name line) ≡ false
      by (Ended line begin) = refl
      by (Disorder line begin) = refl
      by (Begin line device stamp) = refl

  pub no_interval : (line : WaitLine) → is_interval_alarm (printed_wait name line) ≡ false
  no_interval line = ap (λ b. b && word_is 2 (codes "interval") (fields (printed_wait name line))) (no_alarm line)

  pub not_dishonest : (line : WaitLine) → is_dishonest (printed_wait name line) ≡ false
  not_dishonest line = ap says_dishonest (fields_are line) ∙ by line
    where
      by : (line : WaitLine) → says_dishonest (words_of name line) ≡ false
      by (Ended line begin) = refl
      by (Disorder line begin) = refl
      by (Begin line device stamp) = refl

  pub disorder_is : (line : WaitLine) → is_disorder (printed_wait name line) ≡ tells_disorder line
  disorder_is line = ap (word_is 0 (codes "disorder")) (fields_are line) ∙ by line
    where
      by : (line : WaitLine) → word_is 0 (codes "disorder") (words_of name line) ≡ tells_disorder line
      by (Ended line begin) = refl
      by (Disorder line begin) = refl
      by (Begin line device stamp) = refl

  -- the lines of report k
  pub waits_are_lines : (told : List ReportAt) (k : ℕ) → AreLines (bytes_at told k name) (map (printed_wait name) (lines_at told k))
  waits_are_lines told k = texts_are_lines (words_of name) (λ line. plain_one_line (words_of name line) (words_plain line)) (lines_at told k)

-- While no disorder shows

none_kept : (test : ℕ → Bool) (xs : List ℕ) → list_any test xs ≡ false → filter test xs ≡ []
none_kept test [] none = refl
none_kept test (x ∷ xs) none = let parts = or_parts (test x) (list_any test xs) none in rw (parts.0, none_kept test xs parts.1) refl

no_worst : (told : List ReportAt) (k : ℕ) → has_disorder told k ≡ false → worst_disorder told k ≡ None
no_worst told k none =
    ap (λ found. find (λ i. nat_eq (stamp_at told i) (greatest (map (stamp_at told) found))) found)
    (none_kept (λ i. shows_disorder told i k) (below (length told)) none)

no_ended : (told : List ReportAt) (k : ℕ) (is : List ℕ) → count_by tells_disorder (map (λ i. Ended (line_at told k) (line_at told i)) is) ≡ 0
no_ended told k [] = refl
no_ended told k (i ∷ is) =
    let others = no_ended told k is in
    let all = count-cons tells_disorder (Ended (line_at told k) (line_at told i)) (map (λ j. Ended (line_at told k) (line_at told j)) is) in
    omega (arith, others, all)

no_begin : (told : List ReportAt) (k : ℕ) → count_by tells_disorder (at_place told k [] (λ x. Begin x.line x.device (stamp_of x) ∷ [])) ≡ 0
no_begin told k = by (slice_get told k)
  where
    by : (o : Option ReportAt) → count_by tells_disorder (map_or o [] (λ x. Begin x.line x.device (stamp_of x) ∷ [])) ≡ 0
    by None = refl
    by (Some x) = refl

-- no line tells one
pub none_told : (told : List ReportAt) (k : ℕ) → has_disorder told k ≡ false → count_by tells_disorder (lines_at told k) ≡ 0
none_told told k none =
    let ended : List WaitLine = map (λ i. Ended (line_at told k) (line_at told i)) (ended_at told k) in
    let worst : List WaitLine = map_or (worst_disorder told k) [] (λ i. Disorder (line_at told k) (line_at told i) ∷ []) in
    let begun : List WaitLine = at_place told k [] (λ x. Begin x.line x.device (stamp_of x) ∷ []) in
    let one = no_ended told k (ended_at told k) in
    let two : count_by tells_disorder worst ≡ 0 =
    ap (λ o. count_by tells_disorder (map_or o [] (λ i. Disorder (line_at told k) (line_at told i) ∷ []))) (no_worst told k none) in
    let three = no_begin told k in
    let front = count-append tells_disorder ended worst in
    let all = count-append tells_disorder (ended ++ worst) begun in
    omega (arith, one, two, three, front, all)
