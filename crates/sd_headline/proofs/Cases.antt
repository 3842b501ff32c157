-- The line of a case: where no premise broke there is no alarm.
use Rattle.std.specs.Prelude.{◌≡◌, ℕ, ◌+◌, Bool, true, false, ◌&&◌, ◌||◌, not, List, [], ◌∷◌, ◌++◌, count_by, codes, decimal, refl}
use Rattle.std.specs.Fmt.{digits}
use Rattle.std.specs.List.{list_all, join_with_byte}
use Rattle.std.specs.Str.{bytes_eq}
use Rattle.std.proofs.Common.{arith, sym, ap, ◌∙◌}
use Rattle.sd_num.specs.Lists.{at_place}
use Rattle.sd_num.specs.Texts.{text_of}
use Rattle.sd_plan.specs.topo.Network.{Network}
use Rattle.sd_plan.specs.topo.Limits.{IsNetwork}
use Rattle.sd_plan.proofs.topo.Places.{same_bytes}
use Rattle.sd_checker.specs.Text.{breach_words, refused_line}
use Rattle.sd_checker.specs.declared.Breach.{Breach}
use Rattle.sd_sched.specs.declared.Event.{Event}
use Rattle.sd_history.specs.World.{Setting}
use Rattle.sd_history.specs.Steps.{Step, seen_of}
use Rattle.sd_history.specs.Chronicle.{next_step, chronicle, IsHistory}
use Rattle.sd_history.specs.Premises.{all_hold}
use Rattle.sd_history.specs.Lines.{lines_of}
use Rattle.sd_headline.specs.Words.{is_plain}
use Rattle.sd_headline.specs.Headlines.{has_word, is_calm_case, no_case_alarm}
use Rattle.sd_headline.proofs.Numbers.{decimal_plain, says_zero}
use Rattle.sd_headline.proofs.Premises.{all_still}
use Rattle.sd_replay.proofs.Calm.{history_is_calm}
use Rattle.sd_replay.proofs.Due.{four_parts}
use Rattle.sd_headline.proofs.Quiet.{first_word_is}
use Rattle.sd_headline.proofs.Refused.{breach_line}
use Rattle.sd_headline.proofs.Texts.{lines_are, text_is_line, plain_one_line, words_are_fields}
use Rattle.sd_replay.specs.Tallies.{is_broken, is_alarm, lines_that, tally_of}
use Rattle.sd_replay.specs.declared.Tally.{Tally}
use Rattle.sd_safety.specs.invariant.Coming.{IsFair}

-- Tallies

-- all premises hold, and no alarm was due
record IsQuietHistory (setting : Setting) (events : List Event) : Type 0 where
  holds : all_hold setting (seen_of (chronicle setting events)) ≡ true
  quiet : lines_that is_alarm setting (chronicle setting events) ≡ 0

quiet_history : (setting : Setting) → IsFair setting → (events : List Event) → IsHistory setting events
    → lines_that is_broken setting (chronicle setting events) ≡ 0 → IsQuietHistory setting events
quiet_history setting sound [] is none = record { holds = refl; quiet = refl }
quiet_history setting sound (e ∷ earlier) is none =
    let before : List Step = chronicle setting earlier in
    let here : Step = next_step setting before e in
    let count : lines_that is_broken setting before + count_by is_broken (lines_of setting (here ∷ before)) ≡ 0 = none in
    let parts = four_parts setting here before is_broken in
    let so_far : IsQuietHistory setting earlier = quiet_history setting sound earlier is.0 (omega (arith, count)) in
    let now : all_hold setting (seen_of (here ∷ before)) ≡ true = all_still setting here before so_far.holds (omega (arith, parts, count)) in
    let calm = history_is_calm setting sound (e ∷ earlier) is now in
    let last : lines_that is_alarm setting before + count_by is_alarm (lines_of setting (here ∷ before)) ≡ 0 = let latest = calm.no_alarm in
    omega (arith, so_far.quiet, latest) in
    record { holds = now; quiet = last }

-- a history with no line of a premise has no alarm, over plans that are accepted
pub no_alarm_without : (setting : Setting) → IsFair setting → (events : List Event) → IsHistory setting events
    → lines_that is_broken setting (chronicle setting events) ≡ 0 → lines_that is_alarm setting (chronicle setting events) ≡ 0
no_alarm_without setting sound events is none = (quiet_history setting sound events is none).quiet

-- Lines

-- the words of the line of a case
abbrev pub case_words : (events reports eps broken alarms : ℕ) → List (List ℕ)
case_words events reports eps broken alarms = codes "case" ∷ decimal events ∷ decimal reports ∷ decimal eps ∷ decimal broken ∷ decimal alarms ∷ []

-- the test on the words of a line
abbrev says_calm : List (List ℕ) → Bool
says_calm words =
    not (at_place words 0 false (bytes_eq (codes "case")) && at_place words 4 false (bytes_eq (codes "0"))) || at_place words 5 false (bytes_eq (codes "0"))

zero_is : bytes_eq (codes "0") (decimal 0) ≡ true
unfolding digits
zero_is = refl

calm_by : (broken alarms : ℕ) (none : Bool) → (broken ≡ 0 → alarms ≡ 0) → bytes_eq (codes "0") (decimal broken) ≡ none
    → (not none || bytes_eq (codes "0") (decimal alarms)) ≡ true
calm_by broken alarms false calm is = refl
calm_by broken alarms true calm is =
    let nothing : broken ≡ 0 = says_zero broken (sym (same_bytes (codes "0") (decimal broken) is)) in
    ap (λ (n : ℕ). bytes_eq (codes "0") (decimal n)) (calm nothing) ∙ zero_is

module _ (events reports eps broken alarms : ℕ) where
  plain : list_all is_plain (case_words events reports eps broken alarms) ≡ true
  plain = rw (decimal_plain events, decimal_plain reports, decimal_plain eps, decimal_plain broken, decimal_plain alarms) refl

  line_calm : (broken ≡ 0 → alarms ≡ 0) → is_calm_case (join_with_byte 32 (case_words events reports eps broken alarms)) ≡ true
  line_calm calm =
      ap says_calm (words_are_fields (codes "case") (decimal events ∷ decimal reports ∷ decimal eps ∷ decimal broken ∷ decimal alarms ∷ []) plain)
      ∙ calm_by broken alarms (bytes_eq (codes "0") (decimal broken)) calm refl

  -- the line of a case is calm where its numbers are
  pub case_is_calm : (broken ≡ 0 → alarms ≡ 0) → no_case_alarm (text_of (case_words events reports eps broken alarms)) ≡ true
  case_is_calm calm =
      ap (list_all is_calm_case)
      (lines_are (text_is_line (case_words events reports eps broken alarms) (plain_one_line (case_words events reports eps broken alarms) plain)))
      ∙ ap (λ b. b && true) (line_calm calm)

-- the line of the tally of a history, over plans that are accepted
pub tally_is_calm : (setting : Setting) → IsFair setting → (events : List Event) → IsHistory setting events
    → let t = tally_of setting (chronicle setting events) in no_case_alarm (text_of (case_words t.events t.reports t.greatest_eps t.broken t.alarms)) ≡ true
tally_is_calm setting sound events is =
    let t : Tally = tally_of setting (chronicle setting events) in
    case_is_calm t.events t.reports t.greatest_eps t.broken t.alarms (no_alarm_without setting sound events is)

-- Other lines

other_line : (word rest : List ℕ) → is_plain word ≡ true → bytes_eq (codes "case") word ≡ false → is_calm_case (word ++ 32 ∷ rest) ≡ true
other_line word rest plain other =
    ap (λ b. not (b && has_word 4 (codes "0") (word ++ 32 ∷ rest)) || has_word 5 (codes "0") (word ++ 32 ∷ rest))
    (first_word_is word rest (codes "case") false plain other)

-- the line of a plan that is refused says nothing of a case
pub breach_is_calm : (net : Network) → IsNetwork net → (place : ℕ) (breach : Breach) → no_case_alarm (refused_line net place breach) ≡ true
breach_is_calm net is place breach =
    ap (list_all is_calm_case)
    (lines_are (text_is_line (codes "refused" ∷ codes "plan" ∷ decimal place ∷ breach_words net breach) (breach_line net is place breach)))
    ∙ ap (λ b. b && true) (other_line (codes "refused") (join_with_byte 32 (codes "plan" ∷ decimal place ∷ breach_words net breach)) refl refl)
