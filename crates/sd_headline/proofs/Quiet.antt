-- Texts of lines none of which is an alarm or a disorder.
use Rattle.std.specs.Prelude.{◌≡◌, ℕ, ◌+◌, Bool, true, false, cond, ◌&&◌, List, [], ◌∷◌, ◌++◌, count_by, nat_le, codes}
use Rattle.std.specs.List.{list_all, join_with_byte}
use Rattle.std.specs.Str.{bytes_eq}
use Rattle.std.proofs.Common.{arith, ap, ◌∙◌}
use Rattle.std.proofs.lemmas.Bool.{and_from}
use Rattle.std.proofs.lemmas.List.Folds.{list_all-append}
use Rattle.sd_num.specs.Lists.{at_place}
use Rattle.sd_num.specs.Texts.{text_of}
use Rattle.sd_headline.specs.Words.{is_plain, is_one_line}
use Rattle.sd_headline.specs.Headlines.{has_word, is_alarm, is_interval_alarm, is_disorder}
use Rattle.sd_headline.proofs.Behind.{count-append}
use Rattle.sd_headline.proofs.Texts.{AreLines, lines_behind, one_line, first_is_field, joined_one_line, plain_is_one_line}

pub record IsQuiet (text : List ℕ) : Type 0 where
  pub ls : List (List ℕ)
  pub are : AreLines text ls
  pub alarms : count_by is_alarm ls ≡ 0
  pub intervals : count_by is_interval_alarm ls ≡ 0
  pub disorders : count_by is_disorder ls ≡ 0

pub quiet_behind : {a b : List ℕ} → IsQuiet a → IsQuiet b → IsQuiet (a ++ b)
quiet_behind one two =
    record {
      ls = one.ls ++ two.ls;
      are = lines_behind one.are two.are;
      alarms = let all = count-append is_alarm one.ls two.ls in omega (arith, all, one.alarms, two.alarms);
      intervals = let all = count-append is_interval_alarm one.ls two.ls in omega (arith, all, one.intervals, two.intervals);
      disorders = let all = count-append is_disorder one.ls two.ls in omega (arith, all, one.disorders, two.disorders);
    }

-- the first word of a line that has a space after it
pub first_word_is : (word rest other : List ℕ) (same : Bool) → is_plain word ≡ true → bytes_eq other word ≡ same → has_word 0 other (word ++ 32 ∷ rest) ≡ same
first_word_is word rest other same plain is = ap (λ (fs : List (List ℕ)). at_place fs 0 false (bytes_eq other)) (first_is_field word rest plain).1 ∙ is

-- a line whose first word is neither
module _ (word rest : List ℕ) (plain : is_plain word ≡ true) (alarm : bytes_eq (codes "alarm") word ≡ false)
    (disorder : bytes_eq (codes "disorder") word ≡ false) where
  abbrev line : List ℕ
  line = word ++ 32 ∷ rest

  none_of : (test : List ℕ → Bool) → test line ≡ false → count_by test (line ∷ []) ≡ 0
  none_of test is = ap (λ t. 0 + cond {A = ℕ} t 1 0) is

  pub quiet_line : is_one_line rest ≡ true → IsQuiet (line ++ 10 ∷ [])
  quiet_line one =
      record {
        ls = line ∷ [];
        are = one_line line (list_all-append (nat_le 32) word (32 ∷ rest) ∙ and_from (is_one_line word) (is_one_line rest) (plain_is_one_line word plain) one);
        alarms = none_of is_alarm (first_word_is word rest (codes "alarm") false plain alarm);
        intervals = none_of is_interval_alarm (ap (λ b. b && has_word 2 (codes "interval") line) (first_word_is word rest (codes "alarm") false plain alarm));
        disorders = none_of is_disorder (first_word_is word rest (codes "disorder") false plain disorder);
      }

-- a text of at least two words, each of one line
pub quiet_text : (word next : List ℕ) (others : List (List ℕ)) → is_plain word ≡ true → bytes_eq (codes "alarm") word ≡ false
    → bytes_eq (codes "disorder") word ≡ false → list_all is_one_line (next ∷ others) ≡ true
    → IsQuiet (text_of (word ∷ next ∷ others))
quiet_text word next others plain alarm disorder one =
    quiet_line word (join_with_byte 32 (next ∷ others)) plain alarm disorder (joined_one_line (next ∷ others) one)
