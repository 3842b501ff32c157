-- The lines of events as they are printed: each is one whole line, and its words tell its kind.
use Rattle.std.specs.Prelude.{◌≡◌, ℕ, Bool, true, false, ◌&&◌, ◌||◌, List, [], ◌∷◌, length, map, codes, decimal, refl}
use Rattle.std.specs.List.{list_all, join_with_byte}
use Rattle.std.specs.Str.{bytes_eq}
use Rattle.std.proofs.Common.{ap, ◌∙◌}
use Rattle.sd_num.specs.Lists.{at_place}
use Rattle.sd_plan.specs.topo.Network.{Network, device_names}
use Rattle.sd_plan.specs.topo.Limits.{IsNetwork}
use Rattle.sd_sched.specs.Lines.{fields}
use Rattle.sd_history.specs.World.{Setting}
use Rattle.sd_history.specs.Steps.{Step}
use Rattle.sd_history.specs.Lines.{Premise, Start, Drift, Delay, Tick, Loss, Domain, Renew, Line, Broken, LoopAlarm, RootsAlarm, Reported, IntervalAlarm, lines_of}
use Rattle.sd_history.specs.Text.{premise_name, device_name, line_words, bytes_of}
use Rattle.sd_headline.specs.Words.{is_plain}
use Rattle.sd_headline.specs.Headlines.{is_alarm, is_broken, is_interval_alarm, is_disorder, is_dishonest}
use Rattle.sd_headline.specs.Kinds.{names_dishonesty}
use Rattle.sd_headline.proofs.Names.{named_plain}
use Rattle.sd_headline.proofs.Numbers.{decimal_plain}
use Rattle.sd_headline.proofs.Texts.{AreLines, words_are_fields, plain_one_line, texts_are_lines}
use Rattle.sd_replay.specs.Devices.{is_miss}
use Rattle.sd_replay.specs.Tallies as lines

-- the tests on the words of a line
abbrev pub word_is : ℕ → List ℕ → List (List ℕ) → Bool
word_is place word words = at_place words place false (bytes_eq word)

abbrev pub says_dishonest : List (List ℕ) → Bool
says_dishonest words =
    word_is 0 (codes "broken") words && (word_is 2 (codes "start") words || word_is 2 (codes "drift") words || word_is 2 (codes "delay") words)

abbrev pub says_interval : List (List ℕ) → Bool
says_interval words = word_is 0 (codes "alarm") words && word_is 2 (codes "interval") words

premise_plain : (premise : Premise) → is_plain (premise_name premise) ≡ true
premise_plain Start = refl
premise_plain _ = refl

module _ (net : Network) (is : IsNetwork net) where
  pub device_plain : (d : ℕ) → is_plain (device_name net d) ≡ true
  device_plain d = named_plain (device_names net) d is.names.0

  words_plain : (n : ℕ) (line : Line) → list_all is_plain (line_words net n line) ≡ true
  words_plain n (Broken premise) = rw (decimal_plain n, premise_plain premise) refl
  words_plain n (LoopAlarm d) = rw (decimal_plain n, device_plain d) refl
  words_plain n (RootsAlarm d e) = rw (decimal_plain n, device_plain d, device_plain e) refl
  words_plain n (Reported d report) = rw (decimal_plain n, device_plain d, decimal_plain report.clock, decimal_plain report.eps) refl
  words_plain n (IntervalAlarm d reference) = rw (decimal_plain n, device_plain d, decimal_plain reference) refl

-- a line of the event with number n, without its newline
abbrev pub printed : Network → ℕ → Line → List ℕ
printed net n line = join_with_byte 32 (line_words net n line)

module _ (net : Network) (is : IsNetwork net) (n : ℕ) where
  fields_are : (line : Line) → fields (printed net n line) ≡ line_words net n line
  fields_are (Broken premise) = words_are_fields (codes "broken") (decimal n ∷ premise_name premise ∷ []) (words_plain net is n (Broken premise))
  fields_are (LoopAlarm d) = words_are_fields (codes "alarm") (decimal n ∷ codes "loop" ∷ device_name net d ∷ []) (words_plain net is n (LoopAlarm d))
  fields_are (RootsAlarm d e) =
      words_are_fields (codes "alarm") (decimal n ∷ codes "roots" ∷ device_name net d ∷ device_name net e ∷ []) (words_plain net is n (RootsAlarm d e))
  fields_are (Reported d report) =
      words_are_fields (codes "report") (decimal n ∷ device_name net d ∷ decimal report.clock ∷ decimal report.eps ∷ [])
      (words_plain net is n (Reported d report))
  fields_are (IntervalAlarm d reference) =
      words_are_fields (codes "alarm") (decimal n ∷ codes "interval" ∷ device_name net d ∷ decimal reference ∷ [])
      (words_plain net is n (IntervalAlarm d reference))

  says_alarm : (line : Line) → word_is 0 (codes "alarm") (line_words net n line) ≡ lines.is_alarm line
  says_alarm (Broken premise) = refl
  says_alarm _ = refl

  pub alarm_is : (line : Line) → is_alarm (printed net n line) ≡ lines.is_alarm line
  alarm_is line = ap (word_is 0 (codes "alarm")) (fields_are line) ∙ says_alarm line

  says_broken : (line : Line) → word_is 0 (codes "broken") (line_words net n line) ≡ lines.is_broken line
  says_broken (Broken premise) = refl
  says_broken _ = refl

  pub broken_is : (line : Line) → is_broken (printed net n line) ≡ lines.is_broken line
  broken_is line = ap (word_is 0 (codes "broken")) (fields_are line) ∙ says_broken line

  interval_says : (line : Line) → says_interval (line_words net n line) ≡ is_miss line
  interval_says (Broken premise) = refl
  interval_says _ = refl

  pub interval_is : (line : Line) → is_interval_alarm (printed net n line) ≡ is_miss line
  interval_is line = ap says_interval (fields_are line) ∙ interval_says line

  dishonest_says : (line : Line) → says_dishonest (line_words net n line) ≡ names_dishonesty line
  dishonest_says (Broken Start) = refl
  dishonest_says (Broken Drift) = refl
  dishonest_says (Broken Delay) = refl
  dishonest_says (Broken Tick) = refl
  dishonest_says (Broken Loss) = refl
  dishonest_says (Broken Domain) = refl
  dishonest_says (Broken Renew) = refl
  dishonest_says (LoopAlarm d) = refl
  dishonest_says (RootsAlarm d e) = refl
  dishonest_says (Reported d report) = refl
  dishonest_says (IntervalAlarm d reference) = refl

  pub dishonest_is : (line : Line) → is_dishonest (printed net n line) ≡ names_dishonesty line
  dishonest_is line = ap says_dishonest (fields_are line) ∙ dishonest_says line

  disorder_says : (line : Line) → word_is 0 (codes "disorder") (line_words net n line) ≡ false
  disorder_says (Broken premise) = refl
  disorder_says _ = refl

  pub disorder_is : (line : Line) → is_disorder (printed net n line) ≡ false
  disorder_is line = ap (word_is 0 (codes "disorder")) (fields_are line) ∙ disorder_says line

-- the printed lines of the latest event
abbrev pub event_lines : Setting → List Step → List (List ℕ)
event_lines setting steps = map (printed setting.net (length steps)) (lines_of setting steps)

pub bytes_are_lines : (setting : Setting) (steps : List Step) → IsNetwork setting.net → AreLines (bytes_of setting steps) (event_lines setting steps)
bytes_are_lines setting steps is =
    texts_are_lines (line_words setting.net (length steps))
    (λ line. plain_one_line (line_words setting.net (length steps) line) (words_plain setting.net is (length steps) line)) (lines_of setting steps)
