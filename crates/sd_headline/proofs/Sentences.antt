-- The sentences of the headline hold of what is written for the reading of a schedule.
use Rattle.std.specs.List.{concat}
use Rattle.std.proofs.lemmas.List.Folds.{concat-append}
use Rattle.sd_io.specs.outside.Pieces.{piece_of}
use Rattle.sd_io.proofs.outside.Adding.{concat_piece}
use Rattle.std.specs.Prelude.{◌≡◌, ℕ, ◌+◌, ◌<◌, Bool, true, false, List, [], ◌∷◌, ◌++◌, length, map, count_by, Option, Some, None, option_map, option_to_list, codes, decimal, refl}
use Rattle.std.proofs.Common.{ap, arith, sym, ◌∙◌, subst}
use Rattle.std.proofs.lemmas.List.{length_push}
use Rattle.sd_num.specs.Lists.{map_or}
use Rattle.sd_plan.specs.topo.Limits.{IsNetwork}
use Rattle.sd_num.specs.declared.clock.Report.{Report}
use Rattle.sd_device.specs.msg.Observed.{ReportAt}
use Rattle.sd_sched.specs.declared.Event.{Event}
use Rattle.sd_sched.specs.Events.{reference_of}
use Rattle.sd_history.specs.World.{Setting}
use Rattle.sd_history.specs.Steps.{Step, seen_of}
use Rattle.sd_history.specs.Chronicle.{next_step, chronicle, IsHistory}
use Rattle.sd_history.specs.Premises.{is_honest, all_hold}
use Rattle.sd_history.specs.Lines.{lines_of, asked_report, reports}
use Rattle.sd_history.specs.Text.{device_name, done_bytes}
use Rattle.sd_history.proofs.Contained.{reports_contain}
use Rattle.sd_replay.specs.wait.Waits.{WaitLine, lines_at, has_disorder, tally_of}
use Rattle.sd_replay.specs.wait.Printed.{bytes_at, waits_line}
use Rattle.sd_replay.specs.declared.wait.WaitTally.{WaitTally}
use Rattle.sd_headline.proofs.order.Ordered.{keeps_order}
use Rattle.sd_files.specs.work.Works.{Work, reading, written_for}
use Rattle.sd_headline.specs.Headlines.{is_alarm, is_broken, is_interval_alarm, is_disorder, is_dishonest, no_early_alarm, no_early_interval, no_early_disorder}
use Rattle.sd_headline.specs.Words.{is_plain}
use Rattle.sd_headline.specs.Kinds.{names_dishonesty}
use Rattle.sd_headline.specs.Works.{PrintsEvents, PrintsWaits, wait_bytes}
use Rattle.sd_headline.proofs.Behind.{Goes, none_at_all, goes_on, goes_quietly, goes-map, count-map, count_none}
use Rattle.sd_headline.proofs.Numbers.{decimal_plain}
use Rattle.sd_headline.proofs.Quiet.{IsQuiet, quiet_behind, quiet_text}
use Rattle.sd_headline.proofs.Texts.{AreLines, no_lines, lines_behind, plain_is_one_line}
use Rattle.sd_headline.proofs.Premises.{honest_still, all_still, event_goes}
use Rattle.sd_replay.proofs.Calm.{history_is_safe}
use Rattle.sd_replay.proofs.Due.{all_honest, no_interval, no_alarm_due}
use Rattle.sd_headline.proofs.Printed.{printed, alarm_is, broken_is, interval_is, dishonest_is, disorder_is, device_plain, event_lines, bytes_are_lines}
use Rattle.sd_headline.proofs.Waiting as wait
use Rattle.sd_headline.proofs.Waiting.{printed_wait}
use Rattle.sd_headline.proofs.Carried.{reading_passes}
use Rattle.sd_replay.specs.Devices.{is_miss}
use Rattle.sd_replay.specs.Tallies as lines
use Rattle.sd_safety.specs.invariant.Coming.{IsFair}

-- Histories

abbrev pub IsHonest : Setting → List Event → Type 0
IsHonest setting events = is_honest setting (seen_of (chronicle setting events)) ≡ true

abbrev pub KeepsPremises : Setting → List Event → Type 0
KeepsPremises setting events = all_hold setting (seen_of (chronicle setting events)) ≡ true

module _ (setting : Setting) (earlier : List Event) (e : Event) (is : IsHistory setting (e ∷ earlier)) where
  abbrev before : List Step
  before = chronicle setting earlier

  abbrev here : Step
  here = next_step setting before e

  -- no line of an event tells an interval without its reference before the first line of an honest premise
  interval_goes : IsHonest setting earlier → Goes is_miss names_dishonesty (lines_of setting (here ∷ before)) (IsHonest setting (e ∷ earlier))
  interval_goes honest =
      event_goes setting here before is_miss names_dishonesty (λ p. refl)
      (λ nothing. let now = honest_still setting here before honest nothing in
      (now, no_interval setting here before (reports_contain setting (e ∷ earlier) is now)))

  -- no alarm before the first line of a premise
  alarm_goes : IsFair setting → KeepsPremises setting earlier
      → Goes lines.is_alarm lines.is_broken (lines_of setting (here ∷ before)) (KeepsPremises setting (e ∷ earlier))
  alarm_goes sound calm =
      event_goes setting here before lines.is_alarm lines.is_broken (λ p. refl)
      (λ nothing.
      let now = all_still setting here before calm nothing in
      let kept = history_is_safe setting sound (e ∷ earlier) is now in
      (now, no_alarm_due setting here before kept.loop kept.root (reports_contain setting (e ∷ earlier) is (all_honest setting here before now))))

  -- a line of an event tells no disorder
  no_disorder_goes : IsHonest setting earlier → Goes (λ line. false) names_dishonesty (lines_of setting (here ∷ before)) (IsHonest setting (e ∷ earlier))
  no_disorder_goes honest =
      record {
        none = none_at_all (λ line. false) names_dishonesty (lines_of setting (here ∷ before)) (count_none (lines_of setting (here ∷ before)));
        well = (interval_goes honest).well;
      }

-- The bytes of an event

module _ (setting : Setting) (net : IsNetwork setting.net) (earlier : List Event) (e : Event) where
  abbrev steps : List Step
  steps = chronicle setting (e ∷ earlier)

  abbrev number : ℕ
  number = length steps

  intervals_printed : {Well : Type 0} → Goes is_miss names_dishonesty (lines_of setting steps) Well
      → Goes is_interval_alarm is_dishonest (event_lines setting steps) Well
  intervals_printed goes =
      goes-map (printed setting.net number) is_miss names_dishonesty is_interval_alarm is_dishonest (interval_is setting.net net number)
      (dishonest_is setting.net net number) (lines_of setting steps) goes

  alarms_printed : {Well : Type 0} → Goes lines.is_alarm lines.is_broken (lines_of setting steps) Well
      → Goes is_alarm is_broken (event_lines setting steps) Well
  alarms_printed goes =
      goes-map (printed setting.net number) lines.is_alarm lines.is_broken is_alarm is_broken (alarm_is setting.net net number)
      (broken_is setting.net net number) (lines_of setting steps) goes

  no_disorder_printed : {Well : Type 0} → Goes (λ line. false) names_dishonesty (lines_of setting steps) Well
      → Goes is_disorder is_dishonest (event_lines setting steps) Well
  no_disorder_printed goes =
      goes-map (printed setting.net number) (λ line. false) names_dishonesty is_disorder is_dishonest (disorder_is setting.net net number)
      (dishonest_is setting.net net number) (lines_of setting steps) goes

-- The bytes of commit wait

module _ (setting : Setting) (net : IsNetwork setting.net) (earlier : List Step) (s : Step) where
  abbrev told : List ReportAt
  told = reports (s ∷ earlier)

  abbrev place : ℕ
  place = length (reports earlier)

  abbrev wait_lines_for : Option (ℕ × Report) → List (List ℕ)
  wait_lines_for o = map_or o [] (λ t. map (printed_wait (device_name setting.net t.0)) (lines_at told place))

  abbrev pub wait_lines : List (List ℕ)
  wait_lines = wait_lines_for (asked_report s)

  are_for : (o : Option (ℕ × Report)) → AreLines (map_or o [] (λ t. bytes_at told place (device_name setting.net t.0))) (wait_lines_for o)
  are_for None = no_lines
  are_for (Some t) = wait.waits_are_lines (device_name setting.net t.0) (device_plain setting.net net t.0) told place

  pub waits_are : AreLines (wait_bytes setting earlier s) wait_lines
  waits_are = are_for (asked_report s)

  none_for : (test : List ℕ → Bool) → ((name : List ℕ) → is_plain name ≡ true → (line : WaitLine) → test (printed_wait name line) ≡ false)
      → (o : Option (ℕ × Report)) → count_by test (wait_lines_for o) ≡ 0
  none_for test never None = refl
  none_for test never (Some t) =
      count-map (printed_wait (device_name setting.net t.0)) (λ line. false) test (never (device_name setting.net t.0) (device_plain setting.net net t.0))
      (lines_at told place) ∙ count_none (lines_at told place)

  -- none of them is of a kind that no line of commit wait is
  pub none_waiting : (test : List ℕ → Bool) → ((name : List ℕ) → is_plain name ≡ true → (line : WaitLine) → test (printed_wait name line) ≡ false)
      → count_by test wait_lines ≡ 0
  none_waiting test never = none_for test never (asked_report s)

  orderly_for : (o : Option (ℕ × Report)) → (o ≡ asked_report s) → ((k : ℕ) → k < length told → has_disorder told k ≡ false)
      → count_by is_disorder (wait_lines_for o) ≡ 0
  orderly_for None same ordered = refl
  orderly_for (Some t) same ordered =
      count-map (printed_wait (device_name setting.net t.0)) wait.tells_disorder is_disorder
      (wait.disorder_is (device_name setting.net t.0) (device_plain setting.net net t.0)) (lines_at told place)
      ∙ wait.none_told told place (ordered place (one_more (asked_report s) same))
    where
      one_more : (o : Option (ℕ × Report)) → Some t ≡ o
          → place < length
          (reports earlier
          ++ option_to_list
          (option_map (λ (x : ℕ × Report). record { line = length earlier + 1; device = x.0; reference = reference_of s.seen.event; report = x.1 }) o))
      one_more None same = cc
      one_more (Some u) same =
          let longer =
          length_push (reports earlier) (record { line = length earlier + 1; device = u.0; reference = reference_of s.seen.event; report = u.1 }) in
          omega (arith, longer)

  -- none tells a disorder where there is none
  pub orderly : ((k : ℕ) → k < length told → has_disorder told k ≡ false) → count_by is_disorder wait_lines ≡ 0
  orderly ordered = orderly_for (asked_report s) refl ordered

-- Last lines

done_quiet : (steps : List Step) → IsQuiet (done_bytes steps)
done_quiet steps =
    quiet_text (codes "done") (decimal (length steps)) (decimal (length (reports steps)) ∷ []) refl refl refl
    (rw (
      plain_is_one_line (decimal (length steps)) (decimal_plain (length steps)),
      plain_is_one_line (decimal (length (reports steps)))
          (decimal_plain (length (reports steps))),
    ) refl)

waits_quiet : (tally : WaitTally) → IsQuiet (waits_line tally)
waits_quiet tally =
    quiet_text (codes "waits") (decimal tally.begun) (decimal tally.ended ∷ decimal tally.disorders ∷ []) refl refl refl
    (rw (
      plain_is_one_line (decimal tally.begun) (decimal_plain tally.begun),
      plain_is_one_line (decimal tally.ended)
          (decimal_plain tally.ended),
      plain_is_one_line (decimal tally.disorders) (decimal_plain tally.disorders),
    ) refl)

-- Works

-- the bytes of two writes
both_pieces : (a b : List ℕ) → concat (piece_of a ++ piece_of b) ≡ a ++ b
both_pieces a b =
    concat-append (piece_of a) (piece_of b)
    ∙ ap (λ (l : List ℕ). l ++ concat (piece_of b)) (concat_piece a)
    ∙ ap (λ (l : List ℕ). a ++ l) (concat_piece b)

module _ (setting : Setting) (net : IsNetwork setting.net) (work : Work Event) where
  module _ (prints : PrintsEvents setting work) where
    lines_printed : (earlier : List Event) (e : Event) → AreLines (work.bytes earlier e) (event_lines setting (chronicle setting (e ∷ earlier)))
    lines_printed earlier e =
        subst (λ (bytes : List ℕ). AreLines bytes (event_lines setting (chronicle setting (e ∷ earlier)))) (sym (prints.bytes earlier e))
        (bytes_are_lines setting (chronicle setting (e ∷ earlier)) net)

    last_printed : (events : List Event) → IsQuiet (concat (work.last_pieces events))
    last_printed events =
        subst IsQuiet (sym (ap concat (prints.last events) ∙ concat_piece (done_bytes (chronicle setting events)))) (done_quiet (chronicle setting events))

    pub events_keep_interval : (schedule : List ℕ) → no_early_interval (written_for work (reading work schedule)) ≡ true
    events_keep_interval =
        reading_passes is_interval_alarm is_dishonest setting work (IsHonest setting)
        (record {
          ls = λ earlier e. event_lines setting (chronicle setting (e ∷ earlier));
          are = lines_printed;
          goes = λ earlier e is honest. intervals_printed setting net earlier e (interval_goes setting earlier e is honest);
        }) refl
        prints.reads last_printed (λ text quiet. quiet.intervals)

    pub events_keep_alarm : IsFair setting → (schedule : List ℕ) → no_early_alarm (written_for work (reading work schedule)) ≡ true
    events_keep_alarm sound =
        reading_passes is_alarm is_broken setting work (KeepsPremises setting)
        (record {
          ls = λ earlier e. event_lines setting (chronicle setting (e ∷ earlier));
          are = lines_printed;
          goes = λ earlier e is calm. alarms_printed setting net earlier e (alarm_goes setting earlier e is sound calm);
        }) refl
        prints.reads last_printed (λ text quiet. quiet.alarms)

  module _ (prints : PrintsWaits setting work) where
    -- the lines of an event with those of commit wait after them
    abbrev both_lines : List Event → Event → List (List ℕ)
    both_lines earlier e = event_lines setting (chronicle setting (e ∷ earlier))
        ++ wait_lines setting net (chronicle setting earlier) (next_step setting (chronicle setting earlier) e)

    both_printed : (earlier : List Event) (e : Event) → AreLines (work.bytes earlier e) (both_lines earlier e)
    both_printed earlier e =
        subst (λ (bytes : List ℕ). AreLines bytes (both_lines earlier e)) (sym (prints.bytes earlier e))
        (lines_behind (bytes_are_lines setting (chronicle setting (e ∷ earlier)) net)
        (waits_are setting net (chronicle setting earlier) (next_step setting (chronicle setting earlier) e)))

    both_last : (events : List Event) → IsQuiet (concat (work.last_pieces events))
    both_last events =
        subst IsQuiet
        (sym (ap concat (prints.last events)
        ∙ both_pieces (done_bytes (chronicle setting events)) (waits_line (tally_of (reports (chronicle setting events))))))
        (quiet_behind (done_quiet (chronicle setting events)) (waits_quiet (tally_of (reports (chronicle setting events)))))

    -- lines of commit wait none of which is bad go on quietly after those of their event
    quietly : {Well : Type 0} (bad first : List ℕ → Bool) (earlier : List Event) (e : Event)
        → (Well → count_by bad (wait_lines setting net (chronicle setting earlier) (next_step setting (chronicle setting earlier) e)) ≡ 0)
        → Goes bad first (event_lines setting (chronicle setting (e ∷ earlier))) Well → Goes bad first (both_lines earlier e) Well
    quietly bad first earlier e none goes =
        goes_on bad first (event_lines setting (chronicle setting (e ∷ earlier)))
        (wait_lines setting net (chronicle setting earlier) (next_step setting (chronicle setting earlier) e)) goes
        (λ holds. goes_quietly bad first (wait_lines setting net (chronicle setting earlier) (next_step setting (chronicle setting earlier) e))
        (none holds) holds)

    pub waits_keep_interval : (schedule : List ℕ) → no_early_interval (written_for work (reading work schedule)) ≡ true
    waits_keep_interval =
        reading_passes is_interval_alarm is_dishonest setting work (IsHonest setting)
        (record {
          ls = both_lines;
          are = both_printed;
          goes = λ earlier e is honest.
              quietly is_interval_alarm is_dishonest earlier e
              (λ holds. none_waiting setting net (chronicle setting earlier)
              (next_step setting (chronicle setting earlier) e) is_interval_alarm wait.no_interval)
              (intervals_printed setting net earlier e (interval_goes setting earlier e is honest));
        }) refl prints.reads both_last (λ text quiet. quiet.intervals)

    pub waits_keep_alarm : IsFair setting → (schedule : List ℕ) → no_early_alarm (written_for work (reading work schedule)) ≡ true
    waits_keep_alarm sound =
        reading_passes is_alarm is_broken setting work (KeepsPremises setting)
        (record {
          ls = both_lines;
          are = both_printed;
          goes = λ earlier e is calm.
              quietly is_alarm is_broken earlier e
              (λ holds. none_waiting setting net (chronicle setting earlier) (next_step setting (chronicle setting earlier) e) is_alarm wait.no_alarm)
              (alarms_printed setting net earlier e (alarm_goes setting earlier e is sound calm));
        }) refl prints.reads both_last (λ text quiet. quiet.alarms)

    pub waits_keep_order : (schedule : List ℕ) → no_early_disorder (written_for work (reading work schedule)) ≡ true
    waits_keep_order =
        reading_passes is_disorder is_dishonest setting work (IsHonest setting)
        (record {
          ls = both_lines;
          are = both_printed;
          goes = λ earlier e is honest.
              quietly is_disorder is_dishonest earlier e
              (λ holds. orderly setting net (chronicle setting earlier) (next_step setting (chronicle setting earlier) e)
              (keeps_order setting (e ∷ earlier) is holds))
              (no_disorder_printed setting net earlier e (no_disorder_goes setting earlier e is honest));
        }) refl prints.reads both_last (λ text quiet. quiet.disorders)
