-- What is promised of the lines of each event is promised of the bytes of a history, and of a reading of one.
use Rattle.std.specs.List.{concat}
use Rattle.std.specs.Prelude.{◌≡◌, ℕ, ◌+◌, Bool, true, List, [], ◌∷◌, ◌++◌, length, count_by, Option, None, Some, codes, decimal, refl}
use Rattle.std.proofs.Common.{ap, ◌∙◌}
use Rattle.sd_sched.specs.declared.Event.{Event}
use Rattle.sd_history.specs.World.{Setting}
use Rattle.sd_history.specs.Chronicle.{IsHistory}
use Rattle.sd_files.specs.work.Works.{Work, Reading, all_bytes, reading, refused_line, last_bytes, written_for}
use Rattle.sd_headline.specs.Headlines.{whole_lines, none_before}
use Rattle.sd_headline.specs.Words.{is_one_line}
use Rattle.sd_headline.specs.Works.{ReadsEvents}
use Rattle.sd_headline.proofs.Behind.{Goes, goes_on, goes_quietly}
use Rattle.sd_headline.proofs.Numbers.{decimal_plain}
use Rattle.sd_headline.proofs.Quiet.{IsQuiet, quiet_text}
use Rattle.sd_headline.proofs.Reading.{reads_history}
use Rattle.sd_headline.proofs.Texts.{AreLines, no_lines, lines_behind, lines_are, plain_is_one_line}

module _ (bad first : List ℕ → Bool) where
  -- a text of which that is promised
  pub record TextGoes (text : List ℕ) (Well : Type 0) : Type 0 where
    pub ls : List (List ℕ)
    pub are : AreLines text ls
    pub goes : Goes bad first ls Well

  text_on : {Before After : Type 0} (text more : List ℕ) (ls : List (List ℕ)) → TextGoes text Before → AreLines more ls → (Before → Goes bad first ls After)
      → TextGoes (text ++ more) After
  text_on text more ls here are behind = record { ls = here.ls ++ ls; are = lines_behind here.are are; goes = goes_on bad first here.ls ls here.goes behind }

  text_passes : {Well : Type 0} (text : List ℕ) → TextGoes text Well → none_before bad first (whole_lines text) ≡ true
  text_passes text here = ap (none_before bad first) (lines_are here.are) ∙ here.goes.none

-- what is written for each event goes on from what was said of the events before it
pub record EachGoes (bad first : List ℕ → Bool) (setting : Setting) (work : Work Event) (Well : List Event → Type 0) : Type 0 where
  pub ls : List Event → Event → List (List ℕ)
  pub are : (earlier : List Event) (e : Event) → AreLines (work.bytes earlier e) (ls earlier e)
  pub goes : (earlier : List Event) (e : Event) → IsHistory setting (e ∷ earlier) → Well earlier → Goes bad first (ls earlier e) (Well (e ∷ earlier))

-- the line of a refusal is neither an alarm nor a disorder
refusal_quiet : (setting : Setting) (work : Work Event) → ReadsEvents setting work → (n : ℕ) (why : List ℕ) → is_one_line why ≡ true
    → IsQuiet (refused_line work n why)
refusal_quiet setting work reads n why one =
    quiet_text (codes "input") work.name (decimal n ∷ why ∷ []) refl refl refl (rw (reads.name, plain_is_one_line (decimal n) (decimal_plain n), one) refl)

last_quiet : (setting : Setting) (work : Work Event) → ReadsEvents setting work → ((events : List Event) → IsQuiet (concat (work.last_pieces events)))
    → (taken : List Event) (refused : Option (List ℕ)) → ((why : List ℕ) → refused ≡ Some why → is_one_line why ≡ true)
    → IsQuiet (last_bytes work taken refused)
last_quiet setting work reads last taken None one = last taken
last_quiet setting work reads last taken (Some why) one = refusal_quiet setting work reads (length taken + 1) why (one why refl)

module _ (bad first : List ℕ → Bool) (setting : Setting) (work : Work Event) (Well : List Event
    → Type 0) (each : EachGoes bad first setting work Well) (begins : Well []) where
  all_go : (events : List Event) → IsHistory setting events → TextGoes bad first (all_bytes work events) (Well events)
  unfolding all_bytes
  all_go [] is = record { ls = []; are = no_lines; goes = record { none = refl; well = λ nothing. begins } }
  all_go (e ∷ earlier) is =
      text_on bad first (all_bytes work earlier) (work.bytes earlier e) (each.ls earlier e) (all_go earlier is.0) (each.are earlier e) (each.goes earlier e is)

  -- none of the one kind stands before the first of the other in all that is written for the reading of a schedule
  pub reading_passes : ReadsEvents setting work → ((events : List Event) → IsQuiet (concat (work.last_pieces events)))
      → ((text : List ℕ) (quiet : IsQuiet text) → count_by bad quiet.ls ≡ 0) → (schedule : List ℕ)
      → none_before bad first (whole_lines (written_for work (reading work schedule))) ≡ true
  reading_passes reads last none schedule =
      let read = reads_history setting work reads schedule in
      let r : Reading Event = reading work schedule in
      let end : IsQuiet (last_bytes work r.taken r.refused) = last_quiet setting work reads last r.taken r.refused read.reason in
      let whole : TextGoes bad first (written_for work r) (Well r.taken) =
      text_on bad first (all_bytes work r.taken) (last_bytes work r.taken r.refused) end.ls (all_go r.taken read.history) end.are
      (λ holds. goes_quietly bad first end.ls (none (last_bytes work r.taken r.refused) end) holds) in
      text_passes bad first (written_for work r) whole
