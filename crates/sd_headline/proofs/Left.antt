-- What is promised of all that a run may write is promised of what it leaves, also where it was stopped.
use Rattle.std.specs.Prelude.{◌≡◌, ℕ, Bool, true, false, ◌&&◌, List, [], ◌++◌, take, drop, Option, None, Some, refl}
use Rattle.std.specs.List.{concat}
use Rattle.sd_io.specs.outside.Pieces.{AddsPieces, IsBegun, Pieces}
use Rattle.sd_io.proofs.outside.Adding.{adds_none, concat_front}
use Rattle.std.proofs.lemmas.List.Folds.{concat-append}
use Rattle.std.proofs.Common.{sym, ap, ◌∙◌, inl, inr, take-append-drop}
use Rattle.std.proofs.lemmas.Bool.{and_parts, and_from}
use Rattle.sd_files.specs.Answering.{MayWrite}
use Rattle.sd_files.specs.declared.Status.{Status}
use Rattle.sd_files.specs.declared.command_error.IoError.{IoError}
use Rattle.sd_files.specs.declared.command_error.IoError.TheVariants as stop
use Rattle.sd_files.specs.work.Leaving.{WritesPart, Leaves}
use Rattle.sd_headline.specs.Headlines.{Adds, is_alarm, is_broken, is_interval_alarm, is_disorder, is_dishonest, is_calm_case, no_early_alarm, no_early_interval, no_early_disorder, no_case_alarm}
use Rattle.sd_headline.proofs.Prefixes.{none_before_front, all_front}

-- nothing passes the test, and so does each front of what passes it
pub record HoldsOfPrefixes (test : List ℕ → Bool) : Type 0 where
  pub nothing : test [] ≡ true
  pub front : (text more : List ℕ) → test (text ++ more) ≡ true → test text ≡ true

pub alarm_of_fronts : HoldsOfPrefixes no_early_alarm
alarm_of_fronts = record { nothing = refl; front = λ text more passes. none_before_front is_alarm is_broken text more passes }

pub interval_of_fronts : HoldsOfPrefixes no_early_interval
interval_of_fronts = record { nothing = refl; front = λ text more passes. none_before_front is_interval_alarm is_dishonest text more passes }

pub disorder_of_fronts : HoldsOfPrefixes no_early_disorder
disorder_of_fronts = record { nothing = refl; front = λ text more passes. none_before_front is_disorder is_dishonest text more passes }

pub case_of_fronts : HoldsOfPrefixes no_case_alarm
case_of_fronts = record { nothing = refl; front = λ text more passes. all_front is_calm_case text more passes }

-- both of two tests
pub both_of_fronts : (one two : List ℕ → Bool) → HoldsOfPrefixes one → HoldsOfPrefixes two → HoldsOfPrefixes (λ text. one text && two text)
both_of_fronts one two first second =
    record {
      nothing = and_from (one []) (two []) first.nothing second.nothing;
      front = λ text more passes. let parts = and_parts (one (text ++ more)) (two (text ++ more)) passes in
          and_from (one text) (two text) (first.front text more parts.0) (second.front text more parts.1);
    }

module _ (test : List ℕ → Bool) (fronts : HoldsOfPrefixes test) (old new : Option Pieces) where
  first_bytes : (n : ℕ) (bytes : List ℕ) → test bytes ≡ true → test (take n bytes) ≡ true
  first_bytes n bytes passes = fronts.front (take n bytes) (drop n bytes) (ap test (take-append-drop n bytes) ∙ passes)

  kept : new ≡ old → Adds old new test
  kept same = ([], same ∙ adds_none old, fronts.nothing)

  -- whole pieces, and some front of the one after them
  cut : (pieces whole others begun : Pieces) → test (concat pieces) ≡ true → pieces ≡ whole ++ others → IsBegun others begun
      → AddsPieces old new (whole ++ begun) → Adds old new test
  cut pieces whole others begun passes are front added =
      let some = concat_front pieces whole others begun are front in
      (whole ++ begun, added, ap test some.1 ∙ first_bytes some.0 (concat pieces) passes)

  whole_pieces : (pieces whole others : Pieces) → test (concat pieces) ≡ true → pieces ≡ whole ++ others → AddsPieces old new whole → Adds old new test
  whole_pieces pieces whole others passes are added =
      (whole, added, fronts.front (concat whole) (concat others) (ap test (sym (ap concat are ∙ concat-append whole others)) ∙ passes))

  part : (steps : Bool) (Writes : MayWrite) → ((pieces : Pieces) (status : Status) → Writes pieces status → test (concat pieces) ≡ true)
      → WritesPart steps Writes old new → Adds old new test
  part false Writes passes left = kept left
  part true Writes passes left = elim left [
    | inl keeps ↦ kept keeps
    | inr some ↦ whole_pieces some.0 some.3.whole some.3.others (passes some.0 some.1 some.2) some.3.are some.3.added
  ]

  -- what all that may be written passes, what a run leaves passes
  pub leaves_adds : (why : Option IoError) (steps : Bool) (Writes : MayWrite) (status : Status)
      → ((pieces : Pieces) (answer : Status) → Writes pieces answer → test (concat pieces) ≡ true) → Leaves why steps Writes old new status → Adds old new test
  leaves_adds None steps Writes status passes left = (left.0, left.2, passes left.0 status left.1)
  leaves_adds (Some stop.Sink) steps Writes status passes left =
      cut left.0 left.3.whole left.3.others left.3.begun (passes left.0 left.1 left.2) left.3.are left.3.front left.3.added
  leaves_adds (Some stop.Shelf) steps Writes status passes left = part steps Writes passes left
  leaves_adds (Some stop.Memory) steps Writes status passes left = part steps Writes passes left
