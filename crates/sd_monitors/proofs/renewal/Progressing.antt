-- What is kept of the open window stands for what was seen: at first, and after an event.
use Rattle.std.proofs.Common.{◌≡◌, ℕ, ◌+◌, ◌<◌, ◌||◌, Bool, true, false, cond, List, [], ◌∷◌, length, nat_lt, refl, sym, ap, ◌∙◌, subst, arith}
use Rattle.std.specs.Prelude.{count_by, if◌then◌else◌}
use Rattle.std.specs.List.{list_any}
use Rattle.std.proofs.lemmas.List.Sums.{sum_by-cons}
use Rattle.std.proofs.lemmas.Bool.{lt-ltb}
use Rattle.sd_sched.specs.Events.{is_stage}
use Rattle.sd_history.specs.World.{Seen, window_is_open, has_entered}
use Rattle.sd_history.specs.Premises.{has_mend, has_seal, was_given}
use Rattle.sd_monitors.specs.declared.renewal.mark.Mark.{Mark}
use Rattle.sd_monitors.specs.renewal.Marks.{MarkStands}
use Rattle.sd_monitors.specs.renewal.Windowed.{came_about, tells_mended, tells_sealed, tells_given, tells_entered}
use Rattle.sd_monitors.specs.renewal.Progressing.{ProgressKept, HasDevices, progress_within, progress_after, ProgressStands}
use Rattle.sd_monitors.proofs.renewal.Marking.{mend_came, seal_came, given_came, next_mark, next_windows, mark_next}
use Rattle.sd_monitors.proofs.renewal.Slots.{at, given_slot, entered_slot, length_given, length_entered}

-- One event more

-- a word on the open window, told by a mark before the event and after it
told_next : (tells : Seen → _) (word : List Seen → Bool) → ((seen : List Seen) → word seen ≡ came_about tells seen)
    → (s : Seen) (earlier : List Seen) (windows : ℕ) (mark : Mark) → MarkStands (window_is_open earlier) windows mark (word earlier)
    → MarkStands (window_is_open (s ∷ earlier)) (next_windows (is_stage s.event) windows) (next_mark (is_stage s.event) (tells s) windows mark)
    (word (s ∷ earlier))
told_next tells word same s earlier windows mark stands =
    subst (λ (b : Bool). MarkStands (window_is_open (s ∷ earlier)) (next_windows (is_stage s.event) windows)
    (next_mark (is_stage s.event) (tells s) windows mark) b) (sym (same (s ∷ earlier)))
    (mark_next tells s earlier windows mark (subst (λ (b : Bool). MarkStands (window_is_open earlier) windows mark b) (same earlier) stands))

windows_next : (s : Seen) (earlier : List Seen) (windows : ℕ) → windows ≡ count_by (λ x. is_stage x.event) earlier
    → next_windows (is_stage s.event) windows ≡ count_by (λ x. is_stage x.event) (s ∷ earlier)
windows_next s earlier windows was = by (is_stage s.event) ∙ sym (sum_by-cons (λ (x : Seen). cond (is_stage x.event) 1 0) s earlier)
  where
    by : (b : Bool) → next_windows b windows ≡ cond b 1 0 + count_by (λ x. is_stage x.event) earlier
    by true = omega (arith, was)
    by false = omega (arith, was)

pub progress_stands : (kept : ProgressKept) (s : Seen) (earlier : List Seen) → ProgressStands kept earlier
    → ProgressStands (progress_after s kept) (s ∷ earlier)
progress_stands kept s earlier stands = by (is_stage s.event) refl
  where
    windows : (b : Bool) → is_stage s.event ≡ b → next_windows b kept.windows ≡ count_by (λ x. is_stage x.event) (s ∷ earlier)
    windows b is = ap (λ (t : Bool). next_windows t kept.windows) (sym is) ∙ windows_next s earlier kept.windows stands.windows

    -- the marks, by whether the event opens a window
    mended : (b : Bool) → is_stage s.event ≡ b
        → MarkStands (window_is_open (s ∷ earlier)) (next_windows b kept.windows) (next_mark b (tells_mended s) kept.windows kept.mended)
        (has_mend (s ∷ earlier))
    mended b is =
        subst (λ (t : Bool). MarkStands (window_is_open (s ∷ earlier)) (next_windows t kept.windows) (next_mark t (tells_mended s) kept.windows kept.mended)
        (has_mend (s ∷ earlier))) is
        (told_next tells_mended has_mend mend_came s earlier kept.windows kept.mended stands.mended)

    sealed : (b : Bool) → is_stage s.event ≡ b
        → MarkStands (window_is_open (s ∷ earlier)) (next_windows b kept.windows) (next_mark b (tells_sealed s) kept.windows kept.sealed)
        (has_seal (s ∷ earlier))
    sealed b is =
        subst (λ (t : Bool). MarkStands (window_is_open (s ∷ earlier)) (next_windows t kept.windows) (next_mark t (tells_sealed s) kept.windows kept.sealed)
        (has_seal (s ∷ earlier))) is
        (told_next tells_sealed has_seal seal_came s earlier kept.windows kept.sealed stands.sealed)

    given : (b : Bool) → is_stage s.event ≡ b → (d : ℕ) → d < length kept.given
        → MarkStands (window_is_open (s ∷ earlier)) (next_windows b kept.windows) (next_mark b (tells_given d s) kept.windows (at kept.given d))
        (was_given (s ∷ earlier) d)
    given b is d within =
        subst (λ (t : Bool). MarkStands (window_is_open (s ∷ earlier)) (next_windows t kept.windows)
        (next_mark t (tells_given d s) kept.windows (at kept.given d)) (was_given (s ∷ earlier) d)) is
        (told_next (tells_given d) (λ seen. was_given seen d) (λ seen. given_came seen d) s earlier kept.windows (at kept.given d) (stands.given d within))

    entered : (b : Bool) → is_stage s.event ≡ b → (d : ℕ) → d < length kept.entered
        → MarkStands (window_is_open (s ∷ earlier)) (next_windows b kept.windows) (next_mark b (tells_entered d s) kept.windows (at kept.entered d))
        (has_entered (s ∷ earlier) d)
    entered b is d within =
        subst (λ (t : Bool). MarkStands (window_is_open (s ∷ earlier)) (next_windows t kept.windows)
        (next_mark t (tells_entered d s) kept.windows (at kept.entered d)) (has_entered (s ∷ earlier) d)) is
        (told_next (tells_entered d) (λ seen. has_entered seen d) (λ seen. refl) s earlier kept.windows (at kept.entered d) (stands.entered d within))

    by : (b : Bool) → is_stage s.event ≡ b → ProgressStands (if b then record kept { windows = kept.windows + 1 } else progress_within s kept) (s ∷ earlier)
    by true is = record { windows = windows true is; mended = mended true is; sealed = sealed true is; given = given true is; entered = entered true is }
    by false is = record {
      windows = windows false is;
      mended = mended false is;
      sealed = sealed false is;
      given = λ d within.
          (let inside : d < length kept.given = subst (λ (n : ℕ). d < n) (length_given s.event kept.windows kept.given) within in
          subst (λ (m : Mark). MarkStands (window_is_open (s ∷ earlier)) kept.windows m (was_given (s ∷ earlier) d))
          (sym (given_slot s kept.windows kept.given d inside)) (given false is d inside));
      entered = λ d within.
          (let inside : d < length kept.entered = subst (λ (n : ℕ). d < n) (length_entered s kept.windows kept.entered) within in
          subst (λ (m : Mark). MarkStands (window_is_open (s ∷ earlier)) kept.windows m (has_entered (s ∷ earlier) d))
          (sym (entered_slot s kept.windows kept.entered d inside)) (entered false is d inside));
    }

-- an event that opens a window, and one that opens none
pub stands_opened : (old new : ProgressKept) (s : Seen) (earlier : List Seen) → is_stage s.event ≡ true → record old { windows = old.windows + 1 } ≡ new
    → ProgressStands old earlier → ProgressStands new (s ∷ earlier)
stands_opened old new s earlier opens is stands =
    subst (λ (k : ProgressKept). ProgressStands k (s ∷ earlier))
    (ap (λ (b : Bool). if b then record old { windows = old.windows + 1 } else progress_within s old) opens ∙ is) (progress_stands old s earlier stands)

pub stands_within : (old new : ProgressKept) (s : Seen) (earlier : List Seen) → is_stage s.event ≡ false → new ≡ progress_within s old
    → ProgressStands old earlier → ProgressStands new (s ∷ earlier)
stands_within old new s earlier opens is stands =
    subst (λ (k : ProgressKept). ProgressStands k (s ∷ earlier))
    (ap (λ (b : Bool). if b then record old { windows = old.windows + 1 } else progress_within s old) opens ∙ sym is) (progress_stands old s earlier stands)

-- the devices stay
pub devices_after : (count : ℕ) (s : Seen) (kept : ProgressKept) → HasDevices count kept → HasDevices count (progress_after s kept)
devices_after count s kept has = by (is_stage s.event)
  where
    by : (b : Bool) → HasDevices count (if b then record kept { windows = kept.windows + 1 } else progress_within s kept)
    by true = record { given = has.given; entered = has.entered }
    by false = record { given = length_given s.event kept.windows kept.given ∙ has.given; entered = length_entered s kept.windows kept.entered ∙ has.entered }

-- some window was opened where the count says so
pub some_stage : (seen : List Seen) → nat_lt 0 (count_by (λ s. is_stage s.event) seen) ≡ list_any (λ s. is_stage s.event) seen
some_stage [] = refl
some_stage (s ∷ earlier) = ap (λ (n : ℕ). nat_lt 0 n) (sum_by-cons (λ (x : Seen). cond (is_stage x.event) 1 0) s earlier)
    ∙ by (is_stage s.event) (some_stage earlier)
  where
    by : (b : Bool) → nat_lt 0 (count_by (λ x. is_stage x.event) earlier) ≡ list_any (λ x. is_stage x.event) earlier
        → nat_lt 0 (cond b 1 0 + count_by (λ x. is_stage x.event) earlier) ≡ (b || list_any (λ x. is_stage x.event) earlier)
    by true rest = lt-ltb 0 (1 + count_by (λ x. is_stage x.event) earlier) (omega arith)
    by false rest = ap (λ (n : ℕ). nat_lt 0 n) (omega arith) ∙ rest
