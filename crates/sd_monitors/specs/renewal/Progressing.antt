-- How far the open window has come, by what is kept.
use Rattle.std.specs.Prelude.{◌≡◌, ℕ, ◌+◌, ◌<◌, List, length, count_by, slice_set, slice_index_or, if◌then◌else◌}
use Rattle.sd_num.specs.Lists.{map_or}
use Rattle.sd_sched.specs.declared.Event.{Event}
use Rattle.sd_sched.specs.declared.Event.TheVariants as event
use Rattle.sd_sched.specs.Events.{is_stage}
use Rattle.sd_history.specs.World.{Seen, window_is_open, has_entered}
use Rattle.sd_history.specs.Premises.{has_mend, has_seal, was_given}
use Rattle.sd_monitors.specs.declared.renewal.mark.Mark.{Mark}
use Rattle.sd_monitors.specs.renewal.Marks.{no_mark, marked, mark_after, MarkStands}
use Rattle.sd_monitors.specs.renewal.Windowed.{tells_mended, tells_sealed}

-- how many windows were opened; whether something is mended and sealed in the open one; by device, whether it was given its duty of the
-- staged plan and has entered it
pub record ProgressKept : Type 0 where
  pub windows : ℕ
  pub mended : Mark
  pub sealed : Mark
  pub given : List Mark
  pub entered : List Mark

-- both lists have this many devices
pub record HasDevices (count : ℕ) (kept : ProgressKept) : Type 0 where
  pub given : length kept.given ≡ count
  pub entered : length kept.entered ≡ count

-- What an event changes

-- a device is given its duty, or joins and has to be given it again
abbrev pub given_after : Event → ℕ → List Mark → List Mark
given_after (event.Give reference device) windows marks = slice_set marks device (marked windows)
given_after (event.Join reference device counter clock eps) windows marks = slice_set marks device no_mark
given_after _ windows marks = marks

-- a device is made, and has entered nothing
abbrev pub made_after : Event → List Mark → List Mark
made_after (event.Start reference device counter clock eps) marks = slice_set marks device no_mark
made_after (event.Join reference device counter clock eps) marks = slice_set marks device no_mark
made_after _ marks = marks

-- a device is made, or enters the staged plan
abbrev pub entered_after : Seen → ℕ → List Mark → List Mark
entered_after s windows marks = map_or s.activated (made_after s.event marks) (λ d. slice_set (made_after s.event marks) d (marked windows))

-- an event that opens no window
abbrev pub progress_within : Seen → ProgressKept → ProgressKept
progress_within s kept =
    record {
      windows = kept.windows;
      mended = mark_after (tells_mended s) kept.windows kept.mended;
      sealed = mark_after (tells_sealed s) kept.windows kept.sealed;
      given = given_after s.event kept.windows kept.given;
      entered = entered_after s kept.windows kept.entered;
    }

-- one that opens a window makes nothing of it come about
abbrev pub progress_after : Seen → ProgressKept → ProgressKept
progress_after s kept = if is_stage s.event then record kept { windows = kept.windows + 1 } else progress_within s kept

-- what is kept says what came about in the open window of what was seen
pub record ProgressStands (kept : ProgressKept) (seen : List Seen) : Type 0 where
  pub windows : kept.windows ≡ count_by (λ s. is_stage s.event) seen
  pub mended : MarkStands (window_is_open seen) kept.windows kept.mended (has_mend seen)
  pub sealed : MarkStands (window_is_open seen) kept.windows kept.sealed (has_seal seen)
  pub given : (d : ℕ) → d < length kept.given → MarkStands (window_is_open seen) kept.windows (slice_index_or kept.given d no_mark) (was_given seen d)
  pub entered : (d : ℕ) → d < length kept.entered → MarkStands (window_is_open seen) kept.windows (slice_index_or kept.entered d no_mark) (has_entered seen d)
