-- Marks of what came about in the open window, by the number of the window in which it did.
use Rattle.std.specs.Prelude.{◌≡◌, ℕ, ◌≤◌, Bool, true, false, ◌&&◌, Option, Some, None, IfSome}
use Rattle.sd_num.specs.Lists.{same_number}
use Rattle.sd_monitors.specs.declared.renewal.mark.Mark.{Mark}

-- it came about in no window
abbrev pub no_mark : Mark
no_mark = record { window = None }

-- it came about in the window of this number
abbrev pub marked : ℕ → Mark
marked number = record { window = Some number }

-- it came about in the open window, where one is open and this many were opened
abbrev pub is_marked : Bool → ℕ → Mark → Bool
is_marked open_window windows mark = open_window && same_number mark.window windows

-- the mark after an event that says this of it: true or false, or nothing
abbrev pub mark_after : Option Bool → ℕ → Mark → Mark
mark_after None windows mark = mark
mark_after (Some true) windows mark = marked windows
mark_after (Some false) windows mark = no_mark

-- the mark says whether it came about, and is of no window that is to come
pub record MarkStands (open_window : Bool) (windows : ℕ) (mark : Mark) (came : Bool) : Type 0 where
  pub is : is_marked open_window windows mark ≡ came
  pub before : IfSome mark.window (λ number. number ≤ windows)
