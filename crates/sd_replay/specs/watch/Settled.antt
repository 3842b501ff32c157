-- How far a search for the least device on a loop has come.
use Rattle.std.specs.Prelude.{◌≡◌, ◌≢◌, ℕ, suc, ◌≤◌, Bool, false, List, Option, Some, None, nat_eq, slice_index, sum_by, if◌then◌else◌}
use Rattle.sd_num.specs.Lists.{at_place, follow}
use Rattle.sd_replay.specs.watch.Watch.{IsOnLoop}

-- following parents from d leads to e
pub record Leads (parent : ℕ → Option ℕ) (d e : ℕ) : Type 0 where
  pub steps : ℕ
  pub there : follow parent steps d ≡ Some e

-- the device is no less than the first that was found
abbrev pub NoneBefore : Option ℕ → ℕ → Type 0
NoneBefore None d = ⊥
NoneBefore (Some first) d = first ≤ d

-- d leads to no device on a loop that is less than the first that was found
abbrev pub IsSettled : (ℕ → Option ℕ) → Option ℕ → ℕ → Type 0
IsSettled parent first d = (e : ℕ) → Leads parent d e → IsOnLoop parent e → NoneBefore first e

-- the number of the walk that passed the device, 0 where none has
abbrev pub mark_at : List ℕ → ℕ → ℕ
mark_at marks d = slice_index marks d

-- the device has room for a mark, and has this one
abbrev pub has_mark : List ℕ → ℕ → ℕ → Bool
has_mark marks d mark = at_place marks d false (λ m. nat_eq m mark)

-- this many walks there were at most
abbrev pub AreAtMost : ℕ → List ℕ → Type 0
AreAtMost walks marks = (d : ℕ) → mark_at marks d ≤ walks

-- each device that a walk has passed is settled
abbrev pub AreSettled : (ℕ → Option ℕ) → Option ℕ → List ℕ → Type 0
AreSettled parent first marks = (d : ℕ) → mark_at marks d ≢ 0 → IsSettled parent first d

-- A walk has come to a device: what it has passed has its mark and leads there, and every other mark is as before.
pub record IsWalk (parent : ℕ → Option ℕ) (before now : List ℕ) (walk here : ℕ) : Type 0 where
  pub leads : (d : ℕ) → mark_at now d ≡ walk → (n : ℕ) × (follow parent (suc n) d ≡ Some here)
  pub others : (d : ℕ) → mark_at now d ≢ walk → mark_at now d ≡ mark_at before d

-- 1 for a mark that is new, else 0
abbrev pub one_if_new : ℕ → ℕ
one_if_new mark = if nat_eq mark 0 then 1 else 0

-- how many devices have no mark
abbrev pub new_count : List ℕ → ℕ
new_count marks = sum_by one_if_new marks
