-- For which lists of reports what is kept of commit wait stands.
use Rattle.std.specs.Prelude.{◌≡◌, ℕ, zero, suc, ◌-◌, ◌<◌, ◌≤◌, true, List, [], ◌∷◌, length, map, count_by, nat_lt, Option, Some, None, option_map, is_none, is_some, if◌then◌else◌}
use Rattle.sd_num.specs.Lists.{below, at_place}
use Rattle.sd_device.specs.msg.Observed.{ReportAt}
use Rattle.sd_replay.specs.wait.Waits.{stamp_of, stamp_at, end_place, ended_at, worst_disorder, has_disorder}
use Rattle.sd_replay.specs.wait.Waiting.{HaveSameSums, Held}
use Rattle.sd_replay.specs.declared.wait.transactions.Transaction.{Transaction}
use Rattle.sd_replay.specs.declared.wait.printing.Shown.{Shown}

-- the transaction that the report at a place begins
abbrev pub transaction : ℕ → ReportAt → Transaction
transaction place x = record { device = x.device; stamp = stamp_of x; place = place; line = x.line }

-- the transaction that the report at a place begins
abbrev pub transaction_at : List ReportAt → ℕ → Transaction
transaction_at told i = at_place told i (record { device = 0; stamp = 0; place = i; line = 0 }) (transaction i)

-- the transactions at the first n places that have not ended, the newest first
abbrev pub unended : List ReportAt → ℕ → List Transaction
unended told zero = []
unended told (suc n) = if is_none (end_place told n) then transaction_at told n ∷ unended told n else unended told n

-- an ended transaction, and none that ended has a greater stamp, nor the same and began before
pub record IsWorst (told : List ReportAt) (worst : Transaction) : Type 0 where
  pub within : worst.place < length told
  pub ended : is_some (end_place told worst.place) ≡ true
  pub is : worst ≡ transaction_at told worst.place
  pub greatest : (i : ℕ) → i < length told → is_some (end_place told i) ≡ true → stamp_at told i ≤ worst.stamp
  pub first : (i : ℕ) → i < length told → is_some (end_place told i) ≡ true → stamp_at told i ≡ worst.stamp → worst.place ≤ i

-- the first with the greatest stamp of those that ended, none where none has
abbrev pub HasWorst : List ReportAt → Option Transaction → Type 0
HasWorst told None = (i : ℕ) → i < length told → end_place told i ≡ None
HasWorst told (Some worst) = IsWorst told worst

-- what the report at a place shows: the transaction that it begins, and the one of which it shows a disorder
abbrev pub shown_at : List ReportAt → ℕ → Shown
shown_at told k = record { begin = transaction_at told k; disorder = option_map (transaction_at told) (worst_disorder told k) }

-- what the last report shows, if there is one
abbrev pub last_shown : List ReportAt → Option Shown
last_shown told = if nat_lt 0 (length told) then Some (shown_at told (length told - 1)) else None

-- what is held is that of these reports
pub record StandsFor (held : Held) (told : List ReportAt) : Type 0 where
  -- those that have not ended wait
  pub waiting : HaveSameSums held.waiting (unended told (length told))
  -- those that ended at the last report, in the order in which they began
  pub ended : held.ended ≡ map (transaction_at told) (ended_at told (length told - 1))
  pub worst : HasWorst told held.worst
  pub last : held.last ≡ last_shown told
  pub begun : held.begun ≡ length told
  pub disorders : held.disorders ≡ count_by (has_disorder told) (below (length told))
