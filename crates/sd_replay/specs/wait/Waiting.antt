-- What is kept of commit wait: the transactions that wait, those that ended last, and the worst that ended.
use Rattle.std.specs.Prelude.{◌≡◌, ℕ, ◌<◌, Bool, ◌&&◌, ◌||◌, All, List, [], ◌∷◌, ◌++◌, flat_map, nat_eq, nat_le, nat_lt, sum_by, Option, Some, None, codes, decimal, if◌then◌else◌}
use Rattle.std.specs.Ordering.{nat_cmp, ordering_then}
use Rattle.std.specs.declared.cmp.Ordering.{Ordering}
use Rattle.sd_num.specs.Lists.{map_or}
use Rattle.sd_num.specs.Texts.{text_of}
use Rattle.sd_replay.specs.declared.wait.transactions.Transaction.{Transaction}
use Rattle.sd_replay.specs.declared.wait.printing.Shown.{Shown}

-- by device, then by stamp, then by place
abbrev pub order_of : Transaction → Transaction → Ordering
order_of t u =
    ordering_then (nat_cmp t.device u.device)
    (ordering_then (nat_cmp t.stamp u.stamp) (ordering_then (nat_cmp t.place u.place) (nat_cmp t.line u.line)))

-- the first in this order of all transactions of the device whose stamps are no less
abbrev pub least : ℕ → ℕ → Transaction
least device stamp = record { device = device; stamp = stamp; place = 0; line = 0 }

-- these, and the one that began last, if it is not among them yet
abbrev pub with_pending : Option Transaction → List Transaction → List Transaction
with_pending None ts = ts
with_pending (Some t) ts = t ∷ ts

-- how many are pending
abbrev pub pending_count : Option Transaction → ℕ
pending_count None = 0
pending_count (Some t) = 1

-- all began before this place
abbrev pub AllBelow : ℕ → List Transaction → Type 0
AllBelow place ts = All (λ (t : Transaction). t.place < place) ts

-- the same transactions, each as often
abbrev pub HaveSameSums : List Transaction → List Transaction → Type 0
HaveSameSums ts us = (f : Transaction → ℕ) → sum_by f ts ≡ sum_by f us

-- it is one of the device whose stamp is less than the lower end of an interval
abbrev pub ends_below : ℕ → ℕ → Transaction → Bool
ends_below device low t = nat_eq t.device device && nat_lt t.stamp low

-- the one with the greater stamp, and of equal ones the one that began first
abbrev pub worse : Option Transaction → Transaction → Transaction
worse None t = t
worse (Some w) t = if nat_lt t.stamp w.stamp || (nat_eq w.stamp t.stamp && nat_lt w.place t.place) then w else t

-- of one and more the first with the greatest stamp
abbrev pub worst_among : Option Transaction → List Transaction → Option Transaction
worst_among worst [] = worst
worst_among worst (t ∷ ts) = worst_among (Some (worse worst t)) ts

-- of which one that begins with the stamp shows a disorder
abbrev pub disordered_by : Option Transaction → ℕ → Option Transaction
disordered_by None stamp = None
disordered_by (Some worst) stamp = if nat_le stamp worst.stamp then Some worst else None

-- the lines of the transactions that ended at a line
abbrev pub ended_bytes : ℕ → List Transaction → List ℕ
ended_bytes line ended = flat_map (λ (t : Transaction). text_of (codes "ended" ∷ decimal line ∷ decimal t.line ∷ [])) ended

-- the lines of a report
abbrev pub shown_bytes : List Transaction → Shown → (name : List ℕ) → List ℕ
shown_bytes ended shown name =
    ended_bytes shown.begin.line ended
    ++ map_or shown.disorder [] (λ (t : Transaction). text_of (codes "disorder" ∷ decimal shown.begin.line ∷ decimal t.line ∷ []))
    ++ text_of (codes "begin" ∷ decimal shown.begin.line ∷ name ∷ decimal shown.begin.stamp ∷ [])

-- what is seen of it: who waits, who ended at the last report, the first with the greatest stamp of all that ended, what the last report shows, how many
-- began, at how many reports a disorder showed, and for how many more reports there is room
pub record Held : Type 0 where
  pub waiting : List Transaction
  pub ended : List Transaction
  pub worst : Option Transaction
  pub last : Option Shown
  pub begun : ℕ
  pub disorders : ℕ
  pub room : ℕ
