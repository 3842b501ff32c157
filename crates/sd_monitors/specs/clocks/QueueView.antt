-- What a queue of numbers by place stands for.
use Rattle.std.specs.Prelude.{◌≡◌, ℕ, ◌<◌, ◌≤◌, ◌^◌, true, false, List, length, map}
use Rattle.sd_monitors.specs.clocks.Queues.{ascend, are_at_most, mark_at, number_at, is_queued_at}
use Rattle.sd_monitors.specs.declared.clocks.queue.Queue.TheInside.{Inside}

-- the numbers by place
abbrev pub numbers_kept : Inside → List ℕ
numbers_kept q = map (λ m. m.number) q.marks.items

-- what holds of the fields between calls
pub record IsQueue (q : Inside) : Type 0 where
  pub few : length q.marks.items < 2 ^ 32
  pub order : ascend q.entries.items ≡ true
  pub most : are_at_most q.latest q.entries.items ≡ true
  -- each number is in the queue, or no less than the bound for those that are not
  pub queued : (k : ℕ) → k < length q.marks.items → (mark_at q.marks.items k).queued ≡ true → is_queued_at q.marks.items k q.entries.items ≡ true
  pub others : (k : ℕ) → k < length q.marks.items → (mark_at q.marks.items k).queued ≡ false → q.least ≤ number_at q.marks.items k
