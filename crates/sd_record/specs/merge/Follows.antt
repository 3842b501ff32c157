-- For which lines of a feed the queues of logs stand.
use Rattle.std.specs.Prelude.{◌≡◌, ℕ, List, ◌∷◌, ◌++◌, length, Option, Some, None, Ok, Err}
use Rattle.sd_record.specs.merge.Feeds.{said}
use Rattle.sd_record.specs.merge.Growing.{Said, froms_of, merged, settled}
use Rattle.sd_record.specs.merge.Queues.{AreKept, Queue, froms, merged_waiting, settled_front}
use Rattle.sd_record.specs.declared.merge.feed.FeedFault.{FeedFault}

-- what waits is what of the merge of the logs is not settled
pub record Follows (queues : List Queue) (taken : List Said) : Type 0 where
  pub kept : AreKept queues
  pub same : froms queues ≡ froms_of (length queues) taken
  pub waits : merged (length queues) taken ≡ settled (length queues) taken ++ merged_waiting queues

-- one line of the feed more was taken, and nothing has left the front for it yet: of what waits now, as much is settled as the line has settled
pub record HasGrown (count : ℕ) (queues : List Queue) (taken : List Said) (s : Said) : Type 0 where
  pub count_is : length queues ≡ count
  pub kept : AreKept queues
  pub same : froms queues ≡ froms_of count (s ∷ taken)
  pub waits : merged count (s ∷ taken) ≡ settled count taken ++ merged_waiting queues
  pub settles : settled count (s ∷ taken) ≡ settled count taken ++ settled_front queues

-- whatever lines the logs stood for, this line was taken after them, or it is refused
abbrev pub Grows : (old new : List Queue) → (line : List ℕ) → Option FeedFault → Type 0
Grows old new line None =
    (taken : List Said) → Follows old taken → (s : Said) × (said (length old) taken line ≡ Ok s) × HasGrown (length old) new taken s
Grows old new line (Some fault) = (taken : List Said) → Follows old taken → (said (length old) taken line ≡ Err fault) × (new ≡ old)
