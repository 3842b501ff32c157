-- Messages of a history: where they came from, how rounds follow each other, and how they spread.
-- These are the lemmas 8 to 12 by the numbers of `invariant`.
--
-- # The words
--
-- `Moments`: `IsChronicle` lists of steps, their tails, and a `Moment`, an event with the steps
-- before it. Induction on such a list is structural. `Traces`: `Hop`, `Trace` and `Chain`.
-- `Stamping`: the order of stamps. `Rounds`: ways that are open to a round, and spaced
-- emissions. A way is a list of ends (link, device); its source is named apart.
--
-- # Where the lemmas are
--
-- | No. | In words | Names | Module |
-- |---|---|---|---|
-- | 8 | an accepted message is traced to its emission; each hop has its flight, its age within the bounds, and a link and a receiver that did not fail while it
-- was under way. The sender may have failed meanwhile | `accepted_traced`, `hop_parent` | `Tracing`, `Parents` |
-- | 9 | stamps rise; the next emission of an acting life is the next round of its term; the stamp of a device that does not act is (0, 0) or was emitted in its
-- epoch | `stamps_rise`, `next_round`, `stamp_emitted` | `Rising`, `Consecutive`, `Latest` |
-- | 9 | where each term is of one acting life no two emissions have one stamp, and they are spaced | `terms_distinct`, `terms_spaced` | `Terms` |
-- | 10 | what is received after at most 2(H + 1) hops comes before the next round | `newest_in_time` | `Newest` |
-- | 11 | a clean round goes along a whole way, hop i by s + i * D | `hop_on`, `flows` | `Flowing` |
-- | 12 | of K + 1 rounds one is clean | `one_is_clean` | `Cleans` |
--
-- # Why some things are as they are
--
-- - That a receiver holds no newer stamp needs more than 9 and 10: a takeover in the same epoch,
--   while a round is under way, makes receivers refuse that round. So 11 asks that emissions of
--   the epoch are spaced (`IsSpaced`), which holds while the backup root does not act.
-- - 11 uses the premise on delays: a flight that is received at the first event past its due is
--   not spoiled, and this is no later than the due.
-- - A device sends one flight over a link, to its first follower there. So 11 asks that the receiver
--   is the only one that follows over the link.
-- Lemmas 8 to 12: traces, stamps, flow, and K + 1 rounds.
pub mod Tails
pub mod Sending
pub mod Flights
pub mod Receipts
pub mod Tracing
pub mod Overlap
pub mod Cleans
pub mod Numbers
pub mod Spoils
pub mod Hearing
pub mod Flowing
pub mod Parents
pub mod Rising
pub mod Acting
pub mod Origins
pub mod Latest
pub mod Following
pub mod Consecutive
pub mod Ends
pub mod Newest
pub mod Opening
pub mod Chains
pub mod Prefixes
pub mod Terms
