-- What the backup root hears on its primary after its path broke, in an era without a mend; and what
-- is known of an era with one.
--
-- # The result
--
-- | Name | In words | Module |
-- |---|---|---|
-- | `path_hears_no_more` | without a mend so far, an old backup root on its primary heard at most H * D after something of its path failed first
-- (`PathHearsNoMore` of `behind`) | `Broken` |
-- | `heard_unmended` | so it is of what it heard before the first mend of its era | `Broken` |
-- | `first_mend` | from the first mend of an era on nothing fails, and what was whole stays so | `FirstMend` |
-- | `no_second` | between the emission of the round that the backup root heard last and its receipt it heard no other | `NoSecondRound` |
--
-- # The way
--
-- The trace of what it heard last goes up its path, over each link and each device of it (`Crossed`,
-- and `FromRoot` with what the invariant says of the path).
-- After the failure of one of them this is not so: a failed link stays so without a mend (`Links`),
-- and a failed device sends nothing more of the era's plan (`Senders`). So the message was emitted no
-- later than the failure, and took at most H hops.
--
-- A device that is old has not been made anew in its era, and has entered no plan (`Unbroken`). So
-- two emissions of one device lie Low of the period apart (`Periods`), and rounds do not overlap; and
-- the backup root stood on its primary when it heard each (`Receipts`), and takes each round once.
-- What the backup root on its primary heard after its path broke, and what is known of an era with a mend.
pub mod Crossed
pub mod Links
pub mod Senders
pub mod FromRoot
pub mod Broken
pub mod FirstMend
pub mod Unbroken
pub mod Periods
pub mod Receipts
pub mod NoSecondRound
