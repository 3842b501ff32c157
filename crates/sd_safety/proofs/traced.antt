-- What the backup root on its primary heard last, traced to the root.
--
-- # The result (`Unmoved`)
--
-- `primary_hears_no_more`: where the root failed, an old backup root on its primary heard at most
-- H * D after that. `fallbacks` has the same of one that has moved.
--
-- # The way
--
-- A device of a plan that does not act last heard a message of that plan, or was started in its era
-- (`last_heard` of `receipts`). The trace of that message goes up the walk to the root (`UpTheWalk`), since nobody of the path
-- had moved or acted. The root takes no message of its plan (`Roots`), and emits none of it once it
-- failed (`BeforeFailure`). So the message was emitted before, and took at most H hops.
-- What the backup root heard last, traced to the root.
pub mod UpTheWalk
pub mod Roots
pub mod BeforeFailure
pub mod Primaries
pub mod Unmoved
