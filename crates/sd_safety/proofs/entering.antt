-- Entering: after a commit each member of the staged plan enters soon, and goes on hearing (18).
--
-- # The result
--
-- | Name | In words | Module |
-- |---|---|---|
-- | `members_enter` | at an event later than A + H * D after the commit each member of the staged plan is new (`EntersSoon`) | `Entering` |
-- | `new_hears` | a new device other than the staged root is silent for at most A + H * D (`NewHears`) | `Hears` |
--
-- # The way
--
-- After the commit the staged root is a source: it acts, and nothing makes it or has it enter. The
-- primaries of the staged plan are sound: their links are not failed, their devices are up, and each
-- is new and on its primary, or has its duty given; and nothing fails. So the feeding lemma of
-- `silences` reaches each member from any reference on that is no earlier than the commit.
-- Who was fed accepted a message of the staged plan, and is new from then on.
-- After a commit, and 18.
pub mod AfterCommit
pub mod Stages
pub mod States
pub mod Source
pub mod SoundWays
pub mod Fed
pub mod Entering
pub mod Hears
