-- Receipts keep the core of the invariant, and what a past tells of the events before it.
--
-- # The result
--
-- | Name | In words | Module |
-- |---|---|---|
-- | `receive` | each receipt keeps the core, given `EntersSoon` | `Entries` |
-- | `keeps_entering` | so does one with which a device takes up the staged plan (`KeepsEntering` of `frame`) | `Entries` |
-- | `stood_then` | while an old backup root is on its primary, nobody of its path has moved or acted in the plan in force, at any event so far (`StoodThen` of
-- `frame`) | `Stood` |
-- | `new_is_member` | a new device is a member of the staged plan | `Members` |
-- | `last_heard` | a device of a plan that does not act last heard a message of that plan, or was started in its era and heard nothing since | `Hearings` |
-- | `heard_in_plan` | a device of a plan to come last heard a message of that plan | `Hearings` |
-- | `went` | an event made a device, called it, or left it alone | `Alive` |
--
-- # The way
--
-- `Stood` goes back over the history: where the backup root was old and on its primary before the
-- event too, C5 and C2 say it; before its start nobody had moved (C0); and before the closing who
-- was of the plan was new, and on its primary (C9 d). A device that is down has the past that it had
-- when it was up (`was_alive`), so that what is said of live devices is said of every past.
--
-- `Entries`: the message is of the staged plan, so there is a commit (C8); the device was old or
-- blank, since it was given its duty in the window; and it did not act, since the one that acts is
-- the staged root, which has entered.
-- What stood on the path of the backup root so far, and receipts that enter the staged plan.
pub mod Alive
pub mod Stood
pub mod Members
pub mod Hearings
pub mod Entries
