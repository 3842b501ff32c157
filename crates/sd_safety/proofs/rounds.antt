-- Rounds on their way over commits and closings: what comes to an old device from who leads.
--
-- # The result (`Silent`)
--
-- `silent_by`: over a span later than s0 over which a device leads, an old device that heard nothing
-- later than s0, and to which a way of n hops from the leader is open, has its next event by
-- s0 + A + n * D. H is at most n. `spans` has 13 and 15 from it.
--
-- # A span
--
-- The moments later than s0 lie in the era, or in the window with whose closing the era began, after
-- its commit (`IsSpan`). So the era's plan is in force or staged there, and the leader emits in it.
--
-- # The way
--
-- - `Along`: one clean round goes along a way whose hops are open to it until a limit (11).
-- - A device leads over a span if it acts at each of its moments, in the era's plan or after a commit
--   in the staged one (`IsLeader`). Then it is a source, who emits is the leader (9), and none emits a
--   newer term (`Leaders`). The root leads while it does not fail (`Sources`); `commits`
--   has it of the backup root.
-- - Of K + 1 rounds one is clean. A round of the era's plan comes along the old way, also over a
--   commit (`Hops`): nobody enters the staged plan while it is on its way (`Entries`), since who does
--   has a message that the leader emitted a period later. A round of the staged plan comes along that
--   plan (`NewHops`), and whoever hears it is new; so an old device tells that it was the other kind.
-- One round along a way; and what rounds come to an old device over a span.
pub mod Along
pub mod Places
pub mod Leaders
pub mod Sources
pub mod Entries
pub mod Hops
pub mod NewHops
pub mod Silent
