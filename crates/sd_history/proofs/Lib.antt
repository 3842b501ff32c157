-- Laws of histories, and worked examples.
--
-- A proof by events goes through the sixteen kinds once (event_goes, allows_event, event_step). For a receipt and for a give it goes on by
-- cases of the flight, or of the staged plan, as a variable, since act_by waits for it. An example whose two sides both compute compares them
-- at great cost: it is stated as a test that computes to true, or with a literal on one side.
pub mod Base
mod Rows
pub mod Windows
pub mod Bridges
pub mod Tellings
pub mod Accepting
pub mod Among
pub mod Admitted
pub mod Clear
pub mod Filters
pub mod Given
pub mod Owned
pub mod Contained
pub mod Owning
pub mod Known
pub mod Parts
pub mod Readings
pub mod Exactness
pub mod Devices
pub mod Happening
mod OtherNodes
pub mod flights
pub mod Shared
