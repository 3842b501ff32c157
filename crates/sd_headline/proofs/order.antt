-- Commit wait keeps order. No function here has a body: this crate has what commit wait promises
-- of every history (`Order`), and its proof (`Ordered`).
--
-- While clocks, oscillators and links are honest, a transaction that begins at or after the end
-- of another has the greater stamp: reports contain their references, and references do not fall.
pub mod Ordered
