-- What a step leaves alone, and what is taken of receipts.
pub mod Frames
pub mod Receipts
pub mod Descents
