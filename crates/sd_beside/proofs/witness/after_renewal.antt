-- The fourth witness: what happens in its history, and the lemmas on renewed plans that apply to it.
pub mod Hit
