-- The third witness: under a plan that breaks the fifth rule of timing alone a loop closes, and no premise breaks.
pub mod Texts
pub mod Values
pub mod Witness
