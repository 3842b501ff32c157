pub mod Ages
