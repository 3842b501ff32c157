-- What is taken of the backup root and of feeding, for the devices behind it.
pub mod Pieces
pub mod Feeding
