-- The network of leaves and spines, and the tree that its text has.
pub mod Fabrics
pub mod Texts
pub mod Numbered
pub mod Trees
pub mod Pages
