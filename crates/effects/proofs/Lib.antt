-- The laws that the functions' proofs cite.
pub mod Lists
pub mod Parts
pub mod Same
pub mod Removal
