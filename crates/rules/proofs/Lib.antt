-- The record rules: what the tests say, and the laws that code and promises take.
pub mod Bools
pub mod Lists
pub mod Sets
pub mod Meaning
pub mod Empty
pub mod Tables
