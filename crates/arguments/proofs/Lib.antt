-- The laws that the functions' proofs cite, and what words lead to.
pub mod Words
pub mod Digits
pub mod Taken
