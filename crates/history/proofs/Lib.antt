-- The laws that the functions' proofs cite.
pub mod Laws
pub mod Lent
