-- The laws that the functions' proofs cite, and what a reason says of a desk and its answer.
pub mod Ruled
pub mod Explained
