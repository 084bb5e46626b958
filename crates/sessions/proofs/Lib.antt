-- The laws that the functions' proofs cite, here and in effects.
pub mod InPlace
