-- The laws that the functions' proofs cite, and what asking in order comes to.
pub mod Asking
mod Lookups
pub mod Order
