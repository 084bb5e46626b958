-- The laws that the functions' proofs cite; how long an image is and what saving tells also for the crates above.
pub mod Puts
pub mod Plans
pub mod Lengths
pub mod Ways
pub mod Spelt
