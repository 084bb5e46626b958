-- The laws that the functions' proofs cite; places and lookups also for the crates above.
pub mod Tables
pub mod Views
pub mod Places
pub mod Lookups
