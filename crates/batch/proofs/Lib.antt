-- The laws of a batch: what it takes and answers, its bounds, its stops, batches in pieces, and what the functions' proofs cite.
pub mod Steps
pub mod Turn
pub mod Runs
pub mod Bounds
pub mod Stops
pub mod Pieces
pub mod Calls
pub mod Served
