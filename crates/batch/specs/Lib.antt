-- What a batch does, what its stops say, and what two batches do together.
pub mod Batch
pub mod Stops
pub mod Pieces
