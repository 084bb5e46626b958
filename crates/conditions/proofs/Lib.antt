-- What the tests of labels say, for the crates above.
pub mod Labels
