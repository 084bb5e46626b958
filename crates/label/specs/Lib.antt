-- What the crate's contracts cite: labels.
pub mod Labels
