-- The facts that a refusal names.
pub mod Conditions
pub mod Labels
