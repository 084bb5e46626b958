-- The laws of opening.
pub mod Fields
pub mod Fills
pub mod Back
pub mod Bounds
pub mod Marks
pub mod Theorems
pub mod Alike
pub mod Ways
