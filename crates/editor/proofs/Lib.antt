-- The crate's theorems about its definitions: the examples of 01, and that a bad label's answer stands apart.
pub mod Worked
pub mod Apart
