-- What the crate's contracts cite, and the table of examples.
pub mod Answers
pub mod Examples
