-- The record rules: tests of records and a last number, and what they say.
pub mod Lists
pub mod Rules
pub mod Facts
pub mod Walks
