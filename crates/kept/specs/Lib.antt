-- The kept changes, and the bytes that show them.
pub mod Log
