-- What the functions that C calls answer, and what they leave.
pub mod Calls
