-- The next draft number.
pub mod Numbers
