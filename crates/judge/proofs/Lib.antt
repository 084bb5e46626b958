-- What the judge's answers say, and that each reason is true of the records.
pub mod Rows
pub mod Order
pub mod Sound
pub mod Compared
pub mod Amended
