-- What each granted request does to the records.
pub mod Elements
pub mod Effects
