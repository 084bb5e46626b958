-- What the promises are stated with.
pub mod Fits
pub mod Book
pub mod Events
pub mod Grants
pub mod Back
pub mod Seen
pub mod Sight
pub mod Leads
pub mod Calls
pub mod Restart
pub mod Amended
