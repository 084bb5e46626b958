-- Who leads a room.
pub mod Leads
