-- What becomes of sessions.
pub mod Sessions
