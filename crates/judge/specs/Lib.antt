-- When each kind of request is refused, and with which reason.
pub mod Kinds
pub mod Compared
pub mod Amended
