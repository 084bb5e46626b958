-- Conditions asked in order, each with the reason that it gives where it fails.
pub mod Reasons
pub mod Asking
pub mod Order
pub mod Lines
pub mod Shared
pub mod Reach
pub mod Told
