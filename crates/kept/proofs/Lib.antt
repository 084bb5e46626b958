-- The laws of the ring.
pub mod Ring
