-- The laws that the functions' proofs cite, and the round trip.
pub mod Absurd
pub mod Rows
pub mod Ranges
pub mod Spelling
pub mod Ways
pub mod More
pub mod RoundTrip
pub mod Framing
pub mod Framed
