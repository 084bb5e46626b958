-- The kinds of request, their bytes, reading and writing.
pub mod Bytes
pub mod Kinds
pub mod Reading
pub mod Writing
pub mod Framing
