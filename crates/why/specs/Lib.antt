-- Why a request is answered as it is.
pub mod Why
pub mod Explained
