-- How many digits a number takes, another spelling of them, the laws that the functions' proofs cite, what is printed for an input in pieces, five lines worked out, that the batch agrees, and the folder of a name.
pub mod Decimal
pub mod DecimalDigits
pub mod Texts
pub mod Frames
pub mod Steps
pub mod Inputs
pub mod Loop
pub mod Examples
pub mod Agrees
pub mod Folders
pub mod Opened
