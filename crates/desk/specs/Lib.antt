-- What the desk program prints, what it does with the pieces that it reads, and the names of its files.
pub mod Counts
pub mod Lines
pub mod Answers
pub mod Printed
pub mod Turns
pub mod Steps
pub mod Names
pub mod Files
pub mod Opened
