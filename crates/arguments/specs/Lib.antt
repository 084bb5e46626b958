-- What the words behind the program's name ask for.
pub mod Numbers
pub mod Arguments
