-- The crate's theorems: sets of categories, the order of labels, what fails and what differs, and labels as numbers.
pub mod Sets
pub mod Order
pub mod Dominance
pub mod Numbers
