-- The records of one house: what the cells show, and what a lookup finds.
pub mod Tables
pub mod Lists
pub mod Places
pub mod House
pub mod Lookups
