-- What a chain over the places of a list returned, for the crates above too.
pub mod Chains
