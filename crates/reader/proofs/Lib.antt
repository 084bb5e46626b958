-- The laws of the walk.
pub mod Walking
