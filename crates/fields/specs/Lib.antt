-- The facts of a request's own fields.
pub mod Fields
