-- The desk as a machine, and the rules of this desk.
pub mod Machine
pub mod Desk
pub mod Lent
