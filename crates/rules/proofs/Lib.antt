pub mod Loops
mod Bits
mod Exact
pub mod Near
pub mod Lawful
pub mod Facing
pub mod Joined
