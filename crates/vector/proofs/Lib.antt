pub mod Integers
pub mod Ring
pub mod Order
pub mod Identities
pub mod Bounds
pub mod Exact
mod Square
