pub mod Vectors
pub mod Wrapped
pub mod Laws
