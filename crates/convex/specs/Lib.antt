pub mod Points
pub mod Products
pub mod Faces
pub mod Sides
pub mod Fives
pub mod Theorems
pub mod Examples
