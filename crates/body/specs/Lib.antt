pub mod Meaning
pub mod Sides
pub mod Extents
pub mod Answers
pub mod Sound
pub mod Along
pub mod Theorems
