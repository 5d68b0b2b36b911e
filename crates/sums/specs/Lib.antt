pub mod Sums
pub mod Sound
