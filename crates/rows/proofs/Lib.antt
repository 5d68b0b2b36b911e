pub mod Writing
mod Reading
mod Saving
mod Digits
pub mod Layouts
pub mod Most
pub mod Again
pub mod Back
