pub mod Layers
pub mod Sound
