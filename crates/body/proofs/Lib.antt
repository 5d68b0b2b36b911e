pub mod Numbered
pub mod Told
pub mod Farthest
pub mod Extents
pub mod Alike
pub mod Flats
mod Asking
