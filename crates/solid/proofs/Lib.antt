mod Tetrahedron
mod Told
mod Exact
mod Reading
mod Back
pub mod Copies
