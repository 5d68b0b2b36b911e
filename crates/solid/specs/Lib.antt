pub mod Questions
pub mod Reading
pub mod Laws
pub mod Examples
