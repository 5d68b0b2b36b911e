pub mod Tests
pub mod Masks
pub mod Rules
pub mod Laws
