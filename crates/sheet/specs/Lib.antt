pub mod Sheet
pub mod Tests
pub mod Keeping
pub mod Boxes
