pub mod Header
pub mod Steps
pub mod OnePoint
