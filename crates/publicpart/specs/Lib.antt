pub mod Bounds
pub mod Public
pub mod Head
pub mod Render
pub mod Release
pub mod Cutting
pub mod Answers
