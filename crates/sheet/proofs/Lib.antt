pub mod LineLaws
mod WalkLaws
pub mod FirstLaws
pub mod PlaceLaws
