pub mod BoxLaws
pub mod NumberLaws
mod ReadLaws
