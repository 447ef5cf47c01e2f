pub mod EndLaws
pub mod SameLaws
