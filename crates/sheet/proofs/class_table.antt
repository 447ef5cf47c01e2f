pub mod ClassLaws
