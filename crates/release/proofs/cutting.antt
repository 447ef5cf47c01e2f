mod FillingIn
pub mod ListLaws
mod TableLaws
