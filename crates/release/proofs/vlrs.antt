pub mod RecordPartLaws
pub mod KeptLaws
