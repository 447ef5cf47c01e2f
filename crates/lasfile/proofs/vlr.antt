pub mod RecordLaws
pub mod FieldLaws
pub mod PlacedLaws
