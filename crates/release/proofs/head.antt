pub mod FieldStores
pub mod HeadLaws
