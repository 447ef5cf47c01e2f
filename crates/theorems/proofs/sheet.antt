pub mod SheetLaws
pub mod KeepingLaws
pub mod TestLaws
pub mod OrderLaws
pub mod BoxTheorems
