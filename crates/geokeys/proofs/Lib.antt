pub mod SearchLaws
pub mod EntryLaws
pub mod PlaceLaws
pub mod HalvingLaws
pub mod KeyReadLaws
