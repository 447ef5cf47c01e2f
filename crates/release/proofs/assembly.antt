pub mod PointLaws
pub mod WrittenLaws
