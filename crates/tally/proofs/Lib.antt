pub mod CountLaws
pub mod RunLaws
pub mod TallyLaws
pub mod BoundsLaws
