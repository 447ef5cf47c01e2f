pub mod RunLaws
pub mod RawLaws
