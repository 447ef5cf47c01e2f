pub mod KeptPointLaws
pub mod LoopLaws
pub mod PickedLaws
pub mod RunLaws
mod ChooseLaws
mod StayLaws
