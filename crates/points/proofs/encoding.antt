pub mod AnswerLaws
mod RoomLaws
pub mod LayoutLaws
