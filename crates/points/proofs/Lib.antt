pub mod FieldLaws
pub mod AnswerLaws
