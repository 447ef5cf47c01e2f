pub mod Interface
pub mod Answers
pub mod RecordAnswers
pub mod PointAnswers
pub mod HeaderAnswers
