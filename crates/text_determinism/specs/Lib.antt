pub mod LoopLaws
pub mod AnswerLaws
pub mod TextLaws
