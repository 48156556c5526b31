pub mod StepLemmas
pub mod AnswerLemmas
pub mod TurnLemmas
pub mod AnewLemmas
