pub mod AnswerLemmas
pub mod EndLemmas
pub mod FieldLemmas
pub mod FrameLemmas
pub mod HeadLemmas
mod PairLemmas
mod PartLemmas
mod SpotLemmas
pub mod LimitLemmas
pub mod CallerLemmas
