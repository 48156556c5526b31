pub mod CallerLemmas
pub mod RootLemmas
pub mod SquareLemmas
mod StepLemmas
mod PartLemmas
pub mod QuotientLemmas
pub mod ArrowLemmas
pub mod ProductLemmas
pub mod TurnLemmas
pub mod CircleLemmas
pub mod TextLemmas
mod AngleLemmas
