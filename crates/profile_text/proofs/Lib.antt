mod AssignmentFaultLemmas
pub mod CallerLemmas
mod ExprFaultLemmas
mod FoundLemmas
mod FrontLemmas
mod GrammarLemmas
mod LookLemmas
mod NameLemmas
mod OperandLemmas
mod PartLemmas
mod ReadLemmas
mod SectionFaultLemmas
mod SectionLemmas
mod StopLemmas
mod TokenLemmas
