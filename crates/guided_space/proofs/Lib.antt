pub mod RuleLemmas
pub mod LawLemmas
