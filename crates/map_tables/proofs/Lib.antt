pub mod CallerLemmas
pub mod IdLemmas
pub mod KeptLemmas
pub mod ListLemmas
pub mod MemberLemmas
pub mod TableLemmas
pub mod TagLemmas
pub mod WithinLemmas
