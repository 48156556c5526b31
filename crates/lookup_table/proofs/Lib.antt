pub mod CallerLemmas
mod EncodeLemmas
mod LineLemmas
mod ReadLemmas
mod RowLemmas
mod TableLemmas
mod TagLemmas
mod TextLemmas
mod WordLemmas
