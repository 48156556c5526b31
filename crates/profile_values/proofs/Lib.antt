mod AssignedLemmas
mod SectionValueLemmas
mod VarLemmas
