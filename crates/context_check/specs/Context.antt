-- What the expressions of a section may name. This project's own rule.
use Rattle.std.specs.Prelude.{ℕ, List, Option, Some, None}
use Rattle.context_check.specs.declared.context.Context.{Context as Inside}
use Rattle.lookup_table.specs.First.{TagTable}
use Rattle.lookup_table.specs.Tag.{TagRow}
use Rattle.profile_text.specs.declared.kind.Section.{Section}
use Rattle.profile_text.specs.declared.kind.Section.TheVariants.{Global, Way, Node}

-- the section, the tags that its looks may name if it may have any, and the names of the global section
pub record Context : Type 0 where
  pub section : Section
  pub rows : Option (List TagRow)
  pub global : List (List ℕ)

-- the tags of a section; the global one has no part of the table
abbrev pub rows_in : TagTable → Section → Option (List TagRow)
rows_in table Global = None
rows_in table Way = Some table.way
rows_in table Node = Some table.node

-- the context of a section under a tag table, after these names of the global section
abbrev pub context_in : TagTable → Section → List (List ℕ) → Context
context_in table section global = record { section = section; rows = rows_in table section; global = global }

-- what the code's context stands for
abbrev pub context_of : Inside → Context
context_of c = context_in c.table.now c.section c.global.now
