-- The stage of a tag table. This project's own rule.
use Rattle.std.specs.Prelude.{ℕ, List, Result}
use Rattle.command_words.specs.Given.{Named}
use Rattle.item_list.specs.Answer.{answer_map}
use Rattle.lookup_table.specs.First.{TagTable}
use Rattle.lookup_table.specs.Table.{table_of}
use Rattle.run_files.specs.Chain.{Settles, Stage, Then}
use Rattle.run_files.specs.File.{TakesFile}
use Rattle.run_files.specs.Limits.{most_lookups}
use Rattle.run_files.specs.declared.status.Status.{Status}
use Rattle.run_files.specs.declared.status.Status.TheVariants.{Lookup}

-- the tag table of a text, or its refusal, which names the word of the file
abbrev pub table_in : ℕ → List ℕ → Result TagTable Status
table_in word text = answer_map (λ (t : TagTable). t) (Lookup word) (table_of text)

-- the file is taken in, and then its tag table is read
abbrev pub TakesTable : Named → Stage TagTable
TakesTable file = Then (TakesFile file most_lookups) (λ text. Settles (table_in file.word text))
