-- The stage of a profile that is checked under a tag table. This project's own rule.
use Rattle.std.specs.Prelude.{ℕ, [], Option, Some, None, Result, Ok, Err}
use Rattle.command_words.specs.Given.{Named}
use Rattle.context_check.specs.Refusal.{refusal_of}
use Rattle.context_check.specs.declared.error.CheckError.{CheckError}
use Rattle.lookup_table.specs.First.{TagTable}
use Rattle.profile_text.specs.Tree.{Sections}
use Rattle.run_files.specs.Chain.{Settles, Stage, Then}
use Rattle.run_files.specs.Profile.{TakesProfile}
use Rattle.run_files.specs.declared.status.Status.{Status}
use Rattle.run_files.specs.declared.status.Status.TheVariants.{Check}

-- a profile in which nothing is at fault, or its refusal, which names the word of the file
abbrev pub checked_by : ℕ → Sections → Option CheckError → Result Sections Status
checked_by word sections (Some error) = Err (Check word error)
checked_by word sections None = Ok sections

-- the same of a profile under a tag table, without overrides
abbrev pub checked_in : ℕ → TagTable → Sections → Result Sections Status
checked_in word table sections = checked_by word sections (refusal_of table sections [])

-- the profile is taken in and read, and then it is checked
abbrev pub TakesChecked : TagTable → Named → Stage Sections
TakesChecked table file = Then (TakesProfile file) (λ sections. Settles (checked_in file.word table sections))
