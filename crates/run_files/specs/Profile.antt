-- The stage of a profile. This project's own rule.
use Rattle.std.specs.Prelude.{ℕ, List, Result}
use Rattle.command_words.specs.Given.{Named}
use Rattle.item_list.specs.Answer.{answer_map}
use Rattle.profile_text.specs.Read.{profile_of}
use Rattle.profile_text.specs.Tree.{Sections}
use Rattle.run_files.specs.Chain.{Settles, Stage, Then}
use Rattle.run_files.specs.File.{TakesFile}
use Rattle.run_files.specs.Limits.{most_profile}
use Rattle.run_files.specs.declared.status.Status.{Status}
use Rattle.run_files.specs.declared.status.Status.TheVariants.{Text}

-- the profile of a text, or its refusal, which names the word of the file
abbrev pub profile_in : ℕ → List ℕ → Result Sections Status
profile_in word text = answer_map (λ (s : Sections). s) (Text word) (profile_of text)

-- the file is taken in, and then its profile is read
abbrev pub TakesProfile : Named → Stage Sections
TakesProfile file = Then (TakesFile file most_profile) (λ text. Settles (profile_in file.word text))
