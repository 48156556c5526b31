-- The numbers of a command are within their limits, its places in its grid, its profiles have names of their
-- own, and its address is one. This project's own rule.
use Rattle.std.specs.List.{list_any}
use Rattle.std.specs.Prelude.{◌≡◌, ℕ, ◌≤◌, ◌<◌, ◌^◌, Bool, true, false, List, [], ◌∷◌, ◌++◌, Some}
use Rattle.std.specs.Str.{bytes_eq}
use Rattle.command_words.specs.Addresses.{SpellsAddress}
use Rattle.command_words.specs.FileNames.{is_profile_file, profile_name}
use Rattle.command_words.specs.Given.{Named}
use Rattle.command_words.specs.Rows.{most_hierarchies, most_labels, most_turns}
use Rattle.command_words.specs.declared.command.Command.{Command}
use Rattle.command_words.specs.declared.command.Command as Form
use Rattle.command_words.specs.declared.command.GridCommand.{GridCommand}
use Rattle.command_words.specs.declared.command.ServeCommand.{ServeCommand}

-- the seed and the sizes of a grid are within their limits
pub record IsSized (seed w h : ℕ) : Type 0 where
  pub seeds : seed ≤ 65535
  pub some_width : 1 ≤ w
  pub width : w ≤ 1000
  pub some_height : 1 ≤ h
  pub height : h ≤ 1000

-- the grid is within its limits, and both places lie in it
pub record IsGridFit (command : GridCommand) : Type 0 where
  pub sized : IsSized command.seed command.w command.h
  pub from_x : command.from.x < command.w
  pub from_y : command.from.y < command.h
  pub to_x : command.to.x < command.w
  pub to_y : command.to.y < command.h

-- each of these is a path of a profile's file
abbrev pub AreProfileFiles : List Named → Type 0
AreProfileFiles [] = Unit {0}
AreProfileFiles (file ∷ files) = (is_profile_file file.name ≡ true) × AreProfileFiles files

-- a name is among names
abbrev pub is_among : List (List ℕ) → List ℕ → Bool
is_among names name = list_any (λ other. bytes_eq other name) names

-- the profiles of these files have none of the names before them, and none the name of another
abbrev pub AreOnceAfter : List (List ℕ) → List Named → Type 0
AreOnceAfter before [] = Unit {0}
AreOnceAfter before (file ∷ files) =
    (is_among before (profile_name file.name) ≡ false) ×
    AreOnceAfter (before ++ profile_name file.name ∷ []) files

-- the greatest cost that a word may tell, in millionths
abbrev pub most_cost : ℕ
most_cost = 10 ^ 15

-- the events that a server takes, the labels that a search of it may settle and the profiles for which it keeps a
-- hierarchy are within their limits, its profiles have names, each its own, and where it listens is an IP address with a port
pub record IsServeFit (command : ServeCommand) : Type 0 where
  pub some_turns : 1 ≤ command.turns
  pub turns : command.turns ≤ most_turns
  pub some_labels : 1 ≤ command.labels
  pub labels : command.labels ≤ most_labels
  pub hierarchies : command.hierarchies ≤ most_hierarchies
  pub named : AreProfileFiles command.profiles
  pub once : AreOnceAfter [] command.profiles
  pub listens : (word : Named) → command.listen ≡ Some word → SpellsAddress word.name

-- the numbers of a command are within their limits, its places in its grid, its profiles have names of their
-- own, and its address is one
abbrev pub IsFit : Command → Type 0
IsFit (Form.TheVariants.Grid command) = IsGridFit command
IsFit (Form.TheVariants.Make command) = IsSized command.seed command.w command.h
IsFit (Form.TheVariants.Code command) = Unit {0}
IsFit (Form.TheVariants.Route command) = Unit {0}
IsFit (Form.TheVariants.Certify command) = Unit {0}
IsFit (Form.TheVariants.Check command) = Unit {0}
IsFit (Form.TheVariants.Table command) = Unit {0}
IsFit (Form.TheVariants.Within command) = command.cost ≤ most_cost
IsFit (Form.TheVariants.Hills command) = IsSized command.seed command.w command.h
IsFit (Form.TheVariants.Serve command) = IsServeFit command
