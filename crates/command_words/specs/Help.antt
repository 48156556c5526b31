-- What the program tells of itself. This project's own rule.
use Rattle.std.specs.Prelude.{ℕ, ◌==◌, cond, ◌||◌, nat_eq, List, [], ◌∷◌, ◌++◌, Option, Some, None, codes, decimal}
use lib.Pointwise.{pointwise}
use Rattle.command_words.specs.Command.{command_named}
use Rattle.command_words.specs.Meanings.{default_text, meaning_of}
use Rattle.command_words.specs.Rows.{key_name, command_name, keys_of, about_of, commands}
use Rattle.command_words.specs.declared.rows.Form.{Form}
use Rattle.command_words.specs.declared.rows.Form.TheVariants.{Number, Place, Product, File, ProfileFile, Query, Address, Cost}
use Rattle.command_words.specs.declared.rows.KeyRow.{KeyRow}
use Rattle.command_words.specs.declared.rows.CommandName.{CommandName}

-- the form of a value
abbrev pub form_text : Form → List ℕ
form_text (Number low high) = decimal low ++ (codes ".." ++ decimal high)
form_text Place = codes "X,Y"
form_text Product = codes "map|hgt"
form_text File = codes "FILE"
form_text ProfileFile = codes "FILE"
form_text Query = codes "QUERY"
form_text Address = codes "ADDRESS"
form_text Cost = codes "COST"

-- a key with the form of its value, in brackets where it isn't wanted
abbrev pub key_text : KeyRow → List ℕ
key_text row =
    cond (row.least == 0) (codes " [") (codes " ") ++
    (key_name row.key ++ (61 ∷ (form_text row.form ++ cond (row.least == 0) (codes "]") [])))

-- keys, one after the other
abbrev pub keys_text : List KeyRow → List ℕ
keys_text [] = []
keys_text (row ∷ rows) = key_text row ++ keys_text rows

-- how a command is called
unfoldable pub call_text : CommandName → List ℕ
call_text command = codes "usage: route_serve " ++ (command_name command ++ keys_text (keys_of command))

-- what it does, on a line of its own
unfoldable pub about_text : CommandName → List ℕ
about_text command = codes "\n  " ++ (about_of command ++ 10 ∷ [])

-- the two lines of a command
abbrev pub command_text : CommandName → List ℕ
command_text command = call_text command ++ about_text command

-- commands, one after the other
abbrev pub commands_text : List CommandName → List ℕ
commands_text [] = []
commands_text (command ∷ more) = command_text command ++ commands_text more

-- what `--help` tells: each command of the rows
abbrev pub help_text : List ℕ
help_text = commands_text commands

-- a command of the list, with its sentence
unfoldable pub item_text : CommandName → List ℕ
item_text command = codes "  " ++ (command_name command ++ (codes ": " ++ (about_of command ++ 10 ∷ [])))

-- commands of the list, one after the other
abbrev pub items_text : List CommandName → List ℕ
items_text [] = []
items_text (command ∷ more) = item_text command ++ items_text more

-- the list of the commands
abbrev pub list_text : List ℕ
list_text =
    codes "usage: route_serve COMMAND KEY=VALUE ..\n"
    ++ (items_text commands ++ codes "route_serve COMMAND --help tells the keys of a command, route_serve --help those of all\n")

-- a key with the form of its value
abbrev pub pair_text : KeyRow → List ℕ
pair_text row = key_name row.key ++ (61 ∷ form_text row.form)

-- how often a key may come, where it may come more than once
abbrev pub most_text : ℕ → List ℕ
most_text most = cond (most == 1) [] (codes ", at most " ++ decimal most)

-- whether a key is wanted, or what stands for it where it isn't given
abbrev pub wanted_text : KeyRow → List ℕ
wanted_text row =
    cond (row.least == 0) (codes "; default " ++ (default_text row.key ++ most_text row.most)) (codes "; wanted")

-- a key with the form of its value, what it means, and whether it is wanted, on a line of its own
unfoldable pub detail_text : KeyRow → List ℕ
detail_text row = codes "  " ++ (pair_text row ++ (codes ": " ++ (meaning_of row.key ++ (wanted_text row ++ 10 ∷ []))))

-- such lines of keys
abbrev pub details_text : List KeyRow → List ℕ
details_text [] = []
details_text (row ∷ rows) = detail_text row ++ details_text rows

-- what `--help` tells behind a command: its row, and its keys
abbrev pub command_details : CommandName → List ℕ
command_details command = command_text command ++ details_text (keys_of command)

-- what `--version` tells
abbrev pub version_text : List ℕ
version_text = codes "route_serve 0.1.0\n"

-- what a word asks to be told
unfoldable pub told_by : List ℕ → Option (List ℕ)
told_by word =
    cond (pointwise nat_eq word (codes "--help")) (Some help_text)
    (cond (pointwise nat_eq word (codes "-h") || pointwise nat_eq word (codes "help")) (Some list_text)
    (cond (pointwise nat_eq word (codes "--version") || pointwise nat_eq word (codes "-V")) (Some version_text) None))

-- the keys of a command, if there is one
abbrev pub details_by : Option CommandName → Option (List ℕ)
details_by None = None
details_by (Some command) = Some (command_details command)

-- what a command and a word behind it ask to be told
unfoldable pub told_with : List ℕ → List ℕ → Option (List ℕ)
told_with name word = cond (pointwise nat_eq word (codes "--help")) (details_by (command_named name)) None

-- what words ask to be told instead of a command: a lone word does, or one behind a command
abbrev pub told_of : List (List ℕ) → Option (List ℕ)
told_of [] = None
told_of (word ∷ []) = told_by word
told_of (name ∷ word ∷ []) = told_with name word
told_of (name ∷ word ∷ other ∷ words) = None
