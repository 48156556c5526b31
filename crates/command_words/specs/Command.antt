-- The command that a list of words is, or the place of the word at fault. This project's own rule.
use Rattle.std.specs.List.{find}
use Rattle.std.specs.Prelude.{ℕ, ◌+◌, ◌==◌, Bool, cond, ◌&&◌, nat_lt, Option, Some, None, option_map, Result, Ok, Err, List, [], ◌∷◌, length, map, codes}
use Rattle.std.specs.Str.{bytes_eq}
use Rattle.command_words.specs.Given.{Given, Named}
use Rattle.command_words.specs.Reader.{entries_of, entries_with, entry_with}
use Rattle.command_words.specs.Rows.{command_name, commands, default_number, keys_of, server_notes}
use Rattle.command_words.specs.Value.{number_in, place_in, product_in}
use Rattle.command_words.specs.declared.rows.CommandName.{CommandName}
use Rattle.command_words.specs.declared.rows.CommandName.TheVariants.{Grid, Make, Code, Route, Certify, Check, Table, Within, Hills, Serve}
use Rattle.command_words.specs.declared.rows.Key.{Key}
use Rattle.command_words.specs.declared.rows.Key.TheVariants.{Seed, Width, Height, From, To, What, Lookups, Profile, Map, Query, Tile, Listen, Turns, Hangup, Labels, Hierarchies, Certificate, Cost, Bound, Notes}
use Rattle.command_words.specs.declared.command.Command.{Command}
use Rattle.command_words.specs.declared.command.Command as Form
use Rattle.command_words.specs.declared.command.CodeCommand.{CodeCommand}
use Rattle.command_words.specs.declared.command.RouteCommand.{RouteCommand}
use Rattle.command_words.specs.declared.completing.Sizes.{Sizes}
use Rattle.command_words.specs.declared.value.Place.{Place}

-- a place lies in a grid of these sizes
abbrev pub lies_in : ℕ → ℕ → Place → Bool
lies_in w h place = nat_lt place.x w && nat_lt place.y h

-- the file that an entry names
abbrev pub file_in : Given → Named
file_in entry = record { name = entry.text; word = entry.word }

-- the two files of a profile, none where neither is there, or the place after the last word where one is
-- missing
abbrev pub files_with : ℕ → Option Given → Option Given → Result (Option CodeCommand) ℕ
files_with after (Some lookups) (Some profile) =
    Ok (Some (record { lookups = file_in lookups; profile = file_in profile }))
files_with after None None = Ok None
files_with after lookups profile = Err after

-- the seed of a grid and its sizes, none where one is missing
abbrev pub sizes_with : (seed w h : Option Given) → Option Sizes
sizes_with (Some seed) (Some w) (Some h) =
    Some (record { seed = number_in seed.value; w = number_in w.value; h = number_in h.value })
sizes_with seed w h = None

-- the seed and the sizes that entries give
abbrev pub sizes_in : List Given → Option Sizes
sizes_in entries = sizes_with (entry_with Seed entries) (entry_with Width entries) (entry_with Height entries)

-- the command of a seed with sizes, two places with their words, and files, or the word of the first place
-- outside the grid
abbrev pub grid_by : (sizes : Sizes) (from to : Given) (files : Option CodeCommand) → Result Command ℕ
grid_by sizes from to files =
    cond (lies_in sizes.w sizes.h (place_in from.value))
    (cond (lies_in sizes.w sizes.h (place_in to.value))
    (Ok (Form.TheVariants.Grid
    (record {
      from = place_in from.value;
      to = place_in to.value;
      seed = sizes.seed;
      w = sizes.w;
      h = sizes.h;
      files =
          files;
    })))
    (Err to.word))
    (Err from.word)

-- the same where the files may be wanting
abbrev pub grid_over : (sizes : Sizes) (from to : Given) (files : Result (Option CodeCommand) ℕ)
    → Result Command ℕ
grid_over sizes from to (Ok files) = grid_by sizes from to files
grid_over sizes from to (Err word) = Err word

-- the command of the entries that are there, or the place after the last word where one is missing
abbrev pub grid_with : (after : ℕ) (sizes : Option Sizes) (from to : Option Given)
    (files : Result (Option CodeCommand) ℕ) → Result Command ℕ
grid_with after (Some sizes) (Some from) (Some to) files = grid_over sizes from to files
grid_with after sizes from to files = Err after

-- the command of what is to be made of a grid, or the place after the last word where one is missing
abbrev pub make_with : (after : ℕ) (sizes : Option Sizes) (what : Option Given) → Result Command ℕ
make_with after (Some sizes) (Some what) =
    Ok (Form.TheVariants.Make (record {
      seed = sizes.seed;
      w = sizes.w;
      h = sizes.h;
      what = product_in what.value;
    }))
make_with after sizes what = Err after

-- the command of the two files, or the place after the last word where one is missing
abbrev pub code_with : ℕ → Option Given → Option Given → Result Command ℕ
code_with after (Some lookups) (Some profile) =
    Ok (Form.TheVariants.Code (record { lookups = file_in lookups; profile = file_in profile }))
code_with after lookups profile = Err after

-- the files that entries of a key name
abbrev pub files_in : Key → List Given → List Named
files_in key entries = map file_in (entries_with key entries)

-- the number of an entry, or this one where the entry is missing
unfoldable pub number_or : Option Given → ℕ → ℕ
number_or None missing = missing
number_or (Some entry) missing = number_in entry.value

-- a query, the files that it is answered over, and whether notes are written; none where a file is missing
abbrev pub ride_with : (lookups profile roads query : Option Given) (tiles : List Named) (notes : Bool) →
    Option RouteCommand
ride_with (Some lookups) (Some profile) (Some roads) (Some query) tiles notes =
    Some (record {
      lookups = file_in lookups;
      profile = file_in profile;
      map = file_in roads;
      query = file_in query;
      tiles = tiles;
      notes = notes;
    })
ride_with lookups profile roads query tiles notes = None

-- the query of these entries and its files
abbrev pub ride_in : List Given → Option RouteCommand
ride_in entries =
    ride_with (entry_with Lookups entries) (entry_with Profile entries) (entry_with Map entries)
    (entry_with Query entries) (files_in Tile entries)
    (number_or (entry_with Notes entries) (default_number Notes) == 1)

-- the command that checks a certificate for a query, or the place after the last word where it is missing
abbrev pub check_by : ℕ → RouteCommand → Option Given → Result Command ℕ
check_by after route (Some certificate) =
    Ok (Form.TheVariants.Check (record { route = route; certificate = file_in certificate }))
check_by after route None = Err after

-- the command that tells what lies within a cost of the waypoints of a query, or the place after the last
-- word where the cost is missing
abbrev pub within_by : ℕ → RouteCommand → Option Given → Result Command ℕ
within_by after route (Some cost) =
    Ok (Form.TheVariants.Within (record { route = route; cost = number_in cost.value }))
within_by after route None = Err after

-- the command of this name for a query, or the place after the last word where what it takes beside is
-- missing; `route` where the name is that of no other such command
abbrev pub ride_by : ℕ → CommandName → RouteCommand → List Given → Result Command ℕ
ride_by after Certify route entries =
    Ok (Form.TheVariants.Certify (record { route = route; bound = number_or (entry_with Bound entries) (default_number Bound) == 1 }))
ride_by after Check route entries = check_by after route (entry_with Certificate entries)
ride_by after Table route entries = Ok (Form.TheVariants.Table route)
ride_by after Within route entries = within_by after route (entry_with Cost entries)
ride_by after command route entries = Ok (Form.TheVariants.Route route)

-- the same where the query may be wanting
abbrev pub ride_over : ℕ → CommandName → Option RouteCommand → List Given → Result Command ℕ
ride_over after command (Some route) entries = ride_by after command route entries
ride_over after command None entries = Err after

-- the command of a hilly grid, or the place after the last word where an entry is missing
abbrev pub hills_with : ℕ → Option Sizes → Result Command ℕ
hills_with after (Some sizes) =
    Ok (Form.TheVariants.Hills (record { seed = sizes.seed; w = sizes.w; h = sizes.h }))
hills_with after None = Err after

-- where a server listens by a word that may be missing
unfoldable pub address_of : Option Named → List ℕ
address_of None = codes "127.0.0.1:17777"
address_of (Some word) = word.name

-- the command of a server, or the place after the last word where the tag table or the map is missing
abbrev pub serve_with : (after : ℕ) (lookups roads : Option Given) (profiles tiles : List Named)
    (listen turns hangup labels hierarchies notes : Option Given) → Result Command ℕ
serve_with after (Some lookups) (Some roads) profiles tiles listen turns hangup labels hierarchies notes =
    Ok (Form.TheVariants.Serve (record {
      lookups = file_in lookups;
      map = file_in roads;
      profiles = profiles;
      tiles = tiles;
      listen = option_map file_in listen;
      turns = number_or turns (default_number Turns);
      hangup = number_or hangup (default_number Hangup) == 1;
      labels = number_or labels (default_number Labels);
      hierarchies = number_or hierarchies (default_number Hierarchies);
      notes = number_or notes server_notes == 1;
    }))
serve_with after lookups roads profiles tiles listen turns hangup labels hierarchies notes = Err after

-- the command of this name and these entries, before the word at this place
unfoldable pub complete : CommandName → List Given → ℕ → Result Command ℕ
complete Grid entries after =
    grid_with after (sizes_in entries) (entry_with From entries) (entry_with To entries)
    (files_with after (entry_with Lookups entries) (entry_with Profile entries))
complete Make entries after = make_with after (sizes_in entries) (entry_with What entries)
complete Code entries after = code_with after (entry_with Lookups entries) (entry_with Profile entries)
complete Route entries after = ride_over after Route (ride_in entries) entries
complete Certify entries after = ride_over after Certify (ride_in entries) entries
complete Check entries after = ride_over after Check (ride_in entries) entries
complete Table entries after = ride_over after Table (ride_in entries) entries
complete Within entries after = ride_over after Within (ride_in entries) entries
complete Hills entries after = hills_with after (sizes_in entries)
complete Serve entries after =
    serve_with after (entry_with Lookups entries) (entry_with Map entries) (files_in Profile entries)
    (files_in Tile entries) (entry_with Listen entries) (entry_with Turns entries) (entry_with Hangup entries)
    (entry_with Labels entries) (entry_with Hierarchies entries) (entry_with Notes entries)

-- the command of this name and the words after it
abbrev pub command_with : CommandName → List (List ℕ) → Result Command ℕ
command_with command texts =
    elim (entries_of (keys_of command) texts) [
      | Err word ↦ Err word
      | Ok entries ↦ complete command entries (length texts + 1)
    ]

-- the command that a word names
unfoldable pub command_named : List ℕ → Option CommandName
command_named text = find (λ c. bytes_eq (command_name c) text) commands

-- the command of words whose first names one, if it does
abbrev pub command_by : Option CommandName → List (List ℕ) → Result Command ℕ
command_by None texts = Err 0
command_by (Some command) texts = command_with command texts

-- the command of words: its name, and then its keys with their values, each as often as its row wants it;
-- else the place of the first word at fault; where none is, the place after the last, if a key is missing;
-- else the word of a place outside the grid
abbrev pub command_of : List (List ℕ) → Result Command ℕ
command_of [] = Err 0
command_of (name ∷ texts) = command_by (command_named name) texts
