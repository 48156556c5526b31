-- The commands as rows. This project's own rule.
use Rattle.std.specs.Prelude.{ℕ, ◌^◌, List, [], ◌∷◌, ◌++◌, codes}
use Rattle.command_words.specs.declared.rows.Key.{Key}
use Rattle.command_words.specs.declared.rows.Key.TheVariants.{Seed, Width, Height, From, To, What, Lookups, Profile, Map, Query, Tile, Listen, Turns, Hangup, Labels, Hierarchies, Certificate, Cost, Bound, Notes}
use Rattle.command_words.specs.declared.rows.Form.{Form}
use Rattle.command_words.specs.declared.rows.Form.TheVariants as form
use Rattle.command_words.specs.declared.rows.KeyRow.{KeyRow}
use Rattle.command_words.specs.declared.rows.CommandName.{CommandName}
use Rattle.command_words.specs.declared.rows.CommandName.TheVariants.{Grid, Make, Code, Route, Certify, Check, Table, Within, Hills, Serve}

-- what stands before the equals sign
unfoldable pub key_name : Key → List ℕ
key_name Seed = codes "seed"
key_name Width = codes "w"
key_name Height = codes "h"
key_name From = codes "from"
key_name To = codes "to"
key_name What = codes "what"
key_name Lookups = codes "lookups"
key_name Profile = codes "profile"
key_name Map = codes "map"
key_name Query = codes "query"
key_name Tile = codes "tile"
key_name Listen = codes "listen"
key_name Turns = codes "turns"
key_name Hangup = codes "hangup"
key_name Labels = codes "labels"
key_name Hierarchies = codes "hierarchies"
key_name Certificate = codes "certificate"
key_name Cost = codes "cost"
key_name Bound = codes "bound"
key_name Notes = codes "notes"

-- the first word of a command
unfoldable pub command_name : CommandName → List ℕ
command_name Grid = codes "grid"
command_name Make = codes "make"
command_name Code = codes "code"
command_name Route = codes "route"
command_name Certify = codes "certify"
command_name Check = codes "check"
command_name Table = codes "table"
command_name Within = codes "within"
command_name Hills = codes "hills"
command_name Serve = codes "serve"

-- a key that is wanted once
abbrev pub once : Key → Form → KeyRow
once key wanted = record { form = wanted; least = 1; most = 1; key = key }

-- a key that may come so often
abbrev pub up_to : ℕ → Key → Form → KeyRow
up_to most key wanted = record { form = wanted; least = 0; most = most; key = key }

-- the most events that a server may be told to take, and how many it takes at most where it isn't told
abbrev pub most_turns : ℕ
most_turns = 2 ^ 63

-- the most labels that a server may be told to settle for an alternative of a leg, and how many it settles at
-- most where it isn't told
abbrev pub most_labels : ℕ
most_labels = 4000000000

-- the most profiles for which a server may be told to keep a hierarchy, and for how many it keeps one where it
-- isn't told
abbrev pub most_hierarchies : ℕ
most_hierarchies = 8

-- the number that stands for a key that isn't given
abbrev pub default_number : Key → ℕ
default_number Turns = most_turns
default_number Labels = most_labels
default_number Hierarchies = most_hierarchies
default_number key = 0

-- whether a server notes what it does where it isn't told
abbrev pub server_notes : ℕ
server_notes = 1

-- the keys of a command that answers a query over files
abbrev pub ride_keys : List KeyRow
ride_keys =
    once Lookups form.File ∷ once Profile form.ProfileFile ∷ once Map form.File ∷ once Query
    form.Query ∷ up_to 64 Tile form.File ∷ up_to 1 Notes (form.Number 0 1) ∷ []

-- the keys of a command
unfoldable pub keys_of : CommandName → List KeyRow
keys_of Grid =
    once Seed (form.Number 0 65535) ∷ once Width (form.Number 1 1000) ∷ once Height
    (form.Number 1 1000) ∷ once From form.Place ∷ once To form.Place
    ∷ up_to 1 Lookups form.File ∷ up_to 1 Profile form.ProfileFile ∷ []
keys_of Make =
    once Seed (form.Number 0 65535) ∷ once Width (form.Number 1 1000) ∷ once Height
    (form.Number 1 1000) ∷ once What form.Product ∷ []
keys_of Code = once Lookups form.File ∷ once Profile form.ProfileFile ∷ []
keys_of Route = ride_keys
keys_of Certify = ride_keys ++ up_to 1 Bound (form.Number 0 1) ∷ []
keys_of Check = ride_keys ++ once Certificate form.File ∷ []
keys_of Table = ride_keys
keys_of Within = ride_keys ++ once Cost form.Cost ∷ []
keys_of Hills = once Seed (form.Number 0 65535) ∷ once Width (form.Number 1 1000) ∷ once Height
    (form.Number 1 1000) ∷ []
keys_of Serve =
    once Lookups form.File ∷ once Map form.File ∷ up_to 64 Profile form.ProfileFile ∷ up_to 64 Tile form.File
    ∷ up_to 1 Listen form.Address ∷ up_to 1 Turns (form.Number 1 most_turns)
    ∷ up_to 1 Hangup (form.Number 0 1) ∷ up_to 1 Labels (form.Number 1 most_labels)
    ∷ up_to 1 Hierarchies (form.Number 0 most_hierarchies) ∷ up_to 1 Notes (form.Number 0 1) ∷ []

-- what a command does
unfoldable pub about_of : CommandName → List ℕ
about_of Grid =
    codes "prints a shortest walk across the grid of w by h cells of a seed, or a cheapest one by a profile"
about_of Make =
    codes "writes the map of the grid of w by h cells of a seed, or the tile of heights of the seed"
about_of Code = codes "prints the flat code of a profile under a tag table"
about_of Route = codes "answers a query over a map by a profile, with heights from tiles"
about_of Certify =
    codes
    "prints a certificate of the track that answers a query: its walks, and labels that show them least"
about_of Check =
    codes "tests a certificate for a query without a search of labels, and prints the cost of its track"
about_of Table = codes "prints what it costs at least to come from each waypoint of a query to each"
about_of Within =
    codes
    "prints each node to which it costs at most so much to come from a waypoint of a query, with what it costs at least"
about_of Hills =
    codes
    "prints what the cheapest track costs from corner to corner of the hilly grid of w by h cells of a seed"
about_of Serve = codes "answers routes, tables and certificates over HTTP, and takes profiles"

-- the commands that are built
abbrev pub commands : List CommandName
commands = Grid ∷ Make ∷ Code ∷ Route ∷ Certify ∷ Check ∷ Table ∷ Within ∷ Hills ∷ Serve ∷ []
