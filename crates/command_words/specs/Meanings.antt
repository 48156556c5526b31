-- What the keys of the commands mean. This project's own rule.
use Rattle.std.specs.Prelude.{ℕ, List, None, codes, decimal}
use Rattle.command_words.specs.Command.{address_of}
use Rattle.command_words.specs.Rows.{default_number}
use Rattle.command_words.specs.declared.rows.Key.{Key}
use Rattle.command_words.specs.declared.rows.Key.TheVariants.{Seed, Width, Height, From, To, What, Lookups, Profile, Map, Query, Tile, Listen, Turns, Hangup, Labels, Hierarchies, Certificate, Cost, Bound, Notes}

-- what the value of a key is for
unfoldable pub meaning_of : Key → List ℕ
meaning_of Seed = codes "the seed of the grid"
meaning_of Width = codes "how many cells a row of the grid has"
meaning_of Height = codes "how many rows the grid has"
meaning_of From = codes "the cell where the walk begins, by column and row from 0"
meaning_of To = codes "the cell where the walk ends, by column and row from 0"
meaning_of What = codes "what is made: the map, or the tile of heights"
meaning_of Lookups = codes "the file of the tag table"
meaning_of Profile = codes "the file of a profile, which has its name without .brf"
meaning_of Map = codes "the file of the map"
meaning_of Query = codes "the query, as behind the ? of a request"
meaning_of Tile = codes "a file of heights"
meaning_of Listen = codes "the IP address and the port to listen at"
meaning_of Turns = codes "the server ends after so many events"
meaning_of Hangup = codes "1 where a peer that sends no more is gone, as behind a front"
meaning_of Labels = codes "how many labels a search may settle at most"
meaning_of Hierarchies = codes "for how many profiles a hierarchy is kept"
meaning_of Certificate = codes "the file of the certificate"
meaning_of Cost = codes "the most that the way to a node may cost"
meaning_of Bound = codes "1 where labels rank with a lower bound of what is still to pay"
meaning_of Notes = codes "1 where what is done is noted on standard error"

-- what stands for a key that isn't given
unfoldable pub default_text : Key → List ℕ
default_text Listen = address_of None
default_text Turns = decimal (default_number Turns)
default_text Labels = decimal (default_number Labels)
default_text Hierarchies = decimal (default_number Hierarchies)
default_text Hangup = decimal (default_number Hangup)
default_text Bound = decimal (default_number Bound)
default_text Notes = codes "1 of serve, else 0"
default_text key = codes "none"
