-- The line that is printed of a refused query. This project's own rule.
use Rattle.std.specs.Prelude.{ℕ, List, ◌++◌, codes}
use Rattle.std.specs.Fmt.{decimal}
use Rattle.route_http.specs.declared.error.RequestError.{RequestError}
use Rattle.route_http.specs.declared.error.RequestError.TheVariants as error
use Rattle.route_http.specs.declared.key.Key.{Key}
use Rattle.route_http.specs.declared.key.Key.TheVariants.{Lonlats, Nogos, Profile, Alternativeidx, Format, Labels, Override, Runs, Cost, Sources, Destinations}

-- a key as it is written
abbrev pub key_name : Key → List ℕ
key_name Lonlats = codes "lonlats"
key_name Nogos = codes "nogos"
key_name Profile = codes "profile"
key_name Alternativeidx = codes "alternativeidx"
key_name Format = codes "format"
key_name Labels = codes "labels"
key_name Override = codes "profile:"
key_name Runs = codes "runs"
key_name Cost = codes "cost"
key_name Sources = codes "sources"
key_name Destinations = codes "destinations"

-- the line, without an end of line
abbrev pub request_line : RequestError → List ℕ
request_line (error.UnknownKey place) = codes "query: unknown key at pair " ++ decimal place
request_line (error.Repeated key) = codes "query: repeated " ++ key_name key
request_line (error.BadValue key) = codes "query: bad value of " ++ key_name key
request_line (error.TooMany key) = codes "query: too many in " ++ key_name key
request_line error.Format = codes "query: format not offered"
request_line (error.Missing key) = codes "query: missing " ++ key_name key
request_line error.NoMemory = codes "out of memory"
