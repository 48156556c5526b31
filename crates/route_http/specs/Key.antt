-- The keys of a query. This project's own rule.
use Rattle.std.specs.Prelude.{ℕ, Bool, not, ◌&&◌, List, drop, nat_eq, is_some, if◌then◌else◌, Option, Some, None, codes, bytes_eq}
use Rattle.std.specs.List.{starts_with}
use Rattle.profile_text.specs.Kind.{is_name, word_of, op_of}
use Rattle.route_http.specs.declared.key.Key.{Key}
use Rattle.route_http.specs.declared.key.Key.TheVariants as key

-- the key of a name, if there is one, where a cost may come or not, and sources and destinations may or not; each
-- name that begins with `profile:` is an override's
unfoldable pub key_of : (costed tabled : Bool) → List ℕ → Option Key
key_of costed tabled name =
    if bytes_eq name (codes "lonlats") then Some key.Lonlats
    else (if bytes_eq name (codes "nogos") then Some key.Nogos
    else (if bytes_eq name (codes "profile") then Some key.Profile
    else (if bytes_eq name (codes "alternativeidx") then Some key.Alternativeidx
    else (if bytes_eq name (codes "format") then Some key.Format
    else (if bytes_eq name (codes "labels") then Some key.Labels
    else (if bytes_eq name (codes "runs") then Some key.Runs
    else (if costed && bytes_eq name (codes "cost") then Some key.Cost
    else (if tabled && bytes_eq name (codes "sources") then Some key.Sources
    else (if tabled && bytes_eq name (codes "destinations") then Some key.Destinations
    else (if starts_with nat_eq name (codes "profile:") then Some key.Override else None))))))))))

-- the variable that an override's key names
abbrev pub variable_of : List ℕ → List ℕ
variable_of name = drop 8 name

-- a name of the profile language, and none of its words
abbrev pub is_variable : List ℕ → Bool
is_variable text = is_name text && (not (is_some (word_of text)) && not (is_some (op_of text)))
