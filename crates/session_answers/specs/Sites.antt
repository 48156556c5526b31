-- What a server answers requests over, and which requests it takes.
use Rattle.std.specs.Prelude.{ℕ, nat_lt, ◌==◌, Bool, true, List, Result, Ok, Err, if◌then◌else◌}
use Rattle.item_list.specs.Answer.{and_then}
use Rattle.route_engine.specs.declared.aim.Aim.{Aim}
use Rattle.route_engine.specs.declared.aim.Aim.TheVariants.{Certificate, Table, Track, Within}
use Rattle.route_http.specs.Asked.{Asked}
use Rattle.route_http.specs.Request.{costed_of, request_of, tabled_of}
use Rattle.route_http.specs.declared.error.RequestError.{RequestError}
use Rattle.route_http.specs.declared.error.RequestError.TheVariants.{BadValue}
use Rattle.route_http.specs.declared.key.Key.TheVariants.{Alternativeidx}
use Rattle.route_ready.specs.Worlds.{WorldValue}

-- a world, and the most labels that a search over it settles, whatever a request asks
pub record Site : Type 0 where
  pub world : WorldValue
  pub labels : ℕ

-- both together
abbrev pub site_of : WorldValue → ℕ → Site
site_of world labels = record { world = world; labels = labels }

-- a request of which no search settles more labels than these
abbrev pub limited : ℕ → Asked → Asked
limited most asked = record asked { labels = if nat_lt most asked.labels then most else asked.labels }

-- whether what is asked for may be asked of an alternative: a certificate is of the first one alone
abbrev pub is_taken : Aim → ℕ → Bool
is_taken Track alternative = true
is_taken Table alternative = true
is_taken Certificate alternative = alternative == 0
is_taken Within alternative = true

-- a request that asks for this, or that it has another alternative than may be asked of
abbrev pub asked_for : Aim → Asked → Result Asked RequestError
asked_for aim asked = if is_taken aim asked.alternative then Ok asked else Err (BadValue Alternativeidx)

-- the request that a query spells which asks for this: with a cost where that is asked for, of a table with sources
-- and destinations where these come, and else without
abbrev pub spelt_for : Aim → List ℕ → Result Asked RequestError
spelt_for Track query = request_of query
spelt_for Table query = tabled_of query
spelt_for Certificate query = request_of query
spelt_for Within query = costed_of query

-- the same as a site answers it
abbrev pub request_at : Site → Aim → List ℕ → Result Asked RequestError
request_at site aim query = and_then (spelt_for aim query) (λ asked. asked_for aim (limited site.labels asked))
