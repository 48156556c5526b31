-- The stage of a query. This project's own rule.
use Rattle.std.specs.Prelude.{ℕ, List, Result}
use Rattle.item_list.specs.Answer.{answer_map}
use Rattle.route_http.specs.Asked.{Asked}
use Rattle.route_http.specs.Request.{lined_of, request_of, tabled_of}
use Rattle.run_files.specs.declared.status.Status.{Status}
use Rattle.run_files.specs.declared.status.Status.TheVariants.{Query}

-- the request of a query, or its refusal
abbrev pub query_in : List ℕ → Result Asked Status
query_in text = answer_map (λ (asked : Asked). asked) Query (request_of text)

-- the same, as lines where no form is asked for
abbrev pub lined_in : List ℕ → Result Asked Status
lined_in text = answer_map (λ (asked : Asked). asked) Query (lined_of text)

-- the request of a query for costs between waypoints, or its refusal
abbrev pub tabled_in : List ℕ → Result Asked Status
tabled_in text = answer_map (λ (asked : Asked). asked) Query (tabled_of text)
