-- What header lines say of a body's length, line by line; no public clause cites this.
use Rattle.std.specs.Prelude.{ℕ, Bool, List, [], ◌∷◌, if◌then◌else◌, Option, Some, None, option_map, is_some, codes}
use Rattle.route_http.specs.Fields.{is_named, number_of}

-- what is told after one more header line, where it can still be told soundly
abbrev pub told_more : Option ℕ → List ℕ × List ℕ → Option (Option ℕ)
told_more told header =
    if is_named (codes "transfer-encoding") header then None
    else (if is_named (codes "content-length") header
    then (if is_some told then None else option_map (λ (n : ℕ). Some n) (number_of header.1)) else Some told)
