-- What a query asks for. This project's own rule.
use Rattle.std.specs.Prelude.{ℕ, ℤ, Bool, List}
use Rattle.geo_int.specs.Place.{Place}
use Rattle.route_http.specs.declared.form.Form.{Form}

-- a request: its waypoints, the circles that it keeps out of, each with its radius in millimetres, the name
-- of its profile, which alternative, the form of the reply, the most labels, the overrides, whether runs are
-- searched, the cost within which nodes are asked for, in millionths (0 where none are), and the numbers of the
-- waypoints from which and to which costs are asked for (none where these are all waypoints)
pub record Asked : Type 0 where
  pub waypoints : List Place
  pub circles : List (Place × ℕ)
  pub profile : List ℕ
  pub alternative : ℕ
  pub form : Form
  pub labels : ℕ
  pub overrides : List (List ℕ × ℤ)
  pub runs : Bool
  pub cost : ℕ
  pub sources : List ℕ
  pub destinations : List ℕ
