-- The waypoints between which costs are asked for, by their numbers (this project's own rule).
use Rattle.std.specs.Prelude.{ℕ, zero, suc, List, [], ◌∷◌, ◌++◌, length, get_or, map}
use Rattle.route_http.specs.Asked.{Asked}

-- the numbers below a count, in their order
abbrev pub numbers_below : (count : ℕ) → List ℕ
numbers_below zero = []
numbers_below (suc n) = numbers_below n ++ n ∷ []

-- the numbers that are named; where none is, all below a count
abbrev pub chosen : List ℕ → (count : ℕ) → List ℕ
chosen [] count = numbers_below count
chosen (number ∷ numbers) count = number ∷ numbers

-- the waypoints from which costs are asked for, a row for each: all, where none is named
abbrev pub rows_of : Asked → List ℕ
rows_of asked = chosen asked.sources (length asked.waypoints)

-- the waypoints to which costs are asked for, a column for each: all, where none is named
abbrev pub columns_of : Asked → List ℕ
columns_of asked = chosen asked.destinations (length asked.waypoints)

-- the nodes of waypoints that are named by their numbers
abbrev pub nodes_at : (nodes numbers : List ℕ) → List ℕ
nodes_at nodes numbers = map (λ (number : ℕ). get_or nodes number 0) numbers
