-- The waypoints that a query names by their numbers, from 0: the rows and the columns of a table. This project's
-- own rule.
use Rattle.std.specs.Prelude.{ℕ, ◌<◌, ◌≤◌, ◌==◌, Bool, nat_lt, nat_le, List, [], length, get_or, if◌then◌else◌, Option, Some, None, Result, Ok, Err}
use Rattle.std.specs.List.{filter, list_all}
use Rattle.item_list.specs.Answer.{and_then}
use Rattle.fixed_num.specs.Decimal.{digits_after}
use Rattle.route_http.specs.declared.error.RequestError.{RequestError}
use Rattle.route_http.specs.declared.error.RequestError.TheVariants as error
use Rattle.route_http.specs.declared.key.Key.{Key}
use Rattle.route_http.specs.List.{parts_of, items_of}
use Rattle.route_http.specs.Value.{is_count}

-- a number: 1 to 10 digits
abbrev pub number_in : List ℕ → Option ℕ
number_in text = if is_count text then Some (digits_after 0 text) else None

-- how often a number stands in a list
abbrev pub times : ℕ → List ℕ → ℕ
times number numbers = length (filter (λ n. n == number) numbers)

-- whether each of them stands there once
abbrev pub all_once : List ℕ → Bool
all_once numbers = list_all (λ n. nat_le (times n numbers) 1) numbers

-- numbers of which each stands there once
abbrev pub once_each : Key → List ℕ → Result (List ℕ) RequestError
once_each key numbers = if all_once numbers then Ok numbers else Err (error.BadValue key)

-- the numbers of a value under a key: at most 100, parted by semicolons, and none of them twice, which is judged at
-- the end
abbrev pub numbers_of : Key → List ℕ → Result (List ℕ) RequestError
numbers_of key value = and_then (items_of number_in key 100 [] (parts_of 59 value)) (once_each key)

-- whether each of them is below a count
abbrev pub all_below : ℕ → List ℕ → Bool
all_below count numbers = list_all (λ n. nat_lt n count) numbers

-- they are at most 100, and each is below a count
pub record AreBelow (count : ℕ) (numbers : List ℕ) : Type 0 where
  pub few : length numbers ≤ 100
  pub each : (k : ℕ) → k < length numbers → get_or numbers k 0 < count
