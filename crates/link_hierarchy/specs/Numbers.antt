-- Numbers by place that are put back where they were set (this project's own rule).
use Rattle.std.specs.Prelude.{◌≡◌, ◌≢◌, ℕ, ◌<◌, ◌≤◌, List, length, get_or}
use Rattle.link_hierarchy.specs.Walks.{Holds}

-- wherever another number stands than the rest, something was set, and only there
pub record AreTouched (rest : ℕ) (numbers touched : List ℕ) : Type 0 where
  pub within : (k : ℕ) → k < length touched → get_or touched k 0 < length numbers
  pub all : (x : ℕ) → x < length numbers → get_or numbers x rest ≢ rest → Holds touched x

-- a place of a list from one on
pub record HoldsFrom (row : List ℕ) (from x : ℕ) : Type 0 where
  pub place : ℕ
  pub least : from ≤ place
  pub within : place < length row
  pub is : get_or row place 0 ≡ x

-- the same of the places from one on
pub record IsLeft (rest count : ℕ) (touched : List ℕ) (from : ℕ) (numbers : List ℕ) : Type 0 where
  pub counted : length numbers ≡ count
  pub all : (x : ℕ) → x < count → get_or numbers x rest ≢ rest → HoldsFrom touched from x

-- the first so many numbers are this one
pub record AreFirst (number count place : ℕ) (numbers : List ℕ) : Type 0 where
  pub counted : length numbers ≡ count
  pub done : (x : ℕ) → x < place → x < count → get_or numbers x number ≡ number
