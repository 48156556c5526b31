-- What a case asks of a walk (this project's own rule).
use Rattle.std.specs.Prelude.{ℕ, ◌<◌, ◌≤◌, ◌≢◌, ◌^◌, List, length, get_or}

-- two nodes of a map of so many, which differ, and a limit of labels that a search takes
pub record AreEnds (nodes from target limit : ℕ) : Type 0 where
  pub start : from < nodes
  pub end : target < nodes
  pub differ : from ≢ target
  pub small : limit < 2 ^ 32

-- 1 to 100 nodes of a map of so many
pub record AreNodes (count : ℕ) (nodes : List ℕ) : Type 0 where
  pub some : 1 ≤ length nodes
  pub few : length nodes ≤ 100
  pub each : (k : ℕ) → k < length nodes → get_or nodes k 0 < count

-- a node of a map of so many, a limit of labels that a search takes, and a quota of a turn
pub record IsFrom (nodes source limit quota : ℕ) : Type 0 where
  pub start : source < nodes
  pub small : limit < 2 ^ 32
  pub some : 1 ≤ quota
