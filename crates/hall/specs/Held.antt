-- All connections of a hall, each once, and how many of them count. This project's own rule.
use Rattle.std.specs.Prelude.{◌≡◌, ◌⊎◌, ℕ, suc, ◌<◌, ◌≤◌, Bool, List, [], ◌∷◌, if◌then◌else◌, Option, Some, None}
use Rattle.std.specs.Bool.{beq}
use Rattle.hall.specs.State.{Connection, State}

-- ---- Ids

-- an id is among these
abbrev pub IsAmong : ℕ → List ℕ → Type 0
IsAmong id [] = ⊥
IsAmong id (j ∷ ids) = (j ≡ id) ⊎ IsAmong id ids

-- no id is here twice
abbrev pub AreDifferent : List ℕ → Type 0
AreDifferent [] = Unit {0}
AreDifferent (id ∷ ids) = (IsAmong id ids → ⊥) × AreDifferent ids

-- these are the connections that are held, each once, in any order
pub record AreAll (s : State) (ids : List ℕ) : Type 0 where
  pub once : AreDifferent ids
  pub held : (id : ℕ) → IsAmong id ids → (c : Connection) × (s.known id ≡ Some c)
  pub whole : (id : ℕ) (c : Connection) → s.known id ≡ Some c → IsAmong id ids

-- ---- Counts

-- how many sessions are held at most, and as many are turned away
abbrev pub most_sessions : ℕ
most_sessions = 64

-- one more, where a connection is turned away, or else is a session
abbrev pub count_at : Option Connection → Bool → ℕ → ℕ
count_at None away n = n
count_at (Some c) away n = if beq c.away away then suc n else n

-- how many of these connections are turned away, or else are sessions
abbrev pub count_among : (ℕ → Option Connection) → Bool → List ℕ → ℕ
count_among known away [] = 0
count_among known away (id ∷ ids) = count_at (known id) away (count_among known away ids)

-- so many connections are held that are turned away, or else are sessions
pub record Counts (s : State) (away : Bool) (n : ℕ) : Type 0 where
  pub ids : List ℕ
  pub all : AreAll s ids
  pub is : n ≡ count_among s.known away ids

-- there is room for one more; as many are held as may be; no more are held than may be
abbrev pub HasRoom : State → Bool → Type 0
HasRoom s away = (n : ℕ) × Counts s away n × (n < most_sessions)

abbrev pub IsFull : State → Bool → Type 0
IsFull s away = (n : ℕ) × Counts s away n × (most_sessions ≤ n)

abbrev pub AreFew : State → Bool → Type 0
AreFew s away = (n : ℕ) × Counts s away n × (n ≤ most_sessions)
