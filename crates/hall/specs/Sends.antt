-- What a connection sends in a turn, and when it is closed. This project's own rule.
use Rattle.std.specs.Prelude.{◌≡◌, ℕ, ◌+◌, ◌<◌, ◌≤◌, List, [], ◌∷◌, ◌++◌, length, take, drop, Option, Some, None}
use Rattle.edge_io.specs.Acts.{Act, Took, Broke, Closed}
use Rattle.hall.specs.State.{Connection, Phase, Reading, Waits, Answered, Silent, State, left_as}

-- ---- A piece

-- the most bytes of a piece
abbrev pub most_piece : ℕ
most_piece = 65536

-- this is the next piece of a connection: the first unsent bytes of its frame
abbrev pub IsPiece : Phase → List ℕ → Type 0
IsPiece Reading piece = ⊥
IsPiece (Waits due) piece = ⊥
IsPiece (Answered frame sent) piece = (sent < length frame) × (piece ≡ take most_piece (drop sent frame))
IsPiece Silent piece = ⊥

-- how far a connection is of which more bytes are sent
abbrev pub sent_more : Phase → ℕ → Phase
sent_more Reading n = Reading
sent_more (Waits due) n = Waits due
sent_more (Answered frame sent) n = Answered frame (sent + n)
sent_more Silent n = Silent

-- a connection's piece is offered once, where it has one: some of its first bytes are taken, or the send
-- fails and it is gone
pub data Sends (id : ℕ) (c : Connection) : List Act → Option Connection → Type 0 where
  nothing : ((piece : List ℕ) → IsPiece c.phase piece → ⊥) → Sends id c [] (Some c)
  taken :
      (piece : List ℕ) (n : ℕ) → IsPiece c.phase piece → n ≤ length piece →
      Sends id c (Took id (take n piece) ∷ []) (Some (record c { phase = sent_more c.phase n }))
  broken : (piece : List ℕ) → IsPiece c.phase piece → Sends id c (Broke id ∷ []) None

-- ---- The close

-- nothing is left to be done for a connection: its frame is sent whole, or it ended without a byte
abbrev pub IsDone : Phase → Type 0
IsDone Reading = ⊥
IsDone (Waits due) = ⊥
IsDone (Answered frame sent) = sent ≡ length frame
IsDone Silent = Unit {0}

-- what is left of a connection is closed where it is done, and not else
pub data Closes (id : ℕ) : Option Connection → List Act → Option Connection → Type 0 where
  gone : Closes id None [] None
  stays : {c : Connection} → (IsDone c.phase → ⊥) → Closes id (Some c) [] (Some c)
  done : {c : Connection} → IsDone c.phase → Closes id (Some c) (Closed id ∷ []) None

-- a connection sends, and is closed where it is done
pub record Serves (id : ℕ) (c : Connection) (acts : List Act) (left : Option Connection) : Type 0 where
  pub sends : List Act
  pub between : Option Connection
  pub sent : Sends id c sends between
  pub closes : List Act
  pub closed : Closes id between closes left
  pub acts_are : acts ≡ sends ++ closes

-- ---- All connections

-- these connections are served, one after the other
pub data ServesEach (s : State) : List ℕ → List Act → State → Type 0 where
  none : ServesEach s [] [] s
  more :
      {ids : List ℕ} {id : ℕ} {acts own : List Act} {between : State} {c : Connection} {left :
      Option Connection} →
      ServesEach s ids acts between → between.known id ≡ Some c → Serves id c own left →
      ServesEach s (ids ++ id ∷ []) (acts ++ own) (left_as between id left)
