-- What a server's hall holds at a moment. This project's own rule.
use Rattle.std.specs.Prelude.{ℕ, ◌==◌, Bool, List, [], ◌∷◌, ◌++◌, if◌then◌else◌, Option, Some, None}
use Rattle.route_ready.specs.Worlds.{WorldValue}
use Rattle.session_answers.specs.Sites.{Site, site_of}
use Rattle.session_answers.specs.Stored.{Stored}

-- ---- Connections

-- how far a connection is: its bytes are read; its search waits, and goes on for so many turns at most; it has a
-- frame, of which so many bytes are sent; or it ended without a byte
pub data Phase : Type 0 where
  Reading : Phase
  Waits : ℕ → Phase
  Answered : List ℕ → ℕ → Phase
  Silent : Phase

-- what is known of a connection: whether it is turned away (else it is a session); the bytes that are kept of
-- it; whether its peer ended while it was read; how many profiles were stored before its request was whole;
-- and how far it is
pub record Connection : Type 0 where
  pub away : Bool
  pub bytes : List ℕ
  pub ended : Bool
  pub before : Option ℕ
  pub phase : Phase

-- what all connections share: the world, how many profiles were given at the start, and the most labels that a
-- search settles
pub record Service : Type 0 where
  pub world : WorldValue
  pub given : ℕ
  pub labels : ℕ

-- where their requests are answered
abbrev pub site_in : Service → Site
site_in service = site_of service.world service.labels

-- the profiles that are stored, the given ones first; the connections whose searches wait, the longest
-- waiting first; and what is known of each connection that is held, by its id
pub record State : Type 0 where
  pub stored : List Stored
  pub waiting : List ℕ
  pub known : ℕ → Option Connection

-- a hall without connections
abbrev pub empty_hall : List Stored → State
empty_hall stored = record { stored = stored; waiting = []; known = λ id. None }

-- ---- Changes of one connection

-- a connection with a frame of which nothing is sent
abbrev pub with_frame : Connection → List ℕ → Connection
with_frame c frame = record c { phase = Answered frame 0 }

-- the state in which this is known of a connection
abbrev pub put : State → ℕ → Option Connection → State
put s id x = record s { known = λ j. if j == id then x else s.known j }

-- an id, where its connection's search waits
abbrev pub waits_as : Phase → ℕ → List ℕ
waits_as Reading id = []
waits_as (Waits due) id = id ∷ []
waits_as (Answered frame sent) id = []
waits_as Silent id = []

-- the state in which this is known of a connection and more profiles are stored; where its search waits, it
-- is the last
abbrev pub changed : State → ℕ → Connection → List Stored → State
changed s id now added = record {
  stored = s.stored ++ added;
  waiting = s.waiting ++ waits_as now.phase id;
  known = λ j. if j == id then Some now else s.known j;
}

-- a list of ids without one
abbrev pub without : ℕ → List ℕ → List ℕ
without id [] = []
without id (j ∷ rest) = if j == id then without id rest else j ∷ without id rest

-- the state in which a connection is gone
abbrev pub freed : State → ℕ → State
freed s id = record {
  stored = s.stored;
  waiting = without id s.waiting;
  known = λ j. if j == id then None else s.known j;
}

-- the state in which this is left of a connection: it is gone, or this is known of it
abbrev pub left_as : State → ℕ → Option Connection → State
left_as s id None = freed s id
left_as s id (Some now) = put s id (Some now)
