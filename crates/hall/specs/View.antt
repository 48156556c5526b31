-- What a hall stands for (this project's own rule).
use Rattle.std.specs.Prelude.{ℕ, ◌==◌, List, [], ◌∷◌, if◌then◌else◌, Option, Some, None}
use Rattle.hall.specs.State.{Connection, Service, State}
use Rattle.route_ready.specs.World.{world_of}
use Rattle.route_ready.specs.declared.world.World.{World}
use Rattle.session_answers.specs.Profiles.{given_of, stored_of}
use Rattle.session_answers.specs.declared.profiles.Profiles.{Profiles}

-- a connection that is held, with its id
pub record Entry : Type 0 where
  pub id : ℕ
  pub known : Connection

-- what is known of a connection, by those that are held
abbrev pub known_at : List Entry → ℕ → Option Connection
known_at [] id = None
known_at (x ∷ entries) id = if x.id == id then Some x.known else known_at entries id

-- what is seen of a hall: the world, the most labels that a search settles, the stored profiles, the connections
-- whose searches wait, and those that are held
pub record HallValue : Type 0 where
  pub world : World
  pub labels : ℕ
  pub profiles : Profiles
  pub waiting : List ℕ
  pub peers : List Entry

-- what it holds
unfoldable pub state_of : HallValue → State
state_of hall = record {
  stored = stored_of hall.profiles;
  waiting = hall.waiting;
  known =
      known_at hall.peers;
}

-- what its connections share
unfoldable pub service_of : HallValue → Service
service_of hall = record { world = world_of hall.world; given = given_of hall.profiles; labels = hall.labels }
