-- For which makings some session waits, for the parts alone (this project's own rule).
use Rattle.std.specs.Prelude.{◌≡◌, ℕ, true, false, List, Some, None, get_or}
use Rattle.hall.specs.Parts.{IsOneOf, is_awaited_by}
use Rattle.hall.specs.declared.room.Room.{Room}
use Rattle.hall.specs.declared.peer.Peer.{Peer}
use Rattle.session_answers.specs.declared.makings.Making.{Making}

-- some session waits for the making at a place
pub record HasWaiter (peers : List Peer) (k : ℕ) : Type 0 where
  pub peer : Peer
  pub there : IsOneOf peer peers
  pub awaits : is_awaited_by peer.phase k ≡ true

-- none does
abbrev pub HasNoWaiter : List Peer → ℕ → Type 0
HasNoWaiter peers k = (peer : Peer) → IsOneOf peer peers → is_awaited_by peer.phase k ≡ false

-- where a making stands at a place some session waits for it
abbrev pub IsSweptAt : Room → ℕ → Type 0
IsSweptAt room k = (making : Making) → get_or room.desk.kept.makings.slots.items k None ≡ Some making →
    HasWaiter room.peers.items k

-- so for each making that stands
abbrev pub IsSwept : Room → Type 0
IsSwept room = (k : ℕ) → IsSweptAt room k
