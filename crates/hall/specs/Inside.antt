-- What the fields of a hall stand for, and what is true of them, for the parts alone (this project's own
-- rule).
use Rattle.hall.specs.View.{HallValue}
use Rattle.hall.specs.Parts.{IsHeld, entries_of}
use Rattle.hall.specs.declared.hall.Hall.TheInside.{Inside}

-- what is seen of a hall
abbrev pub hall_in : Inside → HallValue
hall_in h = record {
  world = h.room.desk.world;
  labels = h.room.desk.labels;
  profiles = h.room.desk.profiles;
  waiting = h.room.desk.queue.items;
  peers = entries_of h.room.peers.items;
}

-- what is true of every hall
abbrev pub IsHall : Inside → Type 0
IsHall h = IsHeld h.room
