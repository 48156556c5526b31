-- What the fields of a sink in memory stand for.
use Rattle.std.specs.Prelude.{◌≤◌, vec_len, vec_capacity}
use Rattle.edge_memory.specs.Memory.{Store}
use Rattle.edge_memory.specs.declared.memory.MemSink.TheInside.{Inside}

-- the sink that the fields make
abbrev pub store_of : Inside → Store
store_of s = record {
  bytes = s.bytes.items;
  room = s.room;
  piece = s.piece;
  failing = s.failing.items;
  calls = s.calls;
  faults = s.faults;
}

-- the room was taken, and a call can take a byte
pub record HasRoom (s : Inside) : Type 0 where
  pub taken : s.room ≤ vec_capacity s.bytes
  pub held : vec_len s.bytes ≤ s.room
  pub piece : 1 ≤ s.piece
