-- What the fields of a hub in memory stand for.
use Rattle.edge_memory.specs.MemoryHub.{Play}
use Rattle.edge_memory.specs.declared.memory_hub.MemHub.TheInside.{Inside}

-- the hub that the fields make
abbrev pub play_of : Inside → Play
play_of s = record {
  acts = s.stage.acts;
  script = s.stage.script;
  room = s.stage.room;
  piece = s.piece;
  failing = s.failing.items;
  calls = s.calls;
  faults = s.faults;
  breaks = s.breaks;
}
