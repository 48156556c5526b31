-- What the fields of a tape stand for.
use Rattle.std.specs.Prelude.{◌-◌, map, vec_len, vec_capacity}
use Rattle.edge_memory.specs.Tape.{Tape, act_of, AreNotedWithin}
use Rattle.edge_memory.specs.declared.tape.Tape.TheInside.{Inside}

-- the tape that the fields make
abbrev pub tape_of : Inside → Tape
tape_of s = record {
  script = s.script.items;
  acts = map (act_of s.script.items s.kept.items) s.notes.items;
  room = vec_capacity s.notes - vec_len s.notes;
  place = vec_capacity s.kept - vec_len s.kept;
}

-- the bytes of each note stand among those that were kept
pub record AreWithin (s : Inside) : Type 0 where
  pub within : AreNotedWithin s.kept.items s.notes.items
