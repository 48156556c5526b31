-- This project's own rule: what a sink in memory takes, when it fails, and what it then leaves.
use Rattle.std.specs.Prelude.{ℕ, ◌-◌, ◌≤◌, ◌⊎◌, min, List, [], ◌++◌, length, take, Contains, Some}
use Rattle.edge_io.specs.Faults.{next_count}
use Rattle.edge_io.specs.Sink.{SinkSeen}

-- a sink in memory: its bytes, its limits, the numbers of the calls that fail, and its counts
pub record Store : Type 0 where
  pub bytes : List ℕ
  pub room : ℕ
  pub piece : ℕ
  pub failing : List ℕ
  pub calls : ℕ
  pub faults : ℕ

-- what it shows as a sink
abbrev pub seen_of : Store → SinkSeen
seen_of s = record { held = Some s.bytes; faults = s.faults }

-- a sink that was not written to
abbrev pub fresh_store : ℕ → ℕ → List ℕ → Store
fresh_store room piece failing = record {
  bytes = [];
  room = room;
  piece = piece;
  failing = failing;
  calls = 0;
  faults = 0;
}

-- the next call fails: its number is among the failing ones, or the room is full
abbrev pub FailsNext : Store → Type 0
FailsNext s = Contains s.failing s.calls ⊎ (s.room ≤ length s.bytes)

-- how many bytes of a piece the next call takes
abbrev pub taken_of : Store → List ℕ → ℕ
taken_of s piece = min (min (length piece) s.piece) (s.room - length s.bytes)

-- the sink after a call that took the front of a piece
abbrev pub after_write : Store → List ℕ → Store
after_write s piece =
    record s { bytes = s.bytes ++ take (taken_of s piece) piece; calls = next_count s.calls }

-- the sink after a call that failed
abbrev pub after_fault : Store → Store
after_fault s = record s { calls = next_count s.calls; faults = next_count s.faults }
