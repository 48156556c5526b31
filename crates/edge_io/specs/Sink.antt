-- This project's own rule: what a sink shows at a moment, and what a call changes in it.
use Rattle.std.specs.Prelude.{ℕ, ◌<◌, ◌≤◌, ◌≡◌, List, length, take, Option}
use Rattle.std.specs.Io.KnownBytes.{Appends, Keeps}
use Rattle.edge_io.specs.Faults.{CountRose}

-- what a sink shows: the bytes that it holds, where it tells them, and how many of its calls failed
pub record SinkSeen : Type 0 where
  pub held : Option (List ℕ)
  pub faults : ℕ

-- a number of first bytes of the piece, at least one of a nonempty piece
pub record TakesFront (piece : List ℕ) (taken : ℕ) : Type 0 where
  pub within : taken ≤ length piece
  pub some : 0 < length piece → 0 < taken

-- the sink holds these bytes behind its old ones, and no call failed
pub record Grows (old new : SinkSeen) (bytes : List ℕ) : Type 0 where
  pub held : Appends old.held new.held bytes
  pub faults : new.faults ≡ old.faults

-- a call failed: the sink holds what it held, and the count of faults rose
pub record FailsToTake (old new : SinkSeen) : Type 0 where
  pub held : Keeps old.held new.held
  pub rose : CountRose old.faults new.faults

-- a call failed after a front of these bytes that isn't the whole
pub record BreaksOff (old new : SinkSeen) (bytes : List ℕ) : Type 0 where
  pub sent : ℕ
  pub within : sent < length bytes
  pub held : Appends old.held new.held (take sent bytes)
  pub rose : CountRose old.faults new.faults
