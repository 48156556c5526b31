-- This project's own rule: which connections of the system are held, who of them is in line, and what follows
-- from an answer of the system for one of them.
use Rattle.std.specs.Prelude.{◌≡◌, ◌≤◌, ◌<◌, ◌||◌, ◌==◌, ◌++◌, [], ◌∷◌, ℕ, Bool, true, false, List, length, take, Option, Some, None, Result, Ok, Err, if◌then◌else◌, nat_lt}
use Rattle.std.specs.Io.KnownBytes.{Appends, Consumes, Keeps, IsAtEnd}
use Rattle.edge_io.specs.declared.event.Event.{Event}
use Rattle.edge_io.specs.declared.event.Event.TheVariants as events
use Rattle.edge_io.specs.declared.failed.Failed.{Failed}
use Rattle.edge_io.specs.declared.follow.Following.{Following}
use Rattle.edge_io.specs.declared.peers.Peer.{Peer}
use Rattle.edge_io.specs.declared.replies.Reading.{Reading}
use Rattle.edge_io.specs.declared.replies.Reading.TheVariants as reads

-- who waits in line, the first to be served first, and for how many there is memory
pub record Line : Type 0 where
  pub waiting : List ℕ
  pub room : ℕ

-- a list of numbers without one
abbrev pub without : ℕ → List ℕ → List ℕ
without id [] = []
without id (j ∷ rest) = if j == id then without id rest else j ∷ without id rest

-- what a read that answered so did to the bytes that a stream has left: it took those that it gave, and an end
-- is told only at the end
abbrev pub ReadsStream : Option (List ℕ) → Option (List ℕ) → List ℕ → Reading → Type 0
ReadsStream old new buffer (reads.Arrived n) = Consumes old new (take n buffer) × (0 < n) × (n ≤ length buffer)
ReadsStream old new buffer reads.Ended = Keeps old new × IsAtEnd new
ReadsStream old new buffer reads.NotNow = Keeps old new
ReadsStream old new buffer reads.Again = Keeps old new
ReadsStream old new buffer reads.Lost = Keeps old new

-- what a write that answered so did to the bytes that a stream holds: it has those that it took, and no more
abbrev pub WritesStream : Option (List ℕ) → Option (List ℕ) → List ℕ → Result ℕ Failed → Type 0
WritesStream old new piece (Ok n) = Appends old new (take n piece) × (n ≤ length piece)
WritesStream old new piece (Err failed) = Keeps old new

-- what follows from a read of a connection: the event that is told, whether its peer ended, whether it is put in
-- line again, and whether it is held no more
abbrev pub follow_of : ℕ → Reading → Following
follow_of id (reads.Arrived n) =
    record { event = Some (events.Bytes id n); ended = false; again = true; gone = false }
follow_of id reads.Ended = record { event = Some (events.Ended id); ended = true; again = false; gone = false }
follow_of id reads.NotNow = record { event = None; ended = false; again = false; gone = false }
follow_of id reads.Again = record { event = None; ended = false; again = true; gone = false }
follow_of id reads.Lost = record { event = Some (events.Lost id); ended = false; again = false; gone = true }

-- what a reading is taken for: an end of the peer is the loss of its connection, where it is to be
abbrev pub reading_as : Bool → Reading → Reading
reading_as hangup (reads.Arrived n) = reads.Arrived n
reading_as hangup reads.Ended = if hangup then reads.Lost else reads.Ended
reading_as hangup reads.NotNow = reads.NotNow
reading_as hangup reads.Again = reads.Again
reading_as hangup reads.Lost = reads.Lost

-- ---- The connections that are held

-- a connection that was read is what follows from the reading, as that is taken: its stream gave the bytes that
-- are told, its peer ended where the reading says so, it is in line where it is put there again, and it was used
-- just now
pub record HearsPeer {S : Type 0} (remaining : S → Option (List ℕ)) (hangup : Bool) (uses : ℕ) (old new : Peer S) (id : ℕ)
    (buffer : List ℕ) (line after : Line) (told : Following) : Type 0 where
  pub reading : Reading
  pub bytes : ReadsStream (remaining old.stream) (remaining new.stream) buffer reading
  pub follows : told ≡ follow_of id (reading_as hangup reading)
  pub ended : new.ended ≡ old.ended || told.ended
  pub again : told.again ≡ true → length line.waiting < line.room → new.in_line ≡ true
  pub waits : after.waiting ≡ (if new.in_line then line.waiting ++ id ∷ [] else line.waiting)
  pub only : told.again ≡ false → new.in_line ≡ false
  pub used : new.used ≡ uses

-- a connection was read: the event is what follows, and it is held no more where that says so; where none is
-- held, nothing is told
abbrev pub Hears : {S : Type 0} → (S → Option (List ℕ)) → Bool → (uses : ℕ) → (old new : Option (Peer S)) → ℕ → List ℕ → (line
    after : Line) → Option Event → Type 0
Hears remaining hangup uses None new id buffer line after event = (new ≡ None) × (event ≡ None) × (after.waiting ≡ line.waiting)
Hears {S} remaining hangup uses (Some old) new id buffer line after event =
    (follows : Following) × (left : Peer S) × HearsPeer remaining hangup uses old left id buffer line after follows ×
    (event ≡ follows.event) × (new ≡ (if follows.gone then None else Some left))

-- when a connection was used last that took so many bytes of a send: now, where it took some
abbrev pub used_after : (taken uses used : ℕ) → ℕ
used_after taken uses used = if nat_lt 0 taken then uses else used

-- a send was offered to a connection: so many bytes were taken by its own stream, or it failed and the
-- connection is held no more; where none is held, it fails
abbrev pub SendsTo : {S : Type 0} → (S → Option (List ℕ)) → (uses : ℕ) → (old new : Option (Peer S)) → List ℕ →
    Result ℕ Failed → Type 0
SendsTo contents uses None new piece result = (new ≡ None) × ((n : ℕ) → result ≡ Ok n → ⊥)
SendsTo {S} contents uses (Some old) new piece (Ok n) =
    (stream : S) × (new ≡ Some (record old { stream = stream; used = used_after n uses old.used })) ×
    WritesStream (contents old.stream) (contents stream) piece (Ok n)
SendsTo contents uses (Some old) new piece (Err e) = new ≡ None

-- a connection that may have something to read is in line, where its peer hasn't ended and there is memory
abbrev pub Wakes : {S : Type 0} → (old new : Option (Peer S)) → ℕ → (line after : Line) → Type 0
Wakes None new id line after = (new ≡ None) × (after.waiting ≡ line.waiting)
Wakes (Some old) new id line after =
    (joins : Bool) × (new ≡ Some (record old { in_line = old.in_line || joins })) ×
    (after.waiting ≡ (if joins then line.waiting ++ id ∷ [] else line.waiting)) ×
    (joins ≡ true → (old.in_line ≡ false) × (old.ended ≡ false)) ×
    (old.in_line ≡ false → old.ended ≡ false → length line.waiting < line.room → joins ≡ true)

-- a send took all of so many bytes
abbrev pub is_whole : Result ℕ Failed → ℕ → Bool
is_whole (Ok n) length = n == length
is_whole (Err failed) length = false
