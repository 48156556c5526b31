-- This project's own rule: how long a connection that was closed is read, so that its peer sees the answer.
use Rattle.std.specs.Prelude.{◌≡◌, ◌-◌, ℕ, Bool, true, false, List, Option, Some, None, if◌then◌else◌, nat_lt, nat_le}
use Rattle.std.specs.declared.time.Instant.{Instant}
use Rattle.edge_io.specs.Peers.{ReadsStream}
use Rattle.edge_io.specs.declared.leaving.Leaver.{Leaver}
use Rattle.edge_io.specs.declared.replies.Reading.{Reading}
use Rattle.edge_io.specs.declared.replies.Reading.TheVariants as reads

-- how many are left at a time
abbrev pub most_leaving : ℕ
most_leaving = 128

-- how many bytes are taken of one
abbrev pub most_left : ℕ
most_left = 16777216

-- for how many nanoseconds one is left
abbrev pub longest : ℕ
longest = 10000000000

-- how many bytes are taken after a reading, where more are taken at all
abbrev pub rest_of : ℕ → Reading → Option ℕ
rest_of left (reads.Arrived n) = if nat_lt n left then Some (left - n) else None
rest_of left reads.Ended = None
rest_of left reads.NotNow = Some left
rest_of left reads.Again = Some left
rest_of left reads.Lost = None

-- the time of one that was closed then is over; it is where no clock tells the time
abbrev pub is_over_at : ℕ → Option ℕ → Bool
is_over_at since None = true
is_over_at since (Some now) = nat_le longest (now - since)

-- a connection that was closed then is left with as many bytes as are taken of one, or it is dropped for want of
-- memory
abbrev pub KeepsLeaver : {S : Type 0} → Option (Leaver S) → S → Instant → Type 0
KeepsLeaver None stream since = Unit {0}
KeepsLeaver (Some leaver) stream since =
    leaver ≡ record { stream = stream; left = most_left; since = since; in_line = false }

-- one was read once: as many fewer bytes are taken of it as came, or nothing more is taken
pub record DrainsOne {S : Type 0} (remaining : S → Option (List ℕ)) (old new : Leaver S) (stays : Bool) : Type 0 where
  pub reading : Reading
  pub buffer : List ℕ
  pub bytes : ReadsStream (remaining old.stream) (remaining new.stream) buffer reading
  pub rest : rest_of old.left reading ≡ (if stays then Some new.left else None)
  pub since : new.since ≡ old.since

-- the same of one that may be left, which goes where nothing more is taken
abbrev pub Drains : {S : Type 0} → (S → Option (List ℕ)) → (old new : Option (Leaver S)) → Type 0
Drains remaining None new = new ≡ None
Drains {S} remaining (Some old) new =
    (stays : Bool) × (left : Leaver S) × DrainsOne remaining old left stays ×
    (new ≡ (if stays then Some left else None))
