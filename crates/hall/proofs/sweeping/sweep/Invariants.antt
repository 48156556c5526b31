use Rattle.std.proofs.Common.{◌≡◌, ◌<◌, ℕ, length}
use Rattle.hall.specs.Swept.{IsSweptAt}
use Rattle.hall.specs.Parts.{IsHeld, service_in, state_in}
use Rattle.hall.proofs.sweeping.sweep.Given as goal

-- the room stays as it has to be, and holds what it held; the places so far are swept
abbrev pub invariant-makings : goal.invariant-makings
invariant-makings l = record {
  held : IsHeld l.room;
  state : state_in l.room ≡ state_in l.initial.room;
  same : service_in l.room ≡ service_in l.initial.room;
  long : length l.room.desk.kept.makings.slots.items ≡ l.makings;
  swept : (i : ℕ) → i < l.k → IsSweptAt l.room i;
}
