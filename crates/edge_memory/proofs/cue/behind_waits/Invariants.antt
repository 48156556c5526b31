use Rattle.std.proofs.Common.{length, ◌-◌, ◌≡◌, ◌==◌}
use Rattle.std.specs.List.{list_any}
use Rattle.edge_memory.specs.Place.{left_from, IsPlace}
use Rattle.edge_memory.specs.Script.{after_waits}
use Rattle.edge_memory.proofs.cue.behind_waits.Given as goal

abbrev pub invariant-waits : goal.invariant-waits
invariant-waits l = record {
  same : after_waits (λ id. list_any (λ x. x == id) l.closed) (left_from l.script l.place l.used) ≡
      after_waits (λ id. list_any (λ x. x == id) l.closed) (left_from l.script l.at l.spent);
  is_place : IsPlace l.script l.at l.spent;
}

abbrev pub decreases-waits : goal.decreases-waits
decreases-waits l = length l.script - l.at
