use Rattle.std.proofs.Common.{◌≡◌, length}
use Rattle.context_check.specs.Checked.{Subject}
use Rattle.profile_code.specs.Scratch.{HoldsGlobals}
use Rattle.way_class.specs.Bound.{AreWaysBound}
use Rattle.way_class.specs.Parts.{Suits}
use Rattle.way_class.specs.Spending.{Advances}
use Rattle.way_class.specs.Stages.{ways_at}
use Rattle.way_class.proofs.ways.more_ways.Given as goal

abbrev pub invariant-ways : goal.invariant-ways
invariant-ways l = record {
  held : HoldsGlobals l.code l.scratch;
  count : length l.ways.numbers.items ≡ l.way;
  bound : (subject : Subject) → Suits l.code l.table subject →
      AreWaysBound subject l.map (length l.initial.ways.numbers.items) l.initial.ways → AreWaysBound subject l.map l.way l.ways;
  advances : Advances l.weight l.budget l.left (length l.map.ways) (ways_at l.weight (length l.map.ways) l.initial.ways)
      (ways_at l.weight (length l.map.ways) l.ways);
  same : length l.initial.ways.numbers.items ≡ length l.map.ways → l.ways ≡ l.initial.ways;
}
