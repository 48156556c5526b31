use Rattle.std.proofs.Common.{◌≡◌, ◌<◌, ◌≤◌, ◌%◌, ℕ, get_or, length}
use Rattle.edge_trials.proofs.texts.long_text.Given as goal

abbrev pub invariant-places : goal.invariant-places
invariant-places l = record {
  long : length l.text.items ≡ l.place;
  each : (place : ℕ) → place < l.place → get_or l.text.items place 0 ≡ place % 251;
  within : l.place ≤ l.size;
}
