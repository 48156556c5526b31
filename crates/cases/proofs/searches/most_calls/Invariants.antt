-- The search is one over the line.
use Rattle.cases.specs.LineSpace.{rules_of}
use Rattle.space_search.specs.Searches.{IsSearchOf}
use Rattle.cases.proofs.searches.most_calls.Given as goal

abbrev pub invariant-turns : goal.invariant-turns
invariant-turns l = IsSearchOf (rules_of l.line) l.search
