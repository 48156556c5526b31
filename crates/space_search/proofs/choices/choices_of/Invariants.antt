use Rattle.std.proofs.Common.{◌≡◌, ◌≤◌, ◌+◌, ◌++◌, length, reverse}
use Rattle.space_search.specs.Books.{books, Reads, Follows}
use Rattle.space_search.specs.Rules.{Rules}
use Rattle.space_search.specs.View.{reached, settled_of}
use Rattle.space_search.proofs.choices.choices_of.Given as goal

abbrev pub invariant-back : goal.invariant-back
invariant-back g l =
    record {
      follows : (rules : Rules g.row.T.Denot) × Reads rules (books l.lists) × Follows rules (books l.lists) l.below l.at;
      choices : (reached (settled_of (books l.lists)) l.at).choices ++ reverse l.back.items ≡
          (reached (settled_of (books l.lists)) l.fn.label).choices;
      short : length l.back.items + l.below ≤ l.fn.below;
    }

abbrev pub decreases-back : goal.decreases-back
decreases-back g l = l.below
