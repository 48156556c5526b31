use Rattle.std.proofs.Common.{◌≡◌, []}
use Rattle.space_search.specs.Books.{books, IsSearch, HasStarts}
use Rattle.space_search.proofs.begin.begin.Given as goal

abbrev pub invariant-starts : goal.invariant-starts
invariant-starts g l =
    record {
      kept : IsSearch (g.S.Space.rules l.space) (books l.lists);
      starts : HasStarts (g.S.Space.rules l.space) (books l.lists) l.choice;
      bounds : g.S.Space.AreBounds l.space l.bounds;
      none_settled : l.lists.settled.items ≡ [];
    }
