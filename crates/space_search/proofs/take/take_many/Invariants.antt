use Rattle.std.proofs.Common.{◌≡◌, ◌≤◌, ◌+◌, length}
use Rattle.space_search.specs.Books.{books, IsSearch, IsClosed, KeepsLabels, work_left}
use Rattle.space_search.proofs.take.take_many.Given as goal

abbrev pub invariant-turn : goal.invariant-turn
invariant-turn g l =
    record {
      kept : IsSearch (g.S.Space.rules l.space) (books l.lists);
      closed : IsClosed (g.S.Space.rules l.space) (books l.lists);
      bounds : g.S.Space.AreBounds l.space l.bounds;
      within : length l.lists.settled.items ≤ l.limit;
      keeps : KeepsLabels (books l.initial.lists) (books l.lists);
      counted : length l.lists.settled.items ≡ length l.initial.lists.settled.items + l.count;
      quota : l.count ≤ l.quota;
    }

abbrev pub decreases-turn : goal.decreases-turn
decreases-turn g l = work_left (books l.lists)
