use Rattle.std.proofs.Common.{◌≡◌, ◌≤◌, ◌<◌, ◌+◌, ℕ, Some}
use Rattle.std.specs.List.{slice_get}
use Rattle.space_search.specs.Books.{books, IsSearch, IsAccounted, Extends, work_left}
use Rattle.space_search.specs.declared.step.Step.{Step}
use Rattle.space_search.proofs.settle.advance.Given as goal

abbrev pub invariant-steps : goal.invariant-steps
invariant-steps g l =
    record {
      kept : IsSearch (g.S.Space.rules l.space) (books l.lists);
      extends : Extends (books l.initial.lists) (books l.lists);
      offered :
          (place : ℕ) (one : Step g.row.T.Denot) → place < l.step-index → slice_get l.step-items place ≡ Some one →
          IsAccounted (g.S.Space.rules l.space) (books l.lists) one.state (l.label.cost + one.cost);
      bounds : g.S.Space.AreBounds l.space l.bounds;
      work : work_left (books l.lists) ≤ work_left (books l.initial.lists);
    }
