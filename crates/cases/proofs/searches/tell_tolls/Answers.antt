use Rattle.std.proofs.Common.{subst}
use Rattle.item_list.specs.Turns.{Says}
use Rattle.space_search.specs.Turns.{EndsSearch, IsClosedSoFar}
use Rattle.space_search.specs.View.{view}
use Rattle.cases.proofs.searches.tell_tolls.Goals as goal

pub tell_goal-requires : goal.tell_goal-requires
tell_goal-requires c =
    let after = view c.turn-2.new.self in
    let turn = c.in_ok-second.ensures in
    record { ends = (_, turn.of, subst (Says (λ _. IsClosedSoFar _ after) (EndsSearch _ after)) c.in-Done.is turn.ends) }
