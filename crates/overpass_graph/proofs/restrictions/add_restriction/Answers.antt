-- One more restriction.
use Rattle.std.proofs.Common.{length, sym, subst}
use Rattle.std.specs.Prelude.{option_to_list}
use Rattle.overpass_graph.specs.Turns.{AreViasBelow}
use Rattle.overpass_graph.proofs.RestrictionLemmas.{vias-below}
use Rattle.overpass_graph.proofs.restrictions.add_restriction.Goals as goal

pub returns-in_ok-push-clause-below : goal.returns-in_ok-push-clause-below
returns-in_ok-push-clause-below c =
    subst (AreViasBelow (length c.args.tables.now.draft.nodes)) (sym c.in_ok-push.ensures.items)
    (vias-below (length c.args.tables.now.draft.nodes) c.args.list.now.items c.in-Some.one c.requires.below
    (subst (λ o. AreViasBelow (length c.args.tables.now.draft.nodes) (option_to_list o)) c.in-Some.is c.in_ok-one.ensures.below))
