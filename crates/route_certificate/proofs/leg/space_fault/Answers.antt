use Rattle.std.proofs.Common.{List, IfOk, sym, subst}
use Rattle.certificate_text.specs.declared.certificate.Entry.{Entry}
use Rattle.bike_space.specs.Kept.{task_of}
use Rattle.bike_space.specs.Tasks.{rules_of}
use Rattle.route_certificate.specs.Closing.{IsFirstFlaw}
use Rattle.route_certificate.specs.Legs.{AreInBounds}
use Rattle.route_certificate.proofs.LegLemmas.{cost-fits, fault-answers, in-bounds, proof-least}
use Rattle.route_certificate.proofs.leg.space_fault.Goals as goal

pub returns-then-not-are_in_bounds-clause-exact : goal.returns-then-not-are_in_bounds-clause-exact
returns-then-not-are_in_bounds-clause-exact g c =
    let space = c.args.space.now in
    let task = task_of (g.G.TerrainOf.terrain space.terrain) space.kept in
    λ bound rests. (
      c.requires.walk,
      λ are.
          let yes_is = c.are_in_bounds.ensures.exact.1
          (subst (λ (es : List Entry). AreInBounds task.leg es) (sym c.as_slice-entries.ensures.value) are) in
          let never : ⊥ = cc in
          never,
    )

pub first_flaw-requires : goal.first_flaw-requires
first_flaw-requires g c =
    let space = c.args.space.now in
    let task = task_of (g.G.TerrainOf.terrain space.terrain) space.kept in
    record {
      bounded = in-bounds task c.requires.unused c.as_slice-entries.result.now
          (c.are_in_bounds.ensures.exact.0 c.if-not-are_in_bounds.false);
    }

pub returns : goal.returns
returns g c =
    let space = c.args.space.now in
    let task = task_of (g.G.TerrainOf.terrain space.terrain) space.kept in
    let proof = c.args.proof.now in
    let bounds = subst (λ (es : List Entry). AreInBounds task.leg es) c.as_slice-entries.ensures.value
    (c.are_in_bounds.ensures.exact.0 c.if-not-are_in_bounds.false) in
    let over = subst (λ (es : List Entry). IfOk c.first_flaw.result (IsFirstFlaw (rules_of task) proof.cost es))
    c.as_slice-entries.ensures.value c.first_flaw.ensures.exact in
    record {
      exact = λ bound rests.
          fault-answers task c.requires.unused proof c.requires.walk bounds bound rests c.first_flaw.result over;
      least = λ is.
          proof-least task c.requires.unused proof c.requires.walk bounds space.wakes.lawful space.wakes.keeps
          (subst (λ r. IfOk r (IsFirstFlaw (rules_of task) proof.cost proof.entries.items)) is over);
      fits = λ is few. cost-fits task c.requires.unused space.wakes.lawful proof c.requires.walk few;
    }
