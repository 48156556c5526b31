use Rattle.std.proofs.Common.{refl, arith}
use Rattle.std.proofs.lemmas.Option.{slice_get_within}
use Rattle.bike_space.specs.Kept.{task_of}
use Rattle.route_certificate.specs.Legs.{IsInBounds}
use Rattle.route_certificate.proofs.EntryLemmas.{each-more}
use Rattle.route_certificate.proofs.entries.are_in_bounds.Goals as goal

pub entries-preserved : goal.entries-preserved
entries-preserved g c =
    let space = c.args.space.now in
    let leg = (task_of (g.G.TerrainOf.terrain space.terrain) space.kept).leg in
    each-more (IsInBounds leg) c.args.entries.now c.entries.place
    (c.is_in_bounds.ensures.exact.0 c.if-not-is_in_bounds.false) c.entries.invariant

pub returns : goal.returns
returns g c = record {
  exact = (
    λ _ place entry there.
        let within = slice_get_within c.args.entries.now place entry there in
        c.entries.invariant place entry (omega (arith, within, c.entries-test.false)) there,
    λ _. refl,
  );
}
