use Rattle.std.proofs.Common.{ℤ, sym, ap, ◌∙◌}
use mir.Val.{SFits}
use mir.Syntax.{w64}
use Rattle.std.proofs.lemmas.Int.{to_z-of_z}
use Rattle.std.proofs.lemmas.Option.{slice_get-get_or}
use Rattle.map_tables.specs.Kept.{place_of_id}
use Rattle.map_tables.specs.declared.error.MapError.TheVariants.{MissingNode}
use Rattle.overpass_graph.specs.Maps.{no_way}
use Rattle.overpass_graph.proofs.lay.found.Goals as goal

pub way_id-requires : goal.way_id-requires
way_id-requires c = record { fits = c.requires.in_range }

pub returns-in-Some : goal.returns-in-Some
returns-in-Some c =
    record {
      exact = (
        ap (λ i. place_of_id i c.args.tables.now.draft.nodes) (sym (to_z-of_z w64 c.args.id c.ranges.id)) ∙ sym c.in-Some.ensures.value,
        c.in-Some.ensures.fits,
      );
    }

pub returns-in-None : goal.returns-in-None
returns-in-None c =
    let fits : SFits w64 c.way_id.result = record { sfits = c.way_id.type_inv } in
    let way = c.way_id.ensures.value _ (slice_get-get_or c.args.tables.now.draft.ways c.args.way no_way c.requires.in_range) in
    record {
      exact = (
        ap (λ i. place_of_id i c.args.tables.now.draft.nodes) (sym (to_z-of_z w64 c.args.id c.ranges.id)) ∙ sym c.in-None.ensures.value,
        rw (to_z-of_z w64 c.way_id.result fits, to_z-of_z w64 c.args.id c.ranges.id) (ap (λ (i : ℤ). MissingNode i c.args.id) way),
      );
    }
