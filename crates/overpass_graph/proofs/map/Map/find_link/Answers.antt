use Rattle.std.proofs.Common.{◌≡◌, None, Some, sym, ap, subst, rules}
use mir.Val.{SFits}
use mir.Syntax.{w64}
use Rattle.std.proofs.lemmas.Int.{to_z-of_z}
use Rattle.map_tables.specs.Kept.{place_of_id}
use Rattle.overpass_graph.specs.Links.{weight_of}
use Rattle.overpass_graph.specs.Maps.{MapValue}
use Rattle.overpass_graph.specs.Names.{FindsWeight}
use Rattle.overpass_graph.proofs.MapLemmas.{made-lawful}
use Rattle.overpass_graph.proofs.NameLemmas.{found-no_way, found-by_weight}
use Rattle.overpass_graph.proofs.map.Map.find_link.Goals as goal

pub returns-in-None : goal.returns-in-None
returns-in-None c =
    let is = made-lawful _ _ _ _ _ _ c.args.self.now c.self.invariant c.self.view_is in
    let fits : SFits w64 c.args.way = search rules in
    let here = simp (to_z-of_z, fits) at c.in-None.ensures.value in
    record {
      exact = found-no_way c.args.self.now (record { way = c.args.way; segment = c.args.segment; back = c.args.back }) is
          (subst (λ ws. place_of_id c.args.way ws ≡ None) (ap (λ (m : MapValue). m.ways) c.self.view_is) (sym here));
    }

pub returns-in-Some : goal.returns-in-Some
returns-in-Some c =
    let is = made-lawful _ _ _ _ _ _ c.args.self.now c.self.invariant c.self.view_is in
    let fits : SFits w64 c.args.way = search rules in
    let here = simp (to_z-of_z, fits) at c.in-Some.ensures.value in
    record {
      exact = found-by_weight c.args.self.now (record { way = c.args.way; segment = c.args.segment; back = c.args.back })
          c.in-Some.number c.find.result is
          (subst (λ ws. place_of_id c.args.way ws ≡ Some c.in-Some.number) (ap (λ (m : MapValue). m.ways) c.self.view_is) (sym here))
          c.ranges.segment.fits
          (subst (λ ls. FindsWeight ls (weight_of c.in-Some.number c.args.segment c.args.back) c.find.result)
          (ap (λ (m : MapValue). m.links) c.self.view_is) c.find.ensures.exact);
    }
