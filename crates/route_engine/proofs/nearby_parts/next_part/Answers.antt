use Rattle.std.proofs.Common.{Some, subst, sym}
use Rattle.route_engine.specs.NearbyTexts.{GoesToPart}
use Rattle.route_engine.specs.declared.nearby_parts.Part.TheVariants.{Costs, Places}
use Rattle.route_engine.proofs.RowLemmas.{to-costs, to-places}
use Rattle.route_engine.proofs.nearby_parts.next_part.Goals as goal

pub returns-in_ok-extend_from_slice-in-Ids : goal.returns-in_ok-extend_from_slice-in-Ids
returns-in_ok-extend_from_slice-in-Ids c = record {
  exact = subst (λ part. GoesToPart c.args.text.now.items c.extend_from_slice.new.self.items part (Some Costs)) (sym c.in-Ids.is)
      (to-costs c.args.text.now.items c.extend_from_slice.new.self.items c.in_ok-extend_from_slice-in-Ids.ensures.items);
}

pub returns-in_ok-extend_from_slice-in-Costs : goal.returns-in_ok-extend_from_slice-in-Costs
returns-in_ok-extend_from_slice-in-Costs c = record {
  exact = subst (λ part. GoesToPart c.args.text.now.items c.extend_from_slice-in-Costs.new.self.items part (Some Places))
      (sym c.in-Costs.is)
      (to-places c.args.text.now.items c.extend_from_slice-in-Costs.new.self.items c.in_ok-extend_from_slice-in-Costs.ensures.items);
}
