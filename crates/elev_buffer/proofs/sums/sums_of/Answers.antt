use Rattle.std.proofs.Common.{pos, SFits, ◌∙◌, sym, subst}
use Rattle.std.specs.Int.{w128}
use Rattle.std.proofs.lemmas.Int.{to_z-of_z}
use Rattle.elev_buffer.specs.Covers.{label, terms}
use Rattle.elev_buffer.specs.Sums.{IsNoMoreInSums, sums_of}
use Rattle.elev_buffer.proofs.NewerLemmas.{buffer-fits}
use Rattle.elev_buffer.proofs.SumsLemmas.{covers-below, sums-computed}
use Rattle.elev_buffer.proofs.WordLemmas.{buffer-back}
use Rattle.elev_buffer.proofs.sums.sums_of.Goals as goal

pub returns : goal.returns
returns c =
    let by = terms c.args.modes.now c.args.kd c.args.ku in
    let a = label c.args.a.now (pos c.args.ca) in
    let down : SFits w128 c.down_by.result = record { sfits = c.down_by.type_inv } in
    let up : SFits w128 c.sum_by.result = record { sfits = c.sum_by.type_inv } in
    let both : SFits w128 c.both_by.result = record { sfits = c.both_by.type_inv } in
    let d = simp (to_z-of_z, c.ranges.kd) at (c.down_by.ensures.exact c.args.ku) in
    let u = simp (to_z-of_z, c.ranges.ku, buffer-fits _ c.requires.first.up) at c.sum_by.ensures.exact in
    let s = simp (to_z-of_z, c.ranges.kd, c.ranges.ku) at c.both_by.ensures.exact in
    let made = sums-computed by a _ _ _ (record {
      down_is = to_z-of_z w128 _ down ∙ d;
      up_is = to_z-of_z w128 _ up ∙ u;
      both_is = to_z-of_z w128 _ both ∙ s;
    }) in
    record {
      exact = made;
      grows = λ other covers. subst (λ s. IsNoMoreInSums (sums_of by other) s) (sym made)
          (covers-below by other a c.requires.down_rate.low c.requires.up_rate.low covers);
    }

pub both_by-requires-clause-first_cost : goal.both_by-requires-clause-first_cost
both_by-requires-clause-first_cost c = c.requires.first_cost

pub sum_by-requires-clause-buffer : goal.sum_by-requires-clause-buffer
sum_by-requires-clause-buffer c = buffer-back _ c.requires.first.up

pub sum_by-requires-clause-rate : goal.sum_by-requires-clause-rate
sum_by-requires-clause-rate c = buffer-back _ c.requires.up_rate

pub sum_by-requires-clause-cost : goal.sum_by-requires-clause-cost
sum_by-requires-clause-cost c = c.requires.first_cost
