use Rattle.std.proofs.Common.{◌≡◌, ◌≤◌, length, subst, sym, ◌∙◌, arith}
use Rattle.std.proofs.lemmas.List.{take_all}
use Rattle.grid_map.specs.Costs.{AreCheap, length_list}
use Rattle.grid_map.proofs.ListLemmas.{length-length_list, length_list-more, length_list-cheap, length_list-same_walks}
use Rattle.grid_map.proofs.lengths.segment_lengths.Goals as goal

pub segments-preserved : goal.segments-preserved
segments-preserved c = length_list-more _ _ _ _ _ c.segments.invariant c.length_at.ensures.exact c.in_ok-push.ensures.items

pub returns-clause-cheap : goal.returns-clause-cheap
returns-clause-cheap c =
    let all : length (length_list c.args.grid.now) ≤ c.segments.i = omega (arith, length-length_list c.args.grid.now) in
    let is : c.from_vec.result ≡ length_list c.args.grid.now = c.from_vec.ensures.value ∙ c.segments.invariant ∙ take_all _ _ all in
    subst AreCheap (sym is) (length_list-cheap _ c.segments-2.ensures.lawful.some_width)

pub returns-clause-same : goal.returns-clause-same
returns-clause-same c =
    let all : length (length_list c.args.grid.now) ≤ c.segments.i = omega (arith, length-length_list c.args.grid.now) in
    length_list-same_walks _ _ (c.from_vec.ensures.value ∙ c.segments.invariant ∙ take_all _ _ all)
