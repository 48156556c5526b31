use Rattle.std.proofs.Common.{List, [], inl, inr, subst}
use Rattle.space_search.specs.Blocks.{members_of, Adds}
use Rattle.space_search.specs.Fronts.{FitsTest}
use Rattle.space_search.specs.declared.fronts.Block.{Block}
use Rattle.space_search.specs.declared.fronts.Member.{Member}
use Rattle.item_list.proofs.ListLemmas.{Contains-none}
use Rattle.space_search.proofs.BlockLemmas.{pair-added}
use Rattle.space_search.proofs.join.pair.Goals as goal

pub put_into-requires-2-clause-each : goal.put_into-requires-2-clause-each
put_into-requires-2-clause-each g c one h =
    let adds : Adds c.args.first.now (members_of []) (members_of c.put_into.new.front.items) =
    subst (λ (l : List (Block g.row.T.Denot)). Adds c.args.first.now (members_of l) (members_of c.put_into.new.front.items))
    c.new-front.ensures.items c.in_ok-put_into.ensures.adds in
    elim (adds.from one h) [
      | inl none ↦ absurd (Contains-none one none)
      | inr same ↦ subst (λ (m : Member g.row.T.Denot). FitsTest (g.S.Space.rules c.args.space.now) m) same c.requires.first
    ]

pub returns-clause-pair : goal.returns-clause-pair
returns-clause-pair g c =
    let adds : Adds c.args.first.now (members_of []) (members_of c.put_into.new.front.items) =
    subst (λ (l : List (Block g.row.T.Denot)). Adds c.args.first.now (members_of l) (members_of c.put_into.new.front.items))
    c.new-front.ensures.items c.in_ok-put_into.ensures.adds in
    pair-added c.args.first.now c.args.second.now _ _ adds c.in_ok-put_into-2.ensures.adds
