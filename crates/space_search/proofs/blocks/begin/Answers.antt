use Rattle.std.proofs.Common.{List, [], ◌∷◌, ◌++◌, ap, sym, subst, ◌∙◌}
use Rattle.std.proofs.lemmas.Result.{on_ok_weaker}
use Rattle.space_search.specs.Blocks.{members_of, Adds, HaveFloors}
use Rattle.space_search.specs.declared.fronts.Block.{Block}
use Rattle.space_search.specs.declared.fronts.Member.{Member}
use Rattle.space_search.proofs.BlockLemmas.{adds-pushed, floors-pushed}
use Rattle.space_search.proofs.blocks.begin.Goals as goal

pub returns-clause-adds : goal.returns-clause-adds
returns-clause-adds g c =
    on_ok_weaker c.push_block.result
    (λ is.
    subst (λ (l : List (Block g.row.T.Denot)). Adds c.args.one.now (members_of c.args.front.now.items) (members_of l)) (sym is)
    (adds-pushed c.args.front.now.items c.add_to.new.block c.args.one.now
    (c.in_ok-add_to.ensures.adds
    ∙ ap (λ (l : List (Member g.row.T.Denot)). l ++ c.args.one.now ∷ []) c.new-block.ensures.none)))
    c.push_block.ensures.value

pub returns-clause-floors : goal.returns-clause-floors
returns-clause-floors g c =
    on_ok_weaker c.push_block.result
    (λ is.
    subst (λ (l : List (Block g.row.T.Denot)). HaveFloors (g.S.Space.rules c.args.space.now) l) (sym is)
    (floors-pushed c.args.front.now.items c.add_to.new.block (g.S.Space.rules c.args.space.now) c.requires.floors
    c.in_ok-add_to.ensures.floor))
    c.push_block.ensures.value
