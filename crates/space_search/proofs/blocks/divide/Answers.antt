use Rattle.std.proofs.Common.{◌≡◌, List, Some, length, set, refl, sym, subst}
use Rattle.std.proofs.lemmas.Option.{slice_get_read}
use Rattle.std.proofs.lemmas.Result.{on_ok_weaker}
use Rattle.std.specs.List.{slice_get}
use Rattle.space_search.specs.Blocks.{members_of, HaveFloors, IsSame}
use Rattle.space_search.specs.declared.fronts.Block.{Block}
use Rattle.space_search.proofs.BlockLemmas.{in-block, same-divided, floors-pushed, floors-put}
use Rattle.space_search.proofs.blocks.divide.Goals as goal

pub halves-requires : goal.halves-requires
halves-requires g c =
    let there : slice_get c.args.front.now.items c.args.at ≡ Some c.index.result.now =
    slice_get_read c.args.front.now.items (length c.args.front.now.items) c.args.at c.index.result.now refl
    c.requires.within c.index.ensures in
    record { each = λ one h. c.requires.each one (in-block c.args.front.now.items c.args.at c.index.result.now one there h) }

pub returns-clause-same : goal.returns-clause-same
returns-clause-same g c =
    let there : slice_get c.args.front.now.items c.args.at ≡ Some c.index.result.now =
    slice_get_read c.args.front.now.items (length c.args.front.now.items) c.args.at c.index.result.now refl
    c.requires.within c.index.ensures in
    on_ok_weaker c.push_block.result
    (λ is.
    subst (λ (l : List (Block g.row.T.Denot)). IsSame (members_of c.args.front.now.items) (members_of l)) (sym is)
    (same-divided c.args.front.now.items c.args.at c.index.result.now c.in_ok-near.near c.in_ok-near.far there c.in_ok-near.ensures.splits))
    c.push_block.ensures.value

pub returns-clause-floors : goal.returns-clause-floors
returns-clause-floors g c =
    let there : slice_get c.args.front.now.items c.args.at ≡ Some c.index.result.now =
    slice_get_read c.args.front.now.items (length c.args.front.now.items) c.args.at c.index.result.now refl
    c.requires.within c.index.ensures in
    on_ok_weaker c.push_block.result
    (λ is.
    subst (λ (l : List (Block g.row.T.Denot)). HaveFloors (g.S.Space.rules c.args.space.now) l) (sym is)
    (floors-pushed (set c.args.front.now.items c.args.at c.in_ok-near.near) c.in_ok-near.far (g.S.Space.rules c.args.space.now)
    (floors-put c.args.front.now.items c.in_ok-near.near c.args.at c.index.result.now there (g.S.Space.rules c.args.space.now)
    c.requires.floors c.in_ok-near.ensures.floors.0)
    c.in_ok-near.ensures.floors.1))
    c.push_block.ensures.value
