use Rattle.std.proofs.Common.{◌≡◌, Some, length, inl, inr, refl, subst}
use Rattle.std.proofs.lemmas.Option.{slice_get_read}
use Rattle.std.proofs.lemmas.Result.{on_ok_weaker}
use Rattle.std.specs.List.{slice_get}
use Rattle.space_search.specs.Fronts.{FitsTest}
use Rattle.space_search.specs.declared.fronts.Member.{Member}
use Rattle.space_search.proofs.BlockLemmas.{adds-put, adds-same, floors-put}
use Rattle.space_search.proofs.blocks.enter.Goals as goal

pub add_to-requires-clause-floor : goal.add_to-requires-clause-floor
add_to-requires-clause-floor g c =
    c.requires.floors c.args.at c.index_mut.result.now
    (slice_get_read c.args.front.now.items (length c.args.front.now.items) c.args.at c.index_mut.result.now refl c.requires.within
    c.index_mut.ensures.value)

pub divide-requires-clause-each : goal.divide-requires-clause-each
divide-requires-clause-each g c one h =
    let there : slice_get c.args.front.now.items c.args.at ≡ Some c.index_mut.result.now =
    slice_get_read c.args.front.now.items (length c.args.front.now.items) c.args.at c.index_mut.result.now refl c.requires.within
    c.index_mut.ensures.value in
    let adds =
    adds-put c.args.front.now.items c.add_to.new.block c.args.at c.index_mut.result.now there c.args.one.now c.in_ok-add_to.ensures.adds in
    elim (adds.from one h) [
      | inl old ↦ c.requires.each one old
      | inr same ↦ subst (λ (m : Member g.row.T.Denot). FitsTest (g.S.Space.rules c.args.space.now) m) same c.requires.fits
    ]

pub divide-requires-clause-floors : goal.divide-requires-clause-floors
divide-requires-clause-floors g c =
    let there : slice_get c.args.front.now.items c.args.at ≡ Some c.index_mut.result.now =
    slice_get_read c.args.front.now.items (length c.args.front.now.items) c.args.at c.index_mut.result.now refl c.requires.within
    c.index_mut.ensures.value in
    floors-put c.args.front.now.items c.add_to.new.block c.args.at c.index_mut.result.now there (g.S.Space.rules c.args.space.now)
    c.requires.floors c.in_ok-add_to.ensures.floor

pub returns-then-count-eq0-clause-adds : goal.returns-then-count-eq0-clause-adds
returns-then-count-eq0-clause-adds g c =
    let there : slice_get c.args.front.now.items c.args.at ≡ Some c.index_mut.result.now =
    slice_get_read c.args.front.now.items (length c.args.front.now.items) c.args.at c.index_mut.result.now refl c.requires.within
    c.index_mut.ensures.value in
    on_ok_weaker c.divide.result
    (λ same.
    adds-same c.args.one.now _ _ _
    (adds-put c.args.front.now.items c.add_to.new.block c.args.at c.index_mut.result.now there c.args.one.now c.in_ok-add_to.ensures.adds)
    same)
    c.divide.ensures.same

pub returns-clause-adds : goal.returns-clause-adds
returns-clause-adds g c =
    let there : slice_get c.args.front.now.items c.args.at ≡ Some c.index_mut.result.now =
    slice_get_read c.args.front.now.items (length c.args.front.now.items) c.args.at c.index_mut.result.now refl c.requires.within
    c.index_mut.ensures.value in
    adds-put c.args.front.now.items c.add_to.new.block c.args.at c.index_mut.result.now there c.args.one.now c.in_ok-add_to.ensures.adds

pub returns-clause-floors : goal.returns-clause-floors
returns-clause-floors g c =
    let there : slice_get c.args.front.now.items c.args.at ≡ Some c.index_mut.result.now =
    slice_get_read c.args.front.now.items (length c.args.front.now.items) c.args.at c.index_mut.result.now refl c.requires.within
    c.index_mut.ensures.value in
    floors-put c.args.front.now.items c.add_to.new.block c.args.at c.index_mut.result.now there (g.S.Space.rules c.args.space.now)
    c.requires.floors c.in_ok-add_to.ensures.floor
