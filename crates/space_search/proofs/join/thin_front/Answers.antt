use Rattle.std.proofs.Common.{◌≡◌, ◌<◌, Some, length, refl, arith}
use Rattle.std.proofs.lemmas.Option.{slice_get_read}
use Rattle.std.specs.List.{slice_get}
use Rattle.space_search.specs.Blocks.{members_of}
use Rattle.space_search.proofs.BlockLemmas.{in-block, floors-put, thins-put}
use Rattle.space_search.proofs.ThinLemmas.{thins-none, thins-thins}
use Rattle.space_search.proofs.join.thin_front.Goals.{then-is_under, else-is_under}
use Rattle.space_search.proofs.join.thin_front.Goals as goal

pub thin-requires-clause-each : goal.thin-requires-clause-each
thin-requires-clause-each g c one h =
    let within : c.parts.at < length c.parts.front.items = omega (arith, c.parts-test.true, c.len.ensures, c.parts.front.ok.0) in
    let there : slice_get c.parts.front.items c.parts.at ≡ Some c.index_mut.result.now =
    slice_get_read c.parts.front.items (length c.parts.front.items) c.parts.at c.index_mut.result.now refl within
    c.index_mut.ensures.value in
    c.requires.each one (c.parts.invariant.0.from one (in-block c.parts.front.items c.parts.at c.index_mut.result.now one there h))

pub parts-preserved : goal.parts-preserved
parts-preserved g c =
    let within : c.parts.at < length c.parts.front.items = omega (arith, c.parts-test.true, c.len.ensures, c.parts.front.ok.0) in
    elim c.if-is_under.branch [
      | else-is_under w ↦ rw w.front-is c.parts.invariant
      | then-is_under w ↦
          let there : slice_get c.parts.front.items c.parts.at ≡ Some w.index_mut.result.now =
          slice_get_read c.parts.front.items (length c.parts.front.items) c.parts.at w.index_mut.result.now refl within
          w.index_mut.ensures.value in
          rw w.front-is (
            thins-thins (g.S.Space.rules c.args.space.now) c.args.one.now _ (members_of c.parts.front.items) _ c.parts.invariant.0
                (thins-put c.parts.front.items _ c.parts.at w.index_mut.result.now there (g.S.Space.rules c.args.space.now) c.args.one.now
                w.thin.ensures.thins),
            floors-put c.parts.front.items _ c.parts.at w.index_mut.result.now there (g.S.Space.rules c.args.space.now) c.parts.invariant.1
                (λ one h. c.parts.invariant.1 c.parts.at w.index_mut.result.now there one (w.thin.ensures.thins.from one h)),
          )
    ]

pub returns-then-not-supersedes-clause-thins : goal.returns-then-not-supersedes-clause-thins
returns-then-not-supersedes-clause-thins g c =
    thins-none (g.S.Space.rules c.args.space.now) c.args.one.now (members_of c.args.front.now.items)

pub returns-then-not-supersedes-clause-floors : goal.returns-then-not-supersedes-clause-floors
returns-then-not-supersedes-clause-floors g c = c.requires.floors

pub parts-init : goal.parts-init
parts-init g c = (thins-none (g.S.Space.rules c.args.space.now) c.args.one.now (members_of c.args.front.now.items), c.requires.floors)

pub thin-requires-clause-fits : goal.thin-requires-clause-fits
thin-requires-clause-fits g c = c.requires.fits

pub returns-clause-thins : goal.returns-clause-thins
returns-clause-thins g c = c.parts.invariant.0

pub returns-clause-floors : goal.returns-clause-floors
returns-clause-floors g c = c.parts.invariant.1
