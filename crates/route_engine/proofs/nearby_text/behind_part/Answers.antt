use Rattle.std.proofs.Common.{Some, None, subst, sym}
use Rattle.route_engine.specs.NearbyTexts.{GoesToPart}
use Rattle.route_engine.proofs.NearbyWritingLemmas.{Writes, list-ends, part-begins}
use Rattle.route_ready.specs.World.{world_of}
use Rattle.route_engine.proofs.nearby_text.behind_part.Goals as goal

pub returns-in-Some : goal.returns-in-Some
returns-in-Some c =
    let world = world_of c.args._world.now in
    let ready = c.args._ready.now in
    let told = c.args._told.now in
    let rows = c.args.rows in
    let goes = subst (GoesToPart c.args.text.items c.next_part.new.text.items rows.part) c.in-Some.is c.in_ok-part.ensures.exact in
    record {
      steps = subst
          (Writes world ready told c.args._budget c.requires.some
          (record { text = c.args.text; rows = Some c.args.rows; lists = c.args.lists }))
          (sym c.later.ensures.exact)
          (part-begins world ready told c.args._budget c.requires.some c.args.text c.next_part.new.text c.args.lists rows.list rows.part
          c.in-Some.part rows.place c.requires.whole goes c.requires.on);
    }

pub returns-in-None : goal.returns-in-None
returns-in-None c =
    let world = world_of c.args._world.now in
    let ready = c.args._ready.now in
    let told = c.args._told.now in
    let rows = c.args.rows in
    let goes = subst (GoesToPart c.args.text.items c.next_part.new.text.items rows.part) c.in-None.is c.in_ok-part.ensures.exact in
    record {
      steps = subst
          (Writes world ready told c.args._budget c.requires.some
          (record { text = c.args.text; rows = Some c.args.rows; lists = c.args.lists }))
          (sym c.later-in-None.ensures.exact)
          (list-ends world ready told c.args._budget c.requires.some c.args.text c.next_part.new.text c.args.lists rows.list rows.part
          rows.place c.requires.whole goes c.requires.on);
    }
