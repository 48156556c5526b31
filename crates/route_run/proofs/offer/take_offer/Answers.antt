use Rattle.std.proofs.Common.{Ok, refl}
use Rattle.route_run.proofs.GivenLemmas.{world-given, world-many}
use Rattle.route_run.specs.Offer.{serve_files}
use Rattle.run_files.proofs.StageLemmas.{then-goes, then-stops}
use Rattle.run_files.proofs.WorldLemmas.{world-of}
use Rattle.run_files.specs.Notes.{inputs}
use Rattle.run_files.specs.World.{offered_of}
use Rattle.route_run.proofs.offer.take_offer.Goals as goal

pub readied-requires : goal.readied-requires
readied-requires g c =
    let files = serve_files c.args.command.now in
    let old = inputs (g.F.Files.seen c.args.files.now) c.args.notes.now in
    let new = inputs (g.F.Files.seen c.take_world.new.files) c.take_world.new.notes in
    let offered = offered_of c.in-Ok.offered in
    let taken =
    world-of files _ _ old new (Ok offered) c.as_slice-profiles.ensures.value c.as_slice-tiles.ensures.value c.in-Ok.ensures.taken in
    record {
      given = world-given files old new offered c.requires.fit.named taken;
      stored = world-many files old new offered taken;
    }

pub returns-in-Ok : goal.returns-in-Ok
returns-in-Ok g c = record {
  exact = then-goes _ _ _ _ _ _ _ (world-of (serve_files c.args.command.now) _ _ _ _ _ c.as_slice-profiles.ensures.value
      c.as_slice-tiles.ensures.value
      c.in-Ok.ensures.taken)
      (c.readied.ensures.exact (g.F.Files.seen c.take_world.new.files));
  new = c.readied.ensures.new;
}

pub returns-in-Err : goal.returns-in-Err
returns-in-Err g c = record {
  exact = then-stops _ _ _ _ _ _ (world-of (serve_files c.args.command.now) _ _ _ _ _ c.as_slice-profiles.ensures.value
      c.as_slice-tiles.ensures.value
      c.in-Err.ensures.taken) refl;
  new = tt;
}
