use Rattle.std.proofs.Common.{subst}
use Rattle.way_class.specs.Facts.{Binding}
use Rattle.way_class.specs.Stages.{EndsLinked}
use Rattle.way_class.proofs.binding.linked.Goals as goal

pub finished-requires : goal.finished-requires
finished-requires c = record { over = c.in_ok-binder.ensures.begins c.args.table.now c.args.tiles.now c.requires.fits }

pub returns : goal.returns
returns c = record {
  exact = λ subject suits.
      let binding : Binding = record { subject = subject; map = c.args.map.now; tiles = c.args.tiles.now } in
      subst (λ globals. EndsLinked binding globals c.finished.result) c.in_ok-binder.ensures.value
      (c.finished.ensures.ends.comes_to subject suits (c.in_ok-binder.ensures.sound subject));
}
