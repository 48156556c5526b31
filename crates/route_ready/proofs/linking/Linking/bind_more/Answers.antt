use Rattle.std.proofs.Common.{subst}
use Rattle.route_ready.proofs.ReadyLemmas.{lent-is}
use Rattle.route_ready.specs.World.{world_of}
use Rattle.route_ready.specs.Worlds.{WorldValue}
use Rattle.tasks.specs.Steps.{Steps}
use Rattle.way_class.specs.Stages.{IsUnderWay, MayEnd, work_left}
use Rattle.route_ready.proofs.linking.Linking.bind_more.Goals as goal

pub returns-in-More : goal.returns-in-More
returns-in-More c =
    let world = world_of c.args.world.now in
    let lent = lent-is world _ _ _ c.table-table.ensures.value c.map-map.ensures.value c.tiles-tiles.ensures.value in
    let Does : WorldValue → Type 0 = λ w.
    Steps (IsUnderWay c.args.self.code w.table w.map w.tiles) (MayEnd c.args.self.code w.table w.map w.tiles)
    (work_left w.map) (λ _. 0) c.args.budget c.args.self.binder c.step-spent.result in
    let does = subst Does lent c.step-spent.ensures.steps in
    let on = rw c.in-More.is at does.turn in
    record {
      steps = record {
        fits = does.fits;
        turn = record { over = on.over; same = on.same; less = on.less; nearer = on.nearer };
      };
    }
