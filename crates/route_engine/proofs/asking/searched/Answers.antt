use Rattle.std.proofs.Common.{ap, subst, ◌∙◌}
use Rattle.item_list.specs.Turns.{Says}
use Rattle.item_list.specs.declared.turn.Turn.TheVariants.{Done}
use Rattle.route_ready.specs.World.{world_of}
use Rattle.route_engine.specs.Searches.{EndsSearch}
use Rattle.route_engine.proofs.AskingLemmas.{text-begins}
use Rattle.route_engine.proofs.SearchLemmas.{refused-told}
use Rattle.route_engine.proofs.asking.searched.Goals as goal

pub returns-in-Done-Ok : goal.returns-in-Done-Ok
returns-in-Done-Ok g c =
    let world = world_of c.args.world.now in
    let S = g.S.Search in
    let plan = S.plan world c.args.search in
    let finds = subst (EndsSearch S.Finds S.Refuses plan) c.in-Done-Ok.field-0-is
    (subst (Says _ (EndsSearch S.Finds S.Refuses plan)) c.in-Done-Ok.is c.step-spent.ensures.steps.turn) in
    let ends = c.in-Done-Ok.is ∙ ap Done c.in-Done-Ok.field-0-is in
    record {
      steps = record {
        fits = c.step-spent.ensures.steps.fits;
        turn = text-begins S.Finds S.Refuses S.text (S.IsOn world) (S.plan world) (S.IsWriting world) (S.comes_to world) (S.work world)
            (S.left world) (S.free world) world c.args.told c.args.ready c.args.search c.in-Done-Ok.found finds c.args.budget
            c.step-spent.result.spent (S.to_write world c.in-Done-Ok.found) (c.step-spent.ensures.leaves c.in-Done-Ok.found ends)
            c.begun.result c.begun.ensures.begins;
      };
    }

pub returns-in-Done-Err : goal.returns-in-Done-Err
returns-in-Done-Err g c =
    let world = world_of c.args.world.now in
    let S = g.S.Search in
    let plan = S.plan world c.args.search in
    let refuses = subst (EndsSearch S.Finds S.Refuses plan) c.in-Done-Err.field-0-is
    (subst (Says _ (EndsSearch S.Finds S.Refuses plan)) c.in-Done-Err.is c.step-spent.ensures.steps.turn) in
    record {
      steps = record {
        fits = c.step-spent.ensures.steps.fits;
        turn = refused-told S.Finds S.Refuses S.text world c.args.ready.value c.args.told plan c.in-Done-Err.error refuses;
      };
    }
