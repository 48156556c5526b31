use Rattle.std.proofs.Common.{subst, sym}
use Rattle.route_ready.specs.World.{world_of}
use Rattle.route_engine.specs.Askings.{IsAskingStage, StepsAsking}
use Rattle.route_engine.proofs.asking.AskingStep.step.Goals as goal

pub searched-requires : goal.searched-requires
searched-requires g c =
    let world = world_of c.args.dataset.now in
    let S = g.S.Search in
    let over = subst (IsAskingStage (S.IsOn world) (S.plan world) (S.IsWriting world) world c.args.self.ready.value c.args.self.told)
    c.in-Searching.is c.requires.over in
    record { on = over.0; someones = over.1; some = c.requires.some }

pub written-requires : goal.written-requires
written-requires g c =
    let world = world_of c.args.dataset.now in
    let S = g.S.Search in
    record {
      on = subst (IsAskingStage (S.IsOn world) (S.plan world) (S.IsWriting world) world c.args.self.ready.value c.args.self.told)
          c.in-Writing.is c.requires.over;
      some = c.requires.some;
    }

pub returns-in-Searching : goal.returns-in-Searching
returns-in-Searching g c =
    let world = world_of c.args.dataset.now in
    let S = g.S.Search in
    record {
      steps = subst
          (λ stage. StepsAsking S.Finds S.Refuses S.text (S.IsOn world) (S.plan world) (S.IsWriting world) (S.comes_to world) (S.work world)
          (S.left world) (S.free world) world c.args.budget
          (record { told = c.args.self.told; ready = c.args.self.ready; stage = stage }) c.searched.result)
          (sym c.in-Searching.is) c.searched.ensures.steps;
    }

pub returns-in-Writing : goal.returns-in-Writing
returns-in-Writing g c =
    let world = world_of c.args.dataset.now in
    let S = g.S.Search in
    record {
      steps = subst
          (λ stage. StepsAsking S.Finds S.Refuses S.text (S.IsOn world) (S.plan world) (S.IsWriting world) (S.comes_to world) (S.work world)
          (S.left world) (S.free world) world c.args.budget
          (record { told = c.args.self.told; ready = c.args.self.ready; stage = stage }) c.written.result)
          (sym c.in-Writing.is) c.written.ensures.steps;
    }
