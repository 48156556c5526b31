use Rattle.route_ready.specs.World.{world_of}
use Rattle.session_answers.proofs.GuideLemmas.{none-made}
use Rattle.session_answers.proofs.kept.KeptProfiles.begin_guide.Goals as goal

pub returns-in-Err-clause-kept : goal.returns-in-Err-clause-kept
returns-in-Err-clause-kept c = λ stored kept. record {
  made = kept.made;
  makings = kept.makings;
  once = kept.once;
  guides = none-made (world_of c.args.world.now) stored c.new.result c.new.ensures.none c.new.ensures.hierarchy;
}
