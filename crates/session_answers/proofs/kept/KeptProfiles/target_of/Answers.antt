use Rattle.std.proofs.Common.{subst, sym}
use Rattle.overpass_graph.specs.Maps.{MapValue}
use Rattle.route_ready.specs.Fits.{FitsMap}
use Rattle.route_ready.specs.World.{world_of}
use Rattle.session_answers.proofs.GuideLemmas.{target-begun}
use Rattle.session_answers.proofs.KeptLemmas.{made-seen}
use Rattle.session_answers.proofs.KeyLemmas.{key-same}
use Rattle.session_answers.specs.Guiding.{IsTargetFor}
use Rattle.session_answers.proofs.kept.KeptProfiles.target_of.Goals as goal

pub new-requires-clause-fits : goal.new-requires-clause-fits
new-requires-clause-fits c =
    let world = world_of c.args.world.now in
    let made = made-seen world c.requires.kept.0 _ key-same c.peek.result c.in-Some.kept c.args.self.now.cache.entries c.args.key
    c.in-Some.is c.peek.ensures c.requires.kept.1.made in
    subst (λ (m : MapValue). FitsMap m c.in-Some.kept.now.ready.value) (sym c.map.ensures.value) made.ready_is.fits

pub returns : goal.returns
returns c =
    let world = world_of c.args.world.now in
    let ready = c.in-Some.kept.now.ready.value in
    record {
      is = λ stored kept.
          target-begun world stored c.args.key ready c.in_ok-target.target
          (made-seen world stored _ key-same c.peek.result c.in-Some.kept c.args.self.now.cache.entries c.args.key c.in-Some.is
          c.peek.ensures kept.made)
          (subst (λ (m : MapValue). IsTargetFor m c.args.key ready c.in_ok-target.target) c.map.ensures.value c.in_ok-target.ensures.is);
    }
