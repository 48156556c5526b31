use Rattle.std.proofs.Common.{refl}
use Rattle.track_reply.specs.GeoJson.{step_array}
use Rattle.track_reply.proofs.ArrayLemmas.{joined-more}
use Rattle.track_reply.proofs.arrays.append_steps.Goals as goal

pub append_step-requires : goal.append_step-requires
append_step-requires c = record { in_range = c.requires.in_range c.links.place c.links-test.true }

pub links-preserved : goal.links-preserved
links-preserved c =
    joined-more (step_array c.args.map.now) c.args.walk.now c.links.place _ 0 c.args.out.now.items c.links.out.items _
    c.append_step.new.out.items c.links-test.true refl c.links.invariant c.in_ok-append_comma.ensures.exact
    c.in_ok-append_step.ensures.exact
