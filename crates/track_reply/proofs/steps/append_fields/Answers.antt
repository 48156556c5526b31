use Rattle.std.proofs.Common.{◌++◌, refl}
use Rattle.track_reply.specs.Joined.{tab}
use Rattle.track_reply.specs.Steps.{step_field}
use Rattle.track_reply.proofs.JoinLemmas.{texts-more}
use Rattle.track_reply.proofs.steps.append_fields.Goals as goal

pub append_field-requires : goal.append_field-requires
append_field-requires c = record { in_range = c.requires.in_range c.links.place c.links-test.true }

pub links-preserved : goal.links-preserved
links-preserved c =
    texts-more (λ link. tab ++ step_field c.args.map.now link) c.args.walk.now c.links.place _ 0 c.args.out.now.items c.links.out.items
    c.append_field.new.out.items c.links-test.true refl c.links.invariant c.in_ok-append_field.ensures.exact
