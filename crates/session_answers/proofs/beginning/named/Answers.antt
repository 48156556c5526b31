use Rattle.std.proofs.Common.{sym, ap, ◌∙◌}
use Rattle.lookup_table.specs.Tag.{name_place}
use Rattle.route_ready.specs.Entries.{names_of}
use Rattle.route_http.specs.Seen.{asked}
use Rattle.route_ready.specs.World.{world_of}
use Rattle.session_answers.proofs.QueryLemmas.{unknown-frame}
use Rattle.session_answers.specs.Profiles.{stored_of}
use Rattle.session_answers.specs.Sites.{site_of}
use Rattle.session_answers.proofs.beginning.named.Goals as goal

pub returns-in_ok-frame-in-None-clause-exact : goal.returns-in_ok-frame-in-None-clause-exact
returns-in_ok-frame-in-None-clause-exact c = λ labels query asks.
    unknown-frame (site_of (world_of c.args.world.now) labels) (stored_of c.args.profiles.now) c.args.aim query (asked c.args.request) c.in_ok-frame-in-None.frame.items
    asks
    (ap (name_place (names_of (stored_of c.args.profiles.now))) (sym c.as_slice.ensures.value)
    ∙ sym c.in-None.ensures.exact) c.in_ok-frame-in-None.ensures.exact
