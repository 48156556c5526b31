use Rattle.route_http.proofs.CallerLemmas.{head_within}
use Rattle.session_answers.proofs.verdict.verdict_by.Goals as goal

pub told_by-requires : goal.told_by-requires
told_by-requires c = record { within = head_within c.args.bytes.now c.args.head c.requires.heads }
