use Rattle.profile_text.specs.Expr.{sections_in}
use Rattle.route_http.specs.Seen.{asked}
use Rattle.route_ready.specs.World.{world_of}
use Rattle.route_engine.specs.Replies.{question_of}
use Rattle.route_engine.proofs.SearchLemmas.{early-told}
use Rattle.route_engine.proofs.TableAnswerLemmas.{profile-early}
use Rattle.route_engine.proofs.asking.answer.Goals as goal

pub returns-in-Err : goal.returns-in-Err
returns-in-Err g c =
    let question = question_of (world_of c.args.world.now) (sections_in c.args.profile.now) (asked c.args.request) in
    record {
      exact = early-told g.S.Search.Finds g.S.Search.Refuses g.S.Search.text question c.in-Err.error
          (profile-early question c.in-Err.error c.in-Err.ensures.exact);
    }
