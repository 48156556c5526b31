use Rattle.std.proofs.Common.{◌∙◌, ap}
use Rattle.std.specs.Prelude.{slice_get}
use Rattle.profile_text.specs.Expr.{sections_in}
use Rattle.route_ready.specs.Entries.{profiles_of}
use Rattle.route_http.specs.Seen.{asked}
use Rattle.route_ready.specs.World.{world_of}
use Rattle.session_answers.proofs.JobLemmas.{begun-job}
use Rattle.session_answers.proofs.MakingLemmas.{wanted-fits}
use Rattle.session_answers.proofs.QueryLemmas.{profile-frame}
use Rattle.session_answers.proofs.StoredLemmas.{found_at}
use Rattle.session_answers.specs.Profiles.{stored_of}
use Rattle.session_answers.specs.Rows.{Asks}
use Rattle.session_answers.specs.Sites.{site_of}
use Rattle.std.proofs.lemmas.Result.{IfOk-from_err}
use Rattle.session_answers.proofs.beginning.stored.Goals as goal

pub search_for-requires : goal.search_for-requires
search_for-requires c =
    let world = world_of c.args.world.now in
    let stored = stored_of c.args.profiles.now in
    let wanted = (c.in-Ok.ensures.exact (profiles_of stored) c.requires.kept c.profile-profile.ensures.value).1 in
    record {
      fits = wanted-fits world (sections_in c.profile-profile.result.now) c.args.place (asked c.args.request).overrides c.want.new.self
          c.in-Ok.wanted wanted;
      within = c.requires.within;
    }

pub returns-in_ok-search-in-Ok-clause-exact : goal.returns-in_ok-search-in-Ok-clause-exact
returns-in_ok-search-in-Ok-clause-exact c = λ labels query reads.
    let world = world_of c.args.world.now in
    let site = site_of world labels in
    let stored = stored_of c.args.profiles.now in
    let request = asked c.args.request in
    let sections = sections_in c.profile-profile.result.now in
    let there = c.profile-profile.ensures.value in
    let wanted = (c.in-Ok.ensures.exact (profiles_of stored) c.requires.kept there).1 in
    let fresh = c.in_ok-search-in-Ok.ensures.fresh in
    let asks : Asks site stored c.args.aim query request sections =
    record { asks = reads; found = found_at stored request.profile c.args.place sections c.requires.found there } in
    begun-job site stored c.want.new.self c.args.aim query request sections c.in_ok-search-in-Ok.search asks
    (ap (slice_get (profiles_of stored)) fresh.1 ∙ there) (c.in_ok-search-in-Ok.ensures.begins c.want.new.self sections wanted) fresh.0

pub returns-in_ok-frame-in-Err-clause-exact : goal.returns-in_ok-frame-in-Err-clause-exact
returns-in_ok-frame-in-Err-clause-exact c = λ labels query reads.
    let site = site_of (world_of c.args.world.now) labels in
    let stored = stored_of c.args.profiles.now in
    let request = asked c.args.request in
    let sections = sections_in c.profile-profile.result.now in
    let there = c.profile-profile.ensures.value in
    let why = (c.in-Err.ensures.exact (profiles_of stored) c.requires.kept there).1 in
    let asks : Asks site stored c.args.aim query request sections =
    record { asks = reads; found = found_at stored request.profile c.args.place sections c.requires.found there } in
    profile-frame site stored c.args.aim query request sections asks c.in-Err.error c.in_ok-frame-in-Err.frame.items
    c.in_ok-frame-in-Err.ensures.reason c.in_ok-frame-in-Err.ensures.exact why

pub returns-in_ok-search-in-Ok-clause-kept : goal.returns-in_ok-search-in-Ok-clause-kept
returns-in_ok-search-in-Ok-clause-kept c =
    (c.in-Ok.ensures.exact (profiles_of (stored_of c.args.profiles.now)) c.requires.kept c.profile-profile.ensures.value).0

pub returns-in_ok-frame-in-Err-clause-kept : goal.returns-in_ok-frame-in-Err-clause-kept
returns-in_ok-frame-in-Err-clause-kept c =
    (c.in-Err.ensures.exact (profiles_of (stored_of c.args.profiles.now)) c.requires.kept c.profile-profile.ensures.value).0

pub returns-in_err-frame-in-Err : goal.returns-in_err-frame-in-Err
returns-in_err-frame-in-Err c =
    let no = c.from_residual-in_err-frame-in-Err.ensures.0 in
    record {
      exact = λ _ _ _. IfOk-from_err _ _ no;
      kept = (c.in-Err.ensures.exact (profiles_of (stored_of c.args.profiles.now)) c.requires.kept c.profile-profile.ensures.value).0;
      stay = c.want.ensures.stay;
    }
