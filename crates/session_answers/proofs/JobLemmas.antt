-- The search for a query stays it while more profiles are stored.
use Rattle.std.proofs.Common.{◌≡◌, ℕ, ◌≤◌, ◌<◌, List, [], ◌∷◌, ◌++◌, length, take, drop, false, refl, sym, ap, ◌∙◌, subst, arith, eq-eqb, IfSome, Option, None, Some}
use Rattle.std.specs.Prelude.{slice_get}
use Rattle.std.proofs.lemmas.List.{length-map, take-append-drop, take-append-le, take_all}
use Rattle.std.proofs.lemmas.Option.{slice_get_within}
use Rattle.session_answers.specs.declared.kept.KeptProfiles.{KeptProfiles}
use Rattle.profile_text.specs.Tree.{Sections}
use Rattle.route_ready.specs.Entries.{profiles_of}
use Rattle.route_http.specs.Asked.{Asked}
use Rattle.route_ready.specs.Worlds.{WorldValue}
use Rattle.session_answers.specs.Jobs.{AreKept, IsBegun, IsJobOf}
use Rattle.session_answers.specs.Rows.{Asks}
use Rattle.session_answers.specs.Searches.{IsSearchFor, IsStageOver, stage_waits, turns_for, waits_for}
use Rattle.session_answers.specs.Kept.{AreGuides, IsMadeFrom, IsTarget, StayAwaited}
use Rattle.session_answers.specs.declared.guides.Guides.{Guides}
use Rattle.session_answers.specs.declared.guides.Target.{Target}
use Rattle.session_answers.specs.declared.key.Key.{Key}
use Rattle.route_ready.specs.declared.ready.Ready.{Ready}
use Rattle.session_answers.specs.Makings.{Puts}
use Rattle.session_answers.specs.declared.search.Stage.{Stage}
use Rattle.session_answers.specs.declared.search.Stage.TheVariants.{Making, Searching}
use Rattle.route_http.specs.Seen.{asked as asked_by}
use Rattle.std.proofs.lemmas.Bool.{false≢true}
use Rattle.session_answers.specs.Sites.{Site}
use Rattle.session_answers.specs.Stored.{Stored}
use Rattle.route_engine.specs.declared.aim.Aim.{Aim}
use Rattle.session_answers.specs.declared.search.Search.{Search}
use Rattle.item_list.proofs.ListLemmas.{slice_get-append}

-- ---- Lists

-- the profiles of two lists one behind the other
profiles-append : (stored more : List Stored) → profiles_of (stored ++ more) ≡ profiles_of stored ++ profiles_of more
profiles-append [] more = refl
profiles-append (s ∷ stored) more = ap (λ (l : List Sections). s.1 ∷ l) (profiles-append stored more)

-- a profile stands at its place where more are stored
profile_more : (stored more : List Stored) (place : ℕ) (sections : Sections) → slice_get (profiles_of stored) place ≡ Some sections →
    slice_get (profiles_of (stored ++ more)) place ≡ Some sections
profile_more stored more place sections there =
    ap (λ (l : List Sections). slice_get l place) (profiles-append stored more)
    ∙ slice_get-append (profiles_of stored) (profiles_of more) place sections there

-- and where the first ones are told from all
profile_front : (before : ℕ) (stored : List Stored) (place : ℕ) (sections : Sections) →
    slice_get (profiles_of (take before stored)) place ≡ Some sections → slice_get (profiles_of stored) place ≡ Some sections
profile_front before stored place sections there =
    ap (λ (l : List Stored). slice_get (profiles_of l) place) (sym (take-append-drop before stored))
    ∙ profile_more (take before stored) (drop before stored) place sections there

-- ---- What is kept

-- what was made from a stored profile is so where more are stored
made_more : (world : WorldValue) (stored more : List Stored) (key : Key) (ready : Ready) →
    IsMadeFrom world (profiles_of stored) key ready → IsMadeFrom world (profiles_of (stored ++ more)) key ready
made_more world stored more key ready made = record {
  sections = made.sections;
  there = profile_more stored more key.place made.sections made.there;
  ready_is = made.ready_is;
}

-- and so is the profile whose guide is made
target_more : (world : WorldValue) (stored more : List Stored) (target : Option Target) →
    IfSome target (IsTarget world (profiles_of stored)) → IfSome target (IsTarget world (profiles_of (stored ++ more)))
target_more world stored more None is = tt
target_more world stored more (Some target) is = record {
  made = made_more world stored more target.key target.ready.value is.made;
  making = is.making;
}

guides_more : (world : WorldValue) (stored more : List Stored) (guides : Guides) → AreGuides world (profiles_of stored) guides →
    AreGuides world (profiles_of (stored ++ more)) guides
guides_more world stored more guides are = record {
  hierarchy = are.hierarchy;
  target = target_more world stored more guides.target are.target;
}

-- what is kept stays made from the stored profiles
pub kept_more : (world : WorldValue) (stored more : List Stored) (kept : KeptProfiles) → AreKept world stored kept →
    AreKept world (stored ++ more) kept
kept_more world stored more kept are = record {
  made = λ entry within. made_more world stored more entry.0 entry.1.ready.value (are.made entry within);
  makings = λ k making there.
      let from = are.makings k making there in
      record {
        sections = from.sections;
        there = profile_more stored more making.key.place from.sections from.there;
        is = from.is;
      };
  once = are.once;
  guides = guides_more world stored more kept.guides are.guides;
}

-- ---- How far a search is

module _ (world : WorldValue) (old new : KeptProfiles) (place : ℕ) (aim : Aim) (left : ℕ) where
  -- a stage has turns enough while what it waits for stays
  stage-stays : (stage : Stage) → StayAwaited world old new → IsStageOver world old place aim left stage →
      IsStageOver world new place aim left stage
  stage-stays (Making k request) stay is = record {
    turns = is.turns;
    awaited = stay place (asked_by request).overrides is.turns k is.awaited;
    enough = is.enough;
    within = is.within;
  }
  stage-stays (Searching pending) stay is = is

  -- and where a making is dropped for which it doesn't wait
  stage-unawaited : (stage : Stage) (k : ℕ) → Puts old.makings.slots.items new.makings.slots.items k None →
      stage_waits stage k ≡ false → IsStageOver world old place aim left stage → IsStageOver world new place aim left stage
  stage-unawaited (Making j request) k puts other is =
      let waits = is.awaited in
      record {
        turns = is.turns;
        awaited = record {
          making = waits.making;
          there = puts.others j (λ same. false≢true (sym other ∙ eq-eqb j k same)) ∙ waits.there;
          place_is = waits.place_is;
          overrides_are = waits.overrides_are;
          few = waits.few;
        };
        enough = is.enough;
        within = is.within;
      }
  stage-unawaited (Searching pending) k puts other is = is

-- ---- The search for a query

-- of whose search no turn is taken at first
pub begun-job : (site : Site) (stored : List Stored) (kept : KeptProfiles) (aim : Aim) (query : List ℕ) (asked : Asked)
    (sections : Sections) (p : Search) → Asks site stored aim query asked sections →
    slice_get (profiles_of stored) p.place ≡ Some sections → IsSearchFor site.world sections kept aim asked p →
    p.left ≡ turns_for site.world aim asked → IsBegun site stored kept aim query p
begun-job site stored kept aim query asked sections p asks there is fresh = record {
  job = record { asked = asked; sections = sections; asks = asks; there = there; is = is };
  fresh = fresh;
}

module _ (site : Site) (aim : Aim) (query : List ℕ) (p : Search) where
  -- it stays that of its query while what it waits for stays
  over-job : (stored : List Stored) (old new : KeptProfiles) → IsStageOver site.world new p.place p.aim p.left p.stage →
      IsJobOf site stored old aim query p → IsJobOf site stored new aim query p
  over-job stored old new over job = record {
    asked = job.asked;
    sections = job.sections;
    asks = job.asks;
    there = job.there;
    is = record { aim_is = job.is.aim_is; kind = job.is.kind; over = over; is = job.is.is };
  }

  pub job_stays : (stored : List Stored) (old new : KeptProfiles) → StayAwaited site.world old new →
      IsJobOf site stored old aim query p → IsJobOf site stored new aim query p
  job_stays stored old new stay job =
      over-job stored old new (stage-stays site.world old new p.place p.aim p.left p.stage stay job.is.over) job

  pub job_unawaited : (stored : List Stored) (old new : KeptProfiles) (k : ℕ) →
      Puts old.makings.slots.items new.makings.slots.items k None → waits_for p k ≡ false →
      IsJobOf site stored old aim query p → IsJobOf site stored new aim query p
  job_unawaited stored old new k puts other job =
      over-job stored old new (stage-unawaited site.world old new p.place p.aim p.left p.stage k puts other job.is.over) job

  module _ (kept : KeptProfiles) where
    -- by all profiles that are stored now
    pub job_now : (stored : List Stored) → IsJobOf site stored kept aim query p →
        IsJobOf site (take (length stored) stored) kept aim query p
    job_now stored =
        subst (λ (l : List Stored). IsJobOf site l kept aim query p) (sym (take_all (length stored) stored (omega arith)))

    -- by the first ones, where more are stored behind
    pub job_more : (before : ℕ) (stored more : List Stored) → before ≤ length stored → IsJobOf site (take before stored) kept aim query p →
        IsJobOf site (take before (stored ++ more)) kept aim query p
    job_more before stored more within =
        subst (λ (l : List Stored). IsJobOf site l kept aim query p) (sym (take-append-le before stored more within))

    module _ (before : ℕ) (stored : List Stored) (job : IsJobOf site (take before stored) kept aim query p) where
      -- its profile is stored at its place, which is the same among the first ones
      pub job_there : slice_get (profiles_of stored) p.place ≡ Some job.sections
      job_there = profile_front before stored p.place job.sections job.there

      pub job_place : p.place < length stored
      job_place =
          let below = slice_get_within (profiles_of stored) p.place job.sections job_there in
          omega (arith, below, length-map stored (λ (s : Stored). s.1))
