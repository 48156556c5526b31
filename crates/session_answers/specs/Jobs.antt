-- What a query comes to at once, and what a turn of the search for it comes to. This project's own rule.
use Rattle.std.specs.Prelude.{◌≡◌, ℕ, suc, List, Some, Result, IfOk, Vec, slice_get, take}
use Rattle.item_list.specs.Turns.{Says}
use Rattle.item_list.specs.declared.turn.Turn.{Turn}
use Rattle.session_answers.specs.Kept.{IsKept}
use Rattle.std.specs.declared.alloc.Global.{Global}
use Rattle.session_answers.specs.declared.kept.KeptProfiles.{KeptProfiles}
use Rattle.profile_text.specs.Tree.{Sections}
use Rattle.route_ready.specs.Entries.{profiles_of}
use Rattle.route_http.specs.Asked.{Asked}
use Rattle.route_ready.specs.Worlds.{WorldValue}
use Rattle.session_answers.specs.Rows.{Asks, IsEarlyFrame, IsQueryFrame}
use Rattle.session_answers.specs.Searches.{IsSearchFor, turns_for}
use Rattle.session_answers.specs.Sites.{Site, site_of}
use Rattle.session_answers.specs.Stored.{Stored}
use Rattle.route_engine.specs.declared.aim.Aim.{Aim}
use Rattle.session_answers.specs.declared.beginning.Begun.{Begun}
use Rattle.session_answers.specs.declared.beginning.Begun.TheVariants as begun
use Rattle.session_answers.specs.declared.search.Search.{Search}

-- ---- A query that is searched for

-- what is kept of profiles was made from those that are stored
abbrev pub AreKept : WorldValue → List Stored → KeptProfiles → Type 0
AreKept world stored kept = IsKept world (profiles_of stored) kept

-- it is the search for a query of this aim, which goes by a stored profile
pub record IsJobOf (site : Site) (stored : List Stored) (kept : KeptProfiles) (aim : Aim) (query : List ℕ)
    (p : Search) : Type 0 where
  pub asked : Asked
  pub sections : Sections
  pub asks : Asks site stored aim query asked sections
  pub there : slice_get (profiles_of stored) p.place ≡ Some sections
  pub is : IsSearchFor site.world sections kept aim asked p

-- it is that search, of which no turn was taken yet
pub record IsBegun (site : Site) (stored : List Stored) (kept : KeptProfiles) (aim : Aim) (query : List ℕ)
    (p : Search) : Type 0 where
  pub job : IsJobOf site stored kept aim query p
  pub fresh : p.left ≡ turns_for site.world aim job.asked

-- ---- What calls answer

-- what a query comes to at once: a frame that answers it before any search, or its search
abbrev pub Begins : (site : Site) (stored : List Stored) (kept : KeptProfiles) (aim : Aim) (query : List ℕ) →
    Begun → Type 0
Begins site stored kept aim query (begun.Frame frame) = IsEarlyFrame site stored aim query frame.items
Begins site stored kept aim query (begun.Job p) = IsBegun site stored kept aim query p

-- what a turn comes to: its search, which goes on, or a frame that answers its query
abbrev pub TurnsTo : (site : Site) (stored : List Stored) (kept : KeptProfiles) (aim : Aim) (query : List ℕ) →
    Turn Search (Vec ℕ Global) → Type 0
TurnsTo site stored kept aim query =
    Says (IsJobOf site stored kept aim query) (λ frame. IsQueryFrame site stored aim query frame.items)

-- so it is of each query whose search this is, among the profiles that were stored before
abbrev pub AnswersTurn : {E : Type 0} → (world : WorldValue) (stored : List Stored) (old new : KeptProfiles)
    (p : Search) → Result (Turn Search (Vec ℕ Global)) E → Type 0
AnswersTurn world stored old new p result =
    (labels before : ℕ) (aim : Aim) (query : List ℕ) →
    IsJobOf (site_of world labels) (take before stored) old aim query p →
    IfOk result (TurnsTo (site_of world labels) (take before stored) new aim query)

-- a turn less is left where it goes on
abbrev pub CountsDown : {E : Type 0} → ℕ → Turn Search E → Type 0
CountsDown left = Says (λ next. left ≡ suc next.left) (λ _. Unit {0})
