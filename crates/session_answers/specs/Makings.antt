-- Profiles that are being made ready for the sessions that wait for them. This project's own rule.
use Rattle.std.specs.Prelude.{◌≡◌, ◌≢◌, ◌⊎◌, ℕ, ℤ, ◌<◌, ◌≤◌, List, Option, Some, None, Result, Err, MatchResult, get_or, slice_get}
use Rattle.std.specs.declared.alloc.Global.{Global}
use Rattle.std.specs.declared.rc.Rc.{Rc}
use Rattle.profile_text.specs.Tree.{Sections}
use Rattle.route_ready.specs.Making.{IsPreparing, PreparingEnds, most_turns, preparing_left}
use Rattle.route_ready.specs.Readiness.{IsReadyOf, Readies, ready_of}
use Rattle.route_ready.specs.Worlds.{WorldValue, binding_in}
use Rattle.route_ready.specs.declared.error.RouteError.{RouteError}
use Rattle.route_ready.specs.declared.error.RouteError.TheVariants.{NoMemory}
use Rattle.route_ready.specs.declared.linking.KeptTerms.{KeptTerms}
use Rattle.route_ready.specs.declared.linking.Linking.{Linking}
use Rattle.route_ready.specs.declared.comparing.Comparing.{Comparing}
use Rattle.route_ready.specs.declared.ready.Ready.{Ready}
use Rattle.session_answers.specs.declared.key.Key.{Key}
use Rattle.session_answers.specs.declared.makings.Making.{Making}
use Rattle.session_answers.specs.declared.makings.Progress.{Progress}
use Rattle.session_answers.specs.declared.makings.Progress.TheVariants.{Going, Over}
use Rattle.tasks.specs.declared.chain.Chain.{Chain}
use Rattle.way_class.specs.Facts.{Binding}

-- a profile that is ready, as it is shared
abbrev pub Shared : Type 0
Shared = Rc Ready Global

-- a call gives the profile ready, or its refusal, or reports want of memory
abbrev pub GivesReady : Binding → Result Shared RouteError → Type 0
GivesReady binding result =
    MatchResult result (λ (shared : Shared). IsReadyOf binding shared.value) (λ e. (e ≡ NoMemory) ⊎
    (ready_of binding ≡ Err e))

-- how much of a making a turn does
abbrev pub making_quota : ℕ
making_quota = 20000

-- how many turns a making takes at most
abbrev pub making_turns : WorldValue → ℕ
making_turns world = most_turns world making_quota

-- a profile is being made ready: whatever that ends with is the profile ready, or its refusal, and it takes
-- no more turns than any
pub record IsOngoing (world : WorldValue) (binding : Binding)
    (p : Chain Linking Comparing KeptTerms) : Type 0 where
  pub over : IsPreparing world p
  pub ends : (end : Result Ready RouteError) → PreparingEnds world p end →
      Readies binding (ready_of binding) end
  pub few : preparing_left world making_quota p ≤ making_turns world

-- so far is the making of a profile that is bound to a world
abbrev pub IsProgressOf : WorldValue → Binding → Progress → Type 0
IsProgressOf world binding (Going p) = IsOngoing world binding p
IsProgressOf world binding (Over end) = GivesReady binding end

-- how many turns it goes on for at most
abbrev pub left_of : WorldValue → Progress → ℕ
left_of world (Going p) = preparing_left world making_quota p
left_of world (Over end) = 0

-- it goes on
abbrev pub IsGoing : Progress → Type 0
IsGoing (Going p) = Unit {0}
IsGoing (Over end) = ⊥

-- a making that goes on as this has fewer turns left
abbrev pub Nearer : WorldValue → (before after : Progress) → Type 0
Nearer world before (Going p) = left_of world (Going p) < left_of world before
Nearer world before (Over end) = Unit {0}

-- a making is that of the stored profile which its key names, under the overrides of the key
pub record IsMakingFrom (world : WorldValue) (stored : List Sections) (making : Making) : Type 0 where
  pub sections : Sections
  pub there : slice_get stored making.key.place ≡ Some sections
  pub is : IsProgressOf world (binding_in world sections making.key.overrides) making.progress

-- ---- Places

-- at a place stands the making of a profile that is bound to a world
pub record IsMakingAt (world : WorldValue) (slots : List (Option Making)) (k : ℕ)
    (binding : Binding) : Type 0 where
  pub making : Making
  pub there : get_or slots k None ≡ Some making
  pub is : IsProgressOf world binding making.progress

-- a making under this key stands there
pub record StandsAt (slots : List (Option Making)) (key : Key) (k : ℕ) : Type 0 where
  pub making : Making
  pub there : get_or slots k None ≡ Some making
  pub key_is : making.key ≡ key

-- no key has two makings: two places where one under it stands are one place
unfoldable pub HaveOneMaking : List (Option Making) → Type 0
HaveOneMaking slots = (key : Key) (j k : ℕ) → StandsAt slots key j → StandsAt slots key k → j ≡ k

-- this was put at a place, and the other places stay
pub record Puts (old new : List (Option Making)) (k : ℕ) (slot : Option Making) : Type 0 where
  pub is : get_or new k None ≡ slot
  pub others : (j : ℕ) → j ≢ k → get_or new j None ≡ get_or old j None

-- a making was put at a place that was free
pub record IsAdded (old new : List (Option Making)) (making : Making) (k : ℕ) : Type 0 where
  pub free : get_or old k None ≡ None
  pub puts : Puts old new k (Some making)

-- a call gives what a making came to, where it is at its end
abbrev pub GivesEnd : WorldValue → Progress → Option (Result Shared RouteError) → Type 0
GivesEnd world progress None = IsGoing progress
GivesEnd world progress (Some end) =
    (binding : Binding) → IsProgressOf world binding progress → GivesReady binding end

-- the making at a place had a turn: it is still that of its profile, and has fewer turns left where it goes
-- on
pub record HasTurn (world : WorldValue) (old new : List (Option Making)) (k : ℕ)
    (end : Option (Result Shared RouteError)) : Type 0 where
  pub before : Making
  pub there : get_or old k None ≡ Some before
  pub after : Making
  pub puts : Puts old new k (Some after)
  pub key_same : after.key ≡ before.key
  pub sound : (binding : Binding) → IsProgressOf world binding before.progress →
      IsProgressOf world binding after.progress
  pub nearer : Nearer world before.progress after.progress
  pub gives : GivesEnd world after.progress end

-- at a place stands the making of a profile, by its place among the stored ones and its overrides, which goes
-- on for so many turns at most
pub record IsAwaited (world : WorldValue) (slots : List (Option Making)) (place : ℕ)
    (overrides : List (List ℕ × ℤ)) (left : ℕ) (k : ℕ) : Type 0 where
  pub making : Making
  pub there : get_or slots k None ≡ Some making
  pub place_is : making.key.place ≡ place
  pub overrides_are : making.key.overrides ≡ overrides
  pub few : left_of world making.progress ≤ left
