-- What is kept of profiles that were made ready (this project's own rule).
use Rattle.std.specs.Prelude.{◌≡◌, ℕ, ℤ, List, Contains, IfSome, None, Some, Result, Ok, Err, get_or, slice_get}
use Rattle.session_answers.specs.declared.kept.KeptProfiles.{KeptProfiles}
use Rattle.session_answers.specs.declared.kept.Wanted.{Wanted}
use Rattle.session_answers.specs.declared.kept.Wanted.TheVariants.{Ready, Making}
use Rattle.session_answers.specs.declared.key.Key.{Key}
use Rattle.session_answers.specs.declared.makings.Making.{Making as TheMaking}
use Rattle.session_answers.specs.Makings.{GivesReady, HaveOneMaking, IsAwaited, IsMakingFrom, making_turns}
use Rattle.session_answers.specs.declared.guides.Guides.{Guides}
use Rattle.session_answers.specs.declared.guides.Target.{Target}
use Rattle.session_answers.specs.declared.kept_profile.KeptProfile.{KeptProfile}
use Rattle.map_guides.specs.Guides.{IsGuideMaking}
use Rattle.map_guides.specs.Hierarchies.{IsHierarchyMaking}
use Rattle.overpass_graph.specs.Maps.{roads_of}
use Rattle.profile_text.specs.Tree.{Sections}
use Rattle.route_ready.specs.Readiness.{IsReadyOf}
use Rattle.route_ready.specs.Worlds.{WorldValue, binding_in}
use Rattle.route_ready.specs.declared.error.RouteError.{RouteError}
use Rattle.route_ready.specs.declared.ready.Ready.{Ready as TheReady}
use Rattle.way_class.specs.Facts.{Binding}
use Rattle.route_ready.specs.Fits.{FitsMap}

-- a profile that is ready was made, for this world, from the stored profile that a key names, under the
-- overrides of the key
pub record IsMadeFrom (world : WorldValue) (stored : List Sections) (key : Key)
    (ready : TheReady) : Type 0 where
  pub sections : Sections
  pub there : slice_get stored key.place ≡ Some sections
  pub ready_is : IsReadyOf (binding_in world sections key.overrides) ready

-- so was what is kept under its key
abbrev pub IsMade : WorldValue → List Sections → Key × KeptProfile → Type 0
IsMade world stored entry = IsMadeFrom world stored entry.0 entry.1.ready.value

-- a guide is made for a profile that was made so under its key, by the facts of that profile
pub record IsTarget (world : WorldValue) (stored : List Sections) (target : Target) : Type 0 where
  pub made : IsMadeFrom world stored target.key target.ready.value
  pub making : IsGuideMaking world.map target.ready.value.bound.value target.making

-- the hierarchy is that of the world's map, as far as it is made, and so it is of the guide that is made now
pub record AreGuides (world : WorldValue) (stored : List Sections) (guides : Guides) : Type 0 where
  pub hierarchy : IsHierarchyMaking (roads_of world.map) guides.hierarchy
  pub target : IfSome guides.target (IsTarget world stored)

-- everything that is kept was made so, each making is that of a stored profile, no profile has two makings
-- under the same overrides, and guides are made for this world
pub record IsKept (world : WorldValue) (stored : List Sections) (kept : KeptProfiles) : Type 0 where
  pub made : (entry : Key × KeptProfile) → Contains kept.cache.entries entry → IsMade world stored entry
  pub makings : (k : ℕ) (making : TheMaking) → get_or kept.makings.slots.items k None ≡ Some making →
      IsMakingFrom world stored making
  pub once : HaveOneMaking kept.makings.slots.items
  pub guides : AreGuides world stored kept.guides

-- whoever waited for a making may still wait for it
abbrev pub StayAwaited : WorldValue → (old new : KeptProfiles) → Type 0
StayAwaited world old new =
    (place : ℕ) (overrides : List (List ℕ × ℤ)) (left k : ℕ) →
    IsAwaited world old.makings.slots.items place overrides left k →
    IsAwaited world new.makings.slots.items place overrides left k

-- what a request comes to that wants a profile: it is ready, or is refused, or its making is to be waited for
abbrev pub IsWanted :
    (world : WorldValue) (binding : Binding) (place : ℕ) (overrides : List (List ℕ × ℤ)) →
    (kept : KeptProfiles) → Result Wanted RouteError → Type 0
IsWanted world binding place overrides kept (Ok (Ready shared)) = GivesReady binding (Ok shared)
IsWanted world binding place overrides kept (Ok (Making k)) =
    IsAwaited world kept.makings.slots.items place overrides (making_turns world) k
IsWanted world binding place overrides kept (Err e) = GivesReady binding (Err e)

-- a profile that is ready fits a world
abbrev pub IsFitting : WorldValue → Wanted → Type 0
IsFitting world (Ready shared) = FitsMap world.map shared.value
IsFitting world (Making k) = Unit {0}
