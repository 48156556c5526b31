-- What making a stored profile ready comes to, before a request names it. This project's own rule.
use Rattle.std.specs.Prelude.{◌≡◌, ◌⊎◌, ℕ, [], List, Some, Result, Ok, Err, slice_get}
use Rattle.profile_text.specs.Tree.{Sections}
use Rattle.route_ready.specs.Entries.{profiles_of}
use Rattle.route_ready.specs.Readiness.{Terms, ready_of}
use Rattle.route_ready.specs.Worlds.{WorldValue, binding_in}
use Rattle.route_ready.specs.declared.error.RouteError.{RouteError}
use Rattle.route_ready.specs.declared.error.RouteError.TheVariants.{NoMemory}
use Rattle.session_answers.specs.Stored.{Stored}
use Rattle.way_class.specs.Facts.{Binding}

-- a profile is ready, or refused, or memory ran out
abbrev pub TellsReady : {T : Type 0} → Binding → Result T RouteError → Type 0
TellsReady binding (Ok done) = (terms : Terms) × (ready_of binding ≡ Ok terms)
TellsReady binding (Err error) = (error ≡ NoMemory) ⊎ (ready_of binding ≡ Err error)

-- so it is told of the stored profile at a place, for a world and without overrides
pub record MakesReady {T : Type 0} (world : WorldValue) (stored : List Stored) (place : ℕ)
    (result : Result T RouteError) : Type 0 where
  pub sections : Sections
  pub there : slice_get (profiles_of stored) place ≡ Some sections
  pub is : TellsReady (binding_in world sections []) result
