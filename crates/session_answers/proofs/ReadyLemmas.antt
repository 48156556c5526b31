-- What is given of what is kept is the profile made ready.
use Rattle.std.proofs.Common.{◌≡◌, inl, ℕ, ℤ, List, Option, Some, Result, Ok, Err, IfErr, IfOk, slice_get, sym, ap, ◌∙◌, subst}
use Rattle.session_answers.specs.Kept.{IsMadeFrom}
use Rattle.session_answers.specs.Makings.{GivesReady, Shared}
use Rattle.session_answers.specs.declared.key.Key.{Key}
use Rattle.profile_text.specs.Tree.{Sections}
use Rattle.route_ready.specs.Readiness.{IsReadyOf}
use Rattle.route_ready.specs.Worlds.{WorldValue, binding_in}
use Rattle.route_ready.specs.declared.error.RouteError.{RouteError}
use Rattle.route_ready.specs.declared.error.RouteError.TheVariants.{NoMemory}
use Rattle.route_ready.specs.declared.ready.Ready.{Ready}
use Rattle.way_class.specs.Facts.{Binding}

-- a shared profile that is ready, or want of memory
pub gives-ready : (binding : Binding) (ready : Ready) (result : Result Shared RouteError) → IsReadyOf binding ready →
    IfOk result (λ (shared : Shared). shared.value ≡ ready) → IfErr result (λ e. e ≡ NoMemory) → GivesReady binding result
gives-ready binding ready (Ok shared) is same cause = subst (IsReadyOf binding) (sym same) is
gives-ready binding ready (Err e) is same cause = inl cause

-- the profile at a place is one
sections-same : (seen : Option Sections) (a b : Sections) → seen ≡ Some a → seen ≡ Some b → a ≡ b
sections-same seen a b first second = cc

-- what was made under a key is ready for the profile at its place under its overrides
pub ready-under : (world : WorldValue) (stored : List Sections) (key : Key) (place : ℕ) (overrides : List (List ℕ × ℤ)) (sections :
    Sections)
    (ready : Ready) → (key.place ≡ place) × (key.overrides ≡ overrides) → slice_get stored place ≡ Some sections →
    IsMadeFrom world stored key ready → IsReadyOf (binding_in world sections overrides) ready
ready-under world stored key place overrides sections ready is there made =
    let same : made.sections ≡ sections =
    sections-same (slice_get stored place) made.sections sections (sym (ap (slice_get stored) is.0) ∙ made.there) there in
    subst (λ s. IsReadyOf (binding_in world s overrides) ready) same
    (subst (λ o. IsReadyOf (binding_in world made.sections o) ready) is.1 made.ready_is)

-- what is ready under the overrides of a key was made from the profile at its place
pub made-from : (world : WorldValue) (stored : List Sections) (key : Key) (overrides : List (List ℕ × ℤ)) (sections : Sections)
    (ready : Ready) → key.overrides ≡ overrides → slice_get stored key.place ≡ Some sections →
    IsReadyOf (binding_in world sections overrides) ready → IsMadeFrom world stored key ready
made-from world stored key overrides sections ready same there is = record {
  sections = sections;
  there = there;
  ready_is = subst (λ o. IsReadyOf (binding_in world sections o) ready) (sym same) is;
}
