-- What is told of a request that is refused, and by what it comes to.
use Rattle.std.proofs.Common.{◌≡◌, ◌⊎◌, inl, inr, Result, Ok, Err, sym, subst}
use Rattle.made_routes.specs.Errors.{route_error}
use Rattle.made_routes.specs.Made.{Makes}
use Rattle.made_routes.specs.declared.error.MadeError.{MadeError}
use Rattle.made_routes.specs.declared.error.MadeError.TheVariants.{Route, NoMemory}
use Rattle.route_ready.specs.declared.error.RouteError.{RouteError}
use Rattle.route_ready.specs.declared.error.RouteError.TheVariants as refusal

-- the refusal of a request, or want of memory, is told as such
pub route-told : {T : Type 0} (Is : T → Type 0) (Refuses : RouteError → Type 0) (error : RouteError) (told : MadeError) →
    told ≡ route_error error →
    (error ≡ refusal.NoMemory) ⊎ Refuses error → Makes {T = T} Is Refuses (Err told)
route-told {T} Is Refuses error told is cause = subst (λ (m : MadeError). Makes {T = T} Is Refuses (Err m)) (sym is) (go error cause)
  where
    go : (error : RouteError) → (error ≡ refusal.NoMemory) ⊎ Refuses error → Makes {T = T} Is Refuses (Err (route_error error))
    go refusal.NoMemory cause = tt
    go refusal.UnknownProfile (inl same) = absurd (cc)
    go refusal.UnknownProfile (inr is) = is
    go (refusal.Check e) (inl same) = absurd (cc)
    go (refusal.Check e) (inr is) = is
    go (refusal.GlobalFault variable kind) (inl same) = absurd (cc)
    go (refusal.GlobalFault variable kind) (inr is) = is
    go (refusal.Rate e) (inl same) = absurd (cc)
    go (refusal.Rate e) (inr is) = is
    go (refusal.Bind e) (inl same) = absurd (cc)
    go (refusal.Bind e) (inr is) = is
    go (refusal.NotMapped waypoint) (inl same) = absurd (cc)
    go (refusal.NotMapped waypoint) (inr is) = is
    go (refusal.NoTrack leg) (inl same) = absurd (cc)
    go (refusal.NoTrack leg) (inr is) = is
    go (refusal.Budget leg alternative) (inl same) = absurd (cc)
    go (refusal.Budget leg alternative) (inr is) = is

-- what is told by answers and refusals that come to others
pub tells-by : {T : Type 0} (Is Becomes : T → Type 0) (Refuses Comes : RouteError → Type 0) (result : Result T MadeError) →
    ((answer : T) → Is answer → Becomes answer) → ((error : RouteError) → Refuses error → Comes error) → Makes Is Refuses result →
    Makes Becomes Comes result
tells-by Is Becomes Refuses Comes (Ok answer) answers refuses told = answers answer told
tells-by Is Becomes Refuses Comes (Err (Route error)) answers refuses told = refuses error told
tells-by Is Becomes Refuses Comes (Err NoMemory) answers refuses told = tt
