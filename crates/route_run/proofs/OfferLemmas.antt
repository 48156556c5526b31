-- What is offered, and when a hall is that.
use Rattle.std.proofs.Common.{◌≡◌, ℕ, length, ap, refl, sym, ◌∙◌, subst}
use Rattle.hall.specs.State.{Service, State, empty_hall}
use Rattle.route_run.specs.Offer.{IsNew, Offer, offer_over}
use Rattle.run_files.specs.World.{OfferedValue}

-- a hall that is made of a world with profiles is its offer
pub made-offer : (labels : ℕ) (offered : OfferedValue) (service : Service) (state : State) →
    service ≡ record { world = offered.world; given = length offered.profiles; labels = labels } →
    state ≡ empty_hall offered.profiles → ◌≡◌ {A = Offer} (offer_over labels offered) (service, state)
made-offer labels offered service state shared empty =
    ap (λ (s : Service). (s, empty_hall offered.profiles)) (sym shared) ∙ ap (λ (s : State). (service, s)) (sym empty)

-- nobody is connected to it
pub is-new : (labels : ℕ) (offered : OfferedValue) (offer : Offer) → offer_over labels offered ≡ offer → IsNew offer
is-new labels offered offer is = subst IsNew is refl
