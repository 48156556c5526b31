-- What is true of a hall, by what is kept of it.
use Rattle.std.proofs.Common.{Bool, refl, subst}
use Rattle.hall.proofs.PeerCountLemmas.{counts}
use Rattle.hall.proofs.SoundLemmas.{are_allowed}
use Rattle.hall.proofs.hall.Hall.lawful.Goals as goal
use Rattle.hall.specs.Allowed.{AreAllowed}
use Rattle.hall.specs.Held.{AreFew}
use Rattle.hall.specs.Parts.{IsHeld, count_of, service_in, state_in}
use Rattle.hall.specs.Sound.{IsSound}
use Rattle.hall.specs.View.{HallValue, service_of, state_of}
use Rattle.hall.specs.declared.room.Room.{Room}

-- few are held
held_few : (room : Room) → IsHeld room → (away : Bool) → AreFew (state_in room) away
held_few room held away =
    let peers = room.peers.items in
    (count_of peers away, counts (state_in room) peers away refl held.ascending, held.few away)

pub returns-clause-sound : goal.returns-clause-sound
unfolding state_of service_of
returns-clause-sound c = subst (λ (v : HallValue). IsSound (service_of v) (state_of v)) c.self.view_is c.self.invariant.sound

pub returns-clause-few : goal.returns-clause-few
unfolding state_of
returns-clause-few c =
    subst (λ (v : HallValue). (away : Bool) → AreFew (state_of v) away) c.self.view_is (held_few c.self.inside.room c.self.invariant)

pub returns-clause-allowed : goal.returns-clause-allowed
unfolding state_of service_of
returns-clause-allowed c =
    subst (λ (v : HallValue). AreAllowed (service_of v) (state_of v)) c.self.view_is
    (are_allowed (service_in c.self.inside.room) (state_in c.self.inside.room) c.self.invariant.sound)
