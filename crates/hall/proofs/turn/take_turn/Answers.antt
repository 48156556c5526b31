-- Whom the hub holds after an event.
use Rattle.std.proofs.Common.{◌∷◌, [], refl, subst}
use Rattle.edge_io.specs.Acts.{Gave}
use Rattle.edge_io.specs.Hub.{Tells, bytes_given}
use Rattle.edge_io.specs.declared.event.Event.{Event}
use Rattle.edge_io.specs.declared.event.Event.TheVariants.{Over}
use Rattle.hall.specs.View.{state_of}
use Rattle.hall.proofs.LiveLemmas.{AreLive-kept, heard}
use Rattle.hall.proofs.turn.take_turn.Goals as goal

pub follow-requires : goal.follow-requires
follow-requires g c = record {
  goes_on = c.in_default.not-Over;
  heard =
      heard (state_of c.args.hall.now) (g.H.Hub.seen c.args.hub.now) (g.H.Hub.seen c.next.new.self) c.in-Ok.event
      (bytes_given c.in-Ok.event c.next.new.buf) c.requires.live c.in-Ok.ensures.value.acts;
}

pub returns-in-Over-clause-live : goal.returns-in-Over-clause-live
returns-in-Over-clause-live g c =
    let s = state_of c.args.hall.now in
    let old = g.H.Hub.seen c.args.hub.now in
    let new = g.H.Hub.seen c.next.new.self in
    AreLive-kept s old new (Gave Over []) (λ id. refl)
    (subst (λ (event : Event). Tells old.acts new.acts (Gave event (bytes_given event c.next.new.buf) ∷ [])) c.in-Over.is
    c.in-Ok.ensures.value.acts)
    c.requires.live
