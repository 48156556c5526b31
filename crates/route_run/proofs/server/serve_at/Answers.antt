use Rattle.std.proofs.Common.{ℕ, List, refl, subst, sym}
use Rattle.command_words.specs.Command.{address_of}
use Rattle.route_run.specs.Offer.{offer_of}
use Rattle.route_run.specs.Serving.{IsServedAt as serves}
use Rattle.route_run.specs.Serving.{listen_note}
use Rattle.run_files.specs.Notes.{IsNoted}
use Rattle.route_run.proofs.server.serve_at.Goals as goal

pub returns-in-Ok : goal.returns-in-Ok
returns-in-Ok g c = record {
  exact = subst (serves (address_of c.args.command.now.listen) c.args.command.now.hangup c.args.command.now.turns
      (offer_of c.args.hall) (g.H.Hub.seen c.args.hub.now) (g.H.Hub.seen c.served.new.hub) c.args.notes.now c.note.new.self)
      (sym c.status_of_end.ensures.exact) (serves.served c.in-Ok.ensures.value
      (subst (λ (address : List ℕ). IsNoted (listen_note address) c.args.notes.now c.note.new.self) c.address.ensures.exact
      (c.note.ensures.noted (listen_note c.address.result.now) c.listen_line.ensures.exact)) c.served.ensures.exact);
}

pub returns-in-Err : goal.returns-in-Err
returns-in-Err g c = record { exact = serves.shut c.in-Err.ensures.kept refl }
