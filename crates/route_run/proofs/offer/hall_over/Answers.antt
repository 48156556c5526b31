use Rattle.std.proofs.Common.{Ok, ap}
use Rattle.hall.specs.View.{service_of, state_of}
use Rattle.route_run.proofs.OfferLemmas.{is-new, made-offer}
use Rattle.run_files.specs.World.{offered_of}
use Rattle.route_run.proofs.offer.hall_over.Goals as goal

pub returns-in-Ok : goal.returns-in-Ok
returns-in-Ok c =
    let hall = c.in-Ok.hall in
    let made = made-offer c.args.labels (offered_of c.args.offered) (service_of hall) (state_of hall) c.in-Ok.ensures.service c.in-Ok.ensures.empty in
    record { exact = ap Ok made; new = is-new c.args.labels (offered_of c.args.offered) (service_of hall, state_of hall) made }
