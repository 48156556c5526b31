use Rattle.std.proofs.Common.{◌≡◌}
use Rattle.hall.specs.View.{service_of, state_of}
use Rattle.route_run.proofs.ReadyLemmas.{GoesReady}
use Rattle.route_run.specs.Offer.{offer_of}
use Rattle.route_run.proofs.readying.make_each_ready.Given as goal

abbrev pub invariant-profiles : goal.invariant-profiles
invariant-profiles g l = record {
  same : offer_of l.hall ≡ offer_of l.initial.hall;
  goes : GoesReady (service_of l.initial.hall).world (state_of l.initial.hall).stored l.profiles l.initial.notes l.place l.notes;
}
