use Rattle.std.proofs.Common.{◌≡◌, ◌≤◌, Ok, List, ap, length, refl, subst, sym}
use Rattle.command_words.specs.Given.{Named}
use Rattle.route_run.proofs.ReadyLemmas.{new-as}
use Rattle.route_run.specs.Offer.{MakesReady, Offer, offer_of, offer_over}
use Rattle.route_run.specs.Readying.{ReadiesFirst}
use Rattle.run_files.proofs.StageLemmas.{then-goes, then-stops}
use Rattle.run_files.specs.Chain.{Settles}
use Rattle.run_files.specs.Notes.{inputs}
use Rattle.run_files.specs.World.{offered_of}
use Rattle.route_run.proofs.offer.readied.Goals as goal

pub make_ready-requires : goal.make_ready-requires
make_ready-requires g c =
    let labels = c.args.command.now.labels in
    let offered = offered_of c.args.offered in
    let is : Ok (offer_over labels offered) ≡ Ok (offer_of c.in-Ok.hall) = c.in-Ok.ensures.exact in
    let opened : offer_over labels offered ≡ offer_of c.in-Ok.hall = cc in
    record {
      new = c.in-Ok.ensures.new;
      stored = subst (λ (o : Offer). length c.as_slice.result.now ≤ length o.1.stored) opened
          (subst (λ (files : List Named). length files ≤ length offered.profiles) (sym c.as_slice.ensures.value) c.requires.stored);
    }

pub returns-in-Ok : goal.returns-in-Ok
returns-in-Ok g c =
    let before = c.args.notes.now in
    let after = c.make_ready.new.notes in
    let old = offer_of c.in-Ok.hall in
    record {
      exact = λ seen.
          then-goes (Settles (Ok (offer_over c.args.command.now.labels (offered_of c.args.offered)))) (MakesReady c.args.command.now.profiles)
          (inputs seen before) (inputs seen before) (inputs seen after) (Ok (offer_of c.make_ready.new.hall)) old
          (record { gives = c.in-Ok.ensures.exact; same = refl })
          (record {
            readied = subst (λ (files : List Named). ReadiesFirst old.0.world old.1.stored files before after) c.as_slice.ensures.value
                c.make_ready.ensures.readied;
            same = refl;
            gives = ap Ok c.make_ready.ensures.same;
          });
      new = new-as old (offer_of c.make_ready.new.hall) c.make_ready.ensures.same c.in-Ok.ensures.new;
    }

pub returns-in-Err : goal.returns-in-Err
returns-in-Err g c = record {
  exact = λ seen.
      then-stops (Settles (Ok (offer_over c.args.command.now.labels (offered_of c.args.offered)))) (MakesReady c.args.command.now.profiles)
      (inputs seen c.args.notes.now) (inputs seen c.args.notes.now) _ c.in-Err.status (record { gives = c.in-Err.ensures.exact; same = refl }) refl;
  new = tt;
}
