use Rattle.std.proofs.Common.{Ok, Err, ap, inl, refl, sym, ◌∙◌}
use Rattle.std.proofs.lemmas.Result.{err_from_is_err_and}
use Rattle.route_ready.specs.Shelves.{shelf_of}
use Rattle.route_ready.specs.Worlds.{WorldValue}
use Rattle.run_files.proofs.StageLemmas.{then-goes, then-stops}
use Rattle.run_files.specs.Chain.{seen_as}
use Rattle.run_files.specs.World.{OfferedValue, offered_of}
use Rattle.run_files.proofs.world.take_world.Goals as goal

pub returns-in_err-shelf : goal.returns-in_err-shelf
returns-in_err-shelf g c =
    let refused = err_from_is_err_and c.from_residual-in_err-shelf.result c.from_residual-in_err-shelf.ensures.1 in
    record {
      taken = then-goes _ _ _ _ _ _ _ (c.in_ok-table.ensures.taken, c.note_file.ensures.noted)
          (then-stops _ _ _ _ _ _ c.in_err-shelf.ensures.taken (ap (seen_as offered_of) (refused.1 ∙ ap Err refused.2)));
    }

pub returns-in_err-roads : goal.returns-in_err-roads
returns-in_err-roads g c =
    let refused = err_from_is_err_and c.from_residual-in_err-roads.result c.from_residual-in_err-roads.ensures.1 in
    record {
      taken = then-goes _ _ _ _ _ _ _ (c.in_ok-table.ensures.taken, c.note_file.ensures.noted) (then-goes _ _ _ _ _ _ _ c.in_ok-shelf.ensures.taken
          (then-stops _ _ _ _ _ _ c.in_err-roads.ensures.taken (ap (seen_as offered_of) (refused.1 ∙ ap Err refused.2))));
    }

pub returns-in_err-heights : goal.returns-in_err-heights
returns-in_err-heights g c =
    let refused = err_from_is_err_and c.from_residual-in_err-heights.result c.from_residual-in_err-heights.ensures.1 in
    record {
      taken = then-goes _ _ _ _ _ _ _ (c.in_ok-table.ensures.taken, c.note_file.ensures.noted) (then-goes _ _ _ _ _ _ _ c.in_ok-shelf.ensures.taken
          (then-goes _ _ _ _ _ _ _ c.in_ok-roads.ensures.taken
          (then-stops _ _ _ _ _ _ c.in_err-heights.ensures.taken (ap (seen_as offered_of) (refused.1 ∙ ap Err refused.2)))));
    }

pub returns-in-Ok : goal.returns-in-Ok
returns-in-Ok g c =
    let offered : WorldValue → OfferedValue = λ world. record { world = world; profiles = shelf_of c.in_ok-shelf.shelf } in
    record {
      taken = then-goes _ _ _ _ _ _ _ (c.in_ok-table.ensures.taken, c.note_file.ensures.noted) (then-goes _ _ _ _ _ _ _ c.in_ok-shelf.ensures.taken
          (then-goes _ _ _ _ _ _ _ c.in_ok-roads.ensures.taken (then-goes _ _ _ _ _ _ _ c.in_ok-heights.ensures.taken
          (record { gives = ap (λ world. Ok (offered world)) (sym c.in-Ok.ensures.value); same = refl }))));
    }

pub returns-in-Err : goal.returns-in-Err
returns-in-Err g c = record {
  taken = then-goes _ _ _ _ _ _ _ (c.in_ok-table.ensures.taken, c.note_file.ensures.noted) (then-goes _ _ _ _ _ _ _ c.in_ok-shelf.ensures.taken
      (then-goes _ _ _ _ _ _ _ c.in_ok-roads.ensures.taken (then-goes _ _ _ _ _ _ _ c.in_ok-heights.ensures.taken
      (record { gives = inl refl; same = refl }))));
}
