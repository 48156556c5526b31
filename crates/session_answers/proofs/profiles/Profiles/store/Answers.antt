use Rattle.std.proofs.Common.{ap, refl, ◌∙◌}
use Rattle.lookup_table.specs.Tag.{name_place}
use Rattle.route_ready.specs.Shelves.{shelf_of}
use Rattle.route_ready.specs.Entries.{names_of}
use Rattle.session_answers.proofs.StoredLemmas.{next_new}
use Rattle.session_answers.proofs.profiles.Profiles.store.Goals as goal

pub add-requires : goal.add-requires
add-requires c =
    let p = c.args.self.now in
    record {
      new = ap (name_place (names_of (shelf_of p.shelf))) c.requires.named ∙ next_new p.given (shelf_of p.shelf) p.stored;
    }

pub returns-in-Ok : goal.returns-in-Ok
returns-in-Ok c = record { value = c.in-Ok.ensures.value; kept = tt; given = refl }

pub returns-in-Err : goal.returns-in-Err
returns-in-Err c = record { value = tt; kept = c.in-Err.ensures.kept; given = refl }
