-- The members whose names the front tells.
use Rattle.std.proofs.Common.{zero, [], None, subst, sym}
use Rattle.map_elements.proofs.fields.element.Slots.note_front.Goals as goal
use Rattle.map_elements.specs.Entries.{entries_from}
use Rattle.map_elements.specs.Front.{Fits, behind}
use Rattle.map_elements.specs.Noted.{Noted}

pub note_id-requires : goal.note_id-requires
note_id-requires c = record { none = c.requires.none; fits = subst (λ f. Fits f c.args.left.now) c.in-Id.is c.requires.fits }

pub returns-in-Id : goal.returns-in-Id
returns-in-Id c = record {
  value = subst
      (λ f. Noted c.note_id.new.self (entries_from None [] zero (behind f c.args.left.now)) (entries_from None [] zero c.note_id.new.left))
      (sym c.in-Id.is) c.note_id.ensures.value;
}

pub note_lat-requires : goal.note_lat-requires
note_lat-requires c = record { none = c.requires.none; fits = subst (λ f. Fits f c.args.left.now) c.in-Lat.is c.requires.fits }

pub returns-in-Lat : goal.returns-in-Lat
returns-in-Lat c = record {
  value = subst
      (λ f. Noted c.note_lat.new.self (entries_from None [] zero (behind f c.args.left.now)) (entries_from None [] zero c.note_lat.new.left))
      (sym c.in-Lat.is) c.note_lat.ensures.value;
}

pub note_lon-requires : goal.note_lon-requires
note_lon-requires c = record { none = c.requires.none; fits = subst (λ f. Fits f c.args.left.now) c.in-Lon.is c.requires.fits }

pub returns-in-Lon : goal.returns-in-Lon
returns-in-Lon c = record {
  value = subst
      (λ f. Noted c.note_lon.new.self (entries_from None [] zero (behind f c.args.left.now)) (entries_from None [] zero c.note_lon.new.left))
      (sym c.in-Lon.is) c.note_lon.ensures.value;
}
