use Rattle.std.proofs.Common.{◌≡◌, ◌<◌, sym, subst, length, slice_get, Some}
use Rattle.map_tables.specs.Held.{Held}
use Rattle.map_tables.proofs.ListLemmas.{there}
use Rattle.map_tables.proofs.tables.Tables.member.Goals as goal

pub at-requires : goal.at-requires
at-requires c =
    let here = there c.args.self.now.draft.relations c.args.relation c.requires.fits in
    let is = c.content.ensures.value here.0 (subst
    (λ (held : Held). slice_get held.draft.relations c.args.relation ≡ Some here.0) (sym c.self.view_is) here.1) in
    record { fits = subst (λ members. c.args.member < length members) (sym is) (c.requires.among here.0 here.1) }
