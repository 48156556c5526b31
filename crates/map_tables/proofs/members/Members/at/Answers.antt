use Rattle.std.proofs.Common.{◌∙◌, ◌<◌, ap, sym, subst, length, arith, option_map, slice_get, Some, refl, List, ℕ}
use Rattle.std.proofs.lemmas.List.{length-map}
use Rattle.std.proofs.lemmas.Option.{slice_get-map, slice_get_read}
use Rattle.map_tables.specs.Rows.{member_of, LiesWithin}
use Rattle.map_tables.proofs.MemberLemmas.{LieWithin-at}
use Rattle.map_tables.proofs.members.Members.at.Goals as goal

pub lent-requires : goal.lent-requires
lent-requires c =
    let below : c.args.place < length c.self.inside.rows.items =
    omega (
      arith,
      c.requires.fits,
      ap length c.self.view_is,
      length-map c.self.inside.rows.items (member_of c.self.inside.words.items),
    ) in
    record {
      within = subst (λ (words : List ℕ). LiesWithin (length words) c.index.result.now) (sym c.as_slice.ensures.value)
          (LieWithin-at (length c.self.inside.words.items) c.self.inside.rows.items c.args.place c.index.result.now
          c.self.invariant.within (slice_get_read c.self.inside.rows.items _ c.args.place c.index.result.now refl below
          c.index.ensures));
    }

pub returns : goal.returns
returns c = record {
  value =
      let below : c.args.place < length c.self.inside.rows.items =
      omega (
        arith,
        c.requires.fits,
        ap length c.self.view_is,
        length-map c.self.inside.rows.items (member_of c.self.inside.words.items),
      ) in
      ap (λ members. slice_get members c.args.place) (sym c.self.view_is)
      ∙ slice_get-map (member_of c.self.inside.words.items) c.self.inside.rows.items c.args.place
      ∙ ap (option_map (member_of c.self.inside.words.items))
      (slice_get_read c.self.inside.rows.items _ c.args.place c.index.result.now refl below c.index.ensures)
      ∙ ap Some (sym (c.lent.ensures.value
      ∙ ap (λ words. member_of words c.index.result.now) c.as_slice.ensures.value));
}
