use Rattle.std.proofs.Common.{◌∙◌, ap, arith, length, slice_get, sym}
use Rattle.std.proofs.lemmas.Option.{get_or_from_slice_get, slice_get_within}
use Rattle.map_tables.proofs.TagLemmas.{tags_in-own}
use Rattle.map_tables.proofs.tag_lists.TagLists.list.Goals as goal

pub index-requires : goal.index-requires
index-requires c =
    let own = c.is_own.ensures.yes c.if-is_own.true in
    omega (
      arith,
      slice_get_within c.args.self.now c.args.list _ own.is,
      ap length c.self.view_is,
      c.self.inside.lists.ok.0,
    )

pub returns-then-is_own : goal.returns-then-is_own
returns-then-is_own c =
    let own = c.is_own.ensures.yes c.if-is_own.true in
    record {
      value = ap (λ p. p.1) (c.index.ensures
          ∙ get_or_from_slice_get c.self.inside.lists.items c.args.list (c.args.place, own.tags) _
          (ap (λ lists. slice_get lists c.args.list) c.self.view_is ∙ own.is))
          ∙ sym (tags_in-own c.args.self.now c.args.place c.args.list own.tags own.is);
    }
