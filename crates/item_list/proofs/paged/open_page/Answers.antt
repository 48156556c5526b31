use Rattle.std.proofs.Common.{◌≡◌, ◌∙◌, IsTrue, nat_eq, sym, arith}
use Rattle.std.proofs.lemmas.Bool.Decides.{nat_tests}
use Rattle.std.specs.Vec.{vec_len}
use Rattle.item_list.proofs.PageLemmas.{page-empty}
use Rattle.item_list.proofs.paged.open_page.Goals as goal

pub make_page-requires : goal.make_page-requires
make_page-requires g c =
    let v = c.index.result.now in
    let is_zero : IsTrue (nat_eq (vec_len v) 0) = sym c.is_empty.ensures ∙ c.if-is_empty.true in
    let none : vec_len v ≡ 0 = grind (arith, nat_tests) in
    record {
      in_range = c.requires.in_range;
      none = page-empty c.args.pages.now.items c.args.page v c.requires.in_range c.index.ensures (omega (arith, none, v.ok.0));
    }
