use Rattle.std.proofs.Common.{◌∙◌, ◌%◌, ◌<◌, ◌≤◌, length, get_or, ap, arith}
use Rattle.item_list.proofs.PageLemmas.{page-within, place-within, read-rest, read-there}
use Rattle.item_list.proofs.paged.Paged.get.Goals as goal

pub index-page-requires : goal.index-page-requires
index-page-requires g c =
    let it = c.self.inside in
    let within = place-within it.rest it.count c.args.place it.pages.items c.args.self.now c.self.view_is c.requires.in_range in
    omega (arith, page-within it.count c.args.place it.pages.items c.self.invariant within, it.pages.ok.0)

pub returns-then-at-len : goal.returns-then-at-len
returns-then-at-len g c =
    let it = c.self.inside in
    let v = c.index-page.result.now in
    let within = place-within it.rest it.count c.args.place it.pages.items c.args.self.now c.self.view_is c.requires.in_range in
    let page_in = page-within it.count c.args.place it.pages.items c.self.invariant within in
    let in_page : c.args.place % 1024 < length v.items = omega (arith, c.if-at-len.true, c.len.ensures, v.ok.0) in
    record {
      value = read-there it.rest it.count c.args.place it.pages.items v c.index.result.now within page_in
          c.index-page.ensures in_page c.index.ensures
          ∙ ap (λ xs. get_or xs c.args.place c.index.result.now) c.self.view_is;
    }

pub returns-else-at-len : goal.returns-else-at-len
returns-else-at-len g c =
    let it = c.self.inside in
    let v = c.index-page.result.now in
    let within = place-within it.rest it.count c.args.place it.pages.items c.args.self.now c.self.view_is c.requires.in_range in
    let page_in = page-within it.count c.args.place it.pages.items c.self.invariant within in
    let beyond : length v.items ≤ c.args.place % 1024 = omega (arith, c.if-at-len.false, c.len.ensures, v.ok.0) in
    record {
      value = read-rest it.rest it.count c.args.place it.pages.items v within page_in c.index-page.ensures beyond
          ∙ ap (λ xs. get_or xs c.args.place it.rest) c.self.view_is;
    }
