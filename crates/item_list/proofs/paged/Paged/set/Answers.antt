use Rattle.std.proofs.Common.{◌∙◌, set, ap, refl}
use Rattle.item_list.specs.Pages.{numbers_of}
use Rattle.item_list.proofs.PageLemmas.{opened-within, page-within, place-within, set-listed, set-pages, sets-one}
use Rattle.item_list.proofs.paged.Paged.set.Goals as goal

pub open_page-requires : goal.open_page-requires
open_page-requires g c =
    let it = c.self.inside in
    let within = place-within it.rest it.count c.args.place it.pages.items c.args.self.now c.self.view_is c.requires.in_range in
    record { in_range = page-within it.count c.args.place it.pages.items c.self.invariant within }

pub returns : goal.returns
returns g c =
    let it = c.self.inside in
    let within = place-within it.rest it.count c.args.place it.pages.items c.args.self.now c.self.view_is c.requires.in_range in
    let opens = c.in_ok-open_page.ensures.value in
    let page_in = opened-within it.rest it.count c.args.place it.pages.items c.open_page.new.pages.items c.self.invariant within opens in
    let sets = sets-one it.rest c.args.place c.args.number c.open_page.new.pages.items c.index_mut.result.now _ page_in
    c.index_mut.ensures.value refl in
    record {
      value = set-listed it.rest it.count c.args.place c.args.number (numbers_of it.pages.items)
          (numbers_of c.open_page.new.pages.items) _ c.self.invariant within opens sets
          ∙ ap (λ xs. set xs c.args.place c.args.number) c.self.view_is;
      kept = tt;
    }

pub invariant_of-self-2 : goal.invariant_of-self-2
invariant_of-self-2 g c =
    let it = c.self.inside in
    let within = place-within it.rest it.count c.args.place it.pages.items c.args.self.now c.self.view_is c.requires.in_range in
    let opens = c.in_ok-open_page.ensures.value in
    let page_in = opened-within it.rest it.count c.args.place it.pages.items c.open_page.new.pages.items c.self.invariant within opens in
    let sets = sets-one it.rest c.args.place c.args.number c.open_page.new.pages.items c.index_mut.result.now _ page_in
    c.index_mut.ensures.value refl in
    set-pages it.rest it.count c.args.place c.args.number (numbers_of it.pages.items)
    (numbers_of c.open_page.new.pages.items) _ c.self.invariant within opens sets
