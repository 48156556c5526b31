use Rattle.item_list.proofs.PageLemmas.{opens-one}
use Rattle.item_list.proofs.paged.make_page.Goals as goal

pub returns : goal.returns
returns g c = record {
  value = opens-one c.args.rest c.args.page c.args.pages.now.items c.in_ok-pages.field-0 c.requires.in_range c.requires.none
      c.in_ok-pages.ensures.value;
  kept = tt;
}
