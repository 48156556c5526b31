use Rattle.std.proofs.Common.{inl, length, ap, arith}
use Rattle.std.proofs.lemmas.List.{length-map}
use Rattle.item_list.specs.Pages.{numbers_of}
use Rattle.item_list.proofs.PageLemmas.{listed-none}
use Rattle.item_list.proofs.paged.Paged.new.Goals as goal

pub invariant_of-result : goal.invariant_of-result
invariant_of-result g c = record {
  enough = λ place within. rw length-map (omega (arith, c.pages.invariant.counted, c.pages-test.false, within));
  whole = λ page within. inl (ap length (c.pages.invariant.none page));
}

pub returns : goal.returns
returns g c = record { value = listed-none (numbers_of c.pages.pages.items) c.args.rest c.args.count c.pages.invariant.none }
