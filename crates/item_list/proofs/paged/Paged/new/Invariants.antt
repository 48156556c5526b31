use Rattle.std.proofs.Common.{◌≡◌, ℕ, [], length}
use Rattle.item_list.specs.Pages.{numbers_of, page_at}
use Rattle.item_list.proofs.paged.Paged.new.Given as goal

abbrev pub invariant-pages : goal.invariant-pages
invariant-pages g l = record {
  counted : length l.pages.items ≡ l.made;
  none : (page : ℕ) → page_at (numbers_of l.pages.items) page ≡ [];
}
