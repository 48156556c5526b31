use Rattle.item_list.specs.Pages.{numbers_of}
use Rattle.item_list.proofs.PageLemmas.{listed-empty}
use Rattle.item_list.proofs.paged.Paged.none.Goals as goal

pub returns : goal.returns
returns g c = record { value = listed-empty (numbers_of c.new.result.items) c.args.rest }
