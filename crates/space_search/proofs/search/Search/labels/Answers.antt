use Rattle.std.proofs.Common.{arith}
use Rattle.space_search.specs.Books.{books}
use Rattle.space_search.proofs.ShownLemmas.{shown-count}
use Rattle.space_search.proofs.search.Search.labels.Goals as goal

pub returns : goal.returns
returns g c =
    let of = c.requires.of in
    record {
      value =
          omega (
            arith,
            c.len.ensures,
            c.args.self.now.lists.settled.ok.0,
            shown-count of.0 (books c.args.self.now.lists) of.1.stands.reads,
          );
    }
