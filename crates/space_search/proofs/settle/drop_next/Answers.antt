use Rattle.space_search.proofs.DropLemmas.{drops}
use Rattle.space_search.proofs.settle.drop_next.Goals as goal

pub returns : goal.returns
returns g c =
    record {
      drops =
          drops _ _ c.args._number c.args._label _
          (record {
            search = c.requires.kept;
            closed = c.requires.closed;
            next = c.requires.next;
            popped = c.pop.ensures.takes _ c.requires.next.first;
          })
          c.requires.covered;
    }
