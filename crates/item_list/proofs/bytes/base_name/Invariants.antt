use Rattle.item_list.proofs.PathLemmas.{IsPlainFrom}
use Rattle.item_list.proofs.bytes.base_name.Given as goal

abbrev pub invariant-back : goal.invariant-back
invariant-back l = IsPlainFrom l.path l.start

abbrev pub decreases-back : goal.decreases-back
decreases-back l = l.start
