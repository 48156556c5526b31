use Rattle.std.proofs.lemmas.Result.{on_ok_weaker}
use Rattle.space_search.proofs.HeadLemmas.{heads-set}
use Rattle.space_search.proofs.heads.set_head.Goals as goal

pub returns : goal.returns
returns c =
    record {
      value =
          on_ok_weaker c.set.result
          (λ value. heads-set c.args.heads.now c.set.new.self c.args.slot c.in_ok-pack.field-0 c.args.head value c.in_ok-pack.ensures.value)
          c.set.ensures.value;
    }
