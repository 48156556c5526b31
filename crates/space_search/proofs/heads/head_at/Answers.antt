use Rattle.space_search.proofs.HeadLemmas.{head-said}
use Rattle.space_search.proofs.heads.head_at.Goals as goal

pub returns : goal.returns
returns c =
    record {
      value =
          head-said c.args.heads.now c.args.slot c.get-code.result c.unpack.result c.requires.within c.get-code.ensures.value
          c.unpack.ensures.value;
    }
