use Rattle.std.proofs.Common.{ap, ◌∙◌}
use Rattle.std.proofs.lemmas.Result.{on_ok_weaker}
use Rattle.space_search.specs.Fronts.{heads_of}
use Rattle.space_search.proofs.HeadLemmas.{heads-zero}
use Rattle.space_search.proofs.heads.renew_heads.Goals as goal

pub returns : goal.returns
returns c =
    record { value = on_ok_weaker c.renew.result (λ value. ap heads_of value ∙ heads-zero c.args.count) c.renew.ensures.value }
