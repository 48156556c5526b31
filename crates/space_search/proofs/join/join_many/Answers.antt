use Rattle.std.proofs.lemmas.Result.{on_ok_weaker}
use Rattle.space_search.proofs.ThinLemmas.{gains-added}
use Rattle.space_search.proofs.join.join_many.Goals as goal

pub returns : goal.returns
returns g c =
    record {
      gains =
          on_ok_weaker c.put_into.result
          (λ adds. gains-added _ _ _ _ _ c.thin_front.ensures.thins adds)
          c.put_into.ensures.adds;
      floors = c.put_into.ensures.floors;
    }

pub put_into-requires-clause-each : goal.put_into-requires-clause-each
put_into-requires-clause-each g c one h = c.requires.each one (c.thin_front.ensures.thins.from one h)
