use Rattle.std.proofs.Common.{ap, ◌∙◌, ◌++◌, ◌∷◌, [], List, ℕ}
use Rattle.overpass_graph.proofs.PairLemmas.{laid-more}
use Rattle.overpass_graph.proofs.pairs.Laid.push.Goals as goal

pub returns : goal.returns
returns c = record {
  value = λ nodes is a_in b_in.
      laid-more nodes c.args.self.now _ c.args.a c.args.b (record { way = c.args.way; segment = c.args.segment }) is a_in b_in
      (c.in_ok-push-2.ensures.items ∙ ap (λ (xs : List ℕ). xs ++ c.args.b ∷ []) c.in_ok-push.ensures.items) c.in_ok-push-3.ensures.items;
}
