use Rattle.std.proofs.Common.{refl, ap, ◌∙◌, ℕ, ◌+◌, length}
use Rattle.route_http.proofs.HeadLemmas.{tells_request}
use Rattle.route_http.proofs.target.whole.Goals as goal

pub returns : goal.returns
returns c = record {
  exact = λ r reads method path. (
    tells_request c.args.head.now r reads _ (c.breaks_len.result + length c.of-name.result.now + 1) c.of-name.result.now
        c.of-target.result.now _ _ _
        refl (c.of-name.ensures ∙ method) (c.of-target.ensures ∙ path)
        (ap (λ (n : ℕ). n + length c.of-name.result.now + 1) c.breaks_len.ensures.exact)
        c.of.ensures.exact c.path_at.ensures.exact c.query_at.ensures.exact,
    refl,
  );
}
