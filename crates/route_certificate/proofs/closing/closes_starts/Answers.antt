use Rattle.std.proofs.Common.{◌≡◌, ◌∙◌, ℕ, inl, inr, Some, ap, sym, subst, arith}
use Rattle.std.proofs.lemmas.Bool.{cases_eq}
use Rattle.cost_model.specs.declared.parts.Carry.{Carry}
use Rattle.bike_space.specs.Closed.{IsCoveredBelow}
use Rattle.route_certificate.specs.Entries.{labels_of}
use Rattle.route_certificate.proofs.closing.closes_starts.Goals.{in-Some+else-not-is_covered_or_dear, in_default}
use Rattle.route_certificate.proofs.closing.closes_starts.Goals as goal

pub starts-preserved : goal.starts-preserved
starts-preserved g c number state cost below is =
    let rules = g.S.Space.rules c.args.space.now in
    elim (cases_eq number c.starts.number) [
      | inl same ↦
          let here : c.start.result ≡ Some (state, cost) = c.start.ensures.value ∙ ap rules.start (sym same) ∙ is in
          elim c.match-start.branch [
            | in-Some+else-not-is_covered_or_dear w ↦
                let found : Some (w.in-Some.state, w.in-Some.cost) ≡ Some (state, cost) = sym w.in-Some.is ∙ here in
                let pair : (w.in-Some.state, w.in-Some.cost) ≡ (state, cost) = cc in
                subst (λ (e : Carry × ℕ).
                IsCoveredBelow rules c.args.least (labels_of c.args.entries.now) e.0 e.1) pair
                (w.is_covered_or_dear.ensures.exact.0 w.if-not-is_covered_or_dear.false)
            | in_default w ↦ absurd (w.in_default.not-Some _ here)
          ]
      | inr other ↦ c.starts.invariant number state cost (omega (arith, below, other)) is
    ]
