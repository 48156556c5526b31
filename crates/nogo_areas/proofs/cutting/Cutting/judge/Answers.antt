use Rattle.std.proofs.Common.{◌≡◌, ◌<◌, ◌∙◌, length, ap, refl, arith}
use Rattle.nogo_areas.specs.Cuts.{is_cut}
use Rattle.nogo_areas.specs.Cuttings.{judged}
use Rattle.nogo_areas.proofs.CuttingLemmas.{as-the-last, judges-more}
use Rattle.nogo_areas.proofs.cutting.Cutting.judge.Goals as goal
use Rattle.nogo_areas.proofs.cutting.Cutting.judge.Goals.{then-link-eq0, else-link-eq0}

pub returns-clause-over : goal.returns-clause-over
returns-clause-over c =
    let old = c.args.self.now in
    let next : c.args.link ≡ judged old = c.requires.next in
    let below : judged old < length c.args.map.now.links = omega (arith, next, c.requires.there) in
    let is : c.if-link-eq0.last ≡ is_cut c.args.map.now c.args.circles.now (judged old) = elim c.if-link-eq0.branch [
      | then-link-eq0 w ↦ w.last-is ∙ w.is_link_cut-last.ensures.exact ∙ ap (is_cut c.args.map.now c.args.circles.now) next
      | else-link-eq0 w ↦
          w.last-is
          ∙ as-the-last c.args.map.now c.args.circles.now old c.requires.over below c.requires.lawful
          (λ even. absurd (omega (arith, w.if-link-eq0, next, even)))
    ] in
    judges-more c.args.map.now c.args.circles.now old c.requires.over below _ refl c.in_ok-push.ensures.items is
