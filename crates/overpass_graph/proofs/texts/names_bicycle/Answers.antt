use Rattle.std.proofs.Common.{◌≡◌, ◌∙◌, sym}
use Rattle.overpass_graph.specs.Restrictions.{names_bicycle, pieces}
use Rattle.overpass_graph.proofs.TextLemmas.{bicycle-here, bicycle-nowhere, bicycle-behind, piece-end}
use Rattle.overpass_graph.proofs.texts.names_bicycle.Goals as goal

pub returns-then-is_bicycle : goal.returns-then-is_bicycle
returns-then-is_bicycle c = record {
  value = sym (bicycle-here c.pieces.rest.now c.len_before-end.result (piece-end _ _ c.len_before-end.ensures.value) c.len_before-end.ensures.fits
      (sym c.is_bicycle.ensures.value ∙ c.if-is_bicycle.true)) ∙ c.pieces.invariant;
}

pub returns-then-end-rest : goal.returns-then-end-rest
returns-then-end-rest c = record {
  value = sym (bicycle-nowhere c.pieces.rest.now c.len_before-end.result (piece-end _ _ c.len_before-end.ensures.value) c.if-end-rest.true
      c.len_before-end.ensures.fits
      (sym c.is_bicycle.ensures.value ∙ c.if-is_bicycle.false)) ∙ c.pieces.invariant;
}

pub pieces-preserved : goal.pieces-preserved
pieces-preserved c =
    let same : names_bicycle (pieces c.behind-rest.result.now) ≡ names_bicycle (pieces c.pieces.rest.now) =
    rw c.behind-rest.ensures.value (sym
    (bicycle-behind c.pieces.rest.now c.len_before-end.result (piece-end _ _ c.len_before-end.ensures.value) c.if-end-rest.false
    (sym c.is_bicycle.ensures.value ∙ c.if-is_bicycle.false))) in
    same ∙ c.pieces.invariant
