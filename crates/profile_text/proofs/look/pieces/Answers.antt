use Rattle.std.proofs.Common.{◌≡◌, ◌∙◌, ◌++◌, ◌∷◌, [], sym, ap, append_assoc}
use Rattle.profile_text.specs.Look.{pieces}
use Rattle.profile_text.proofs.LookLemmas.{last_piece, next_piece}
use Rattle.profile_text.proofs.look.pieces.Goals as goal

pub returns-then-is_empty : goal.returns-then-is_empty
returns-then-is_empty c =
    let pushed : c.push.new.self ≡ c.pieces.values ++ c.split_at.result.0.now ∷ [] =
    c.in_ok-push.ensures.value ∙ ap (λ v. c.pieces.values ++ v ∷ []) c.in_ok-value.ensures.value in
    record {
      value =
          pushed
          ∙ ap (λ w. c.pieces.values ++ w)
          (sym (last_piece c.pieces.rest.now c.split_at.result.0.now c.split_at.result.1.now c.len_before.result
          c.len_before.ensures.value c.split_at.ensures.front c.split_at.ensures.back c.if-is_empty.ensures))
          ∙ sym c.pieces.invariant;
    }

pub pieces-preserved : goal.pieces-preserved
pieces-preserved c =
    let pushed : c.push.new.self ≡ c.pieces.values ++ c.split_at.result.0.now ∷ [] =
    c.in_ok-push.ensures.value ∙ ap (λ v. c.pieces.values ++ v ∷ []) c.in_ok-value.ensures.value in
    c.pieces.invariant
    ∙ ap (λ w. c.pieces.values ++ w)
    (next_piece c.pieces.rest.now c.split_at.result.0.now c.split_at.result.1.now c.split_at-in-pieces.result.1.now c.len_before.result
    c.len_before.ensures.value c.split_at.ensures.front c.split_at.ensures.back c.if-is_empty.ensures c.split_at-in-pieces.ensures.back)
    ∙ sym (append_assoc c.pieces.values (c.split_at.result.0.now ∷ []) (pieces c.split_at-in-pieces.result.1.now))
    ∙ ap (λ w. w ++ pieces c.split_at-in-pieces.result.1.now) (sym pushed)
