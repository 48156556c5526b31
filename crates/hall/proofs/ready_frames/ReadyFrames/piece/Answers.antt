use Rattle.std.proofs.Common.{◌≡◌, ◌∙◌, Bor, List, MatchOption, ap, subst, sym, ℕ}
use Rattle.hall.proofs.ready_frames.ReadyFrames.piece.Goals as goal
use Rattle.hall.specs.Parts.{phase_in}
use Rattle.hall.specs.Sends.{IsPiece}
use Rattle.hall.specs.State.{Answered, Phase}

pub returns-in-Answered : goal.returns-in-Answered
returns-in-Answered c =
    let same : phase_in c.args.phase.now ≡ Answered c.bytes.result.now c.in-Answered.sent =
    ap phase_in c.in-Answered.is ∙ ap (λ (f : List ℕ). Answered f c.in-Answered.sent) (sym c.bytes.ensures.value) in
    record {
      value =
          subst (λ (p : Phase). MatchOption c.unsent.result ((piece : List ℕ) → IsPiece p piece →
          ⊥) (λ (q : Bor (List ℕ)). IsPiece p q.now)) (sym same)
          c.unsent.ensures.value;
    }
