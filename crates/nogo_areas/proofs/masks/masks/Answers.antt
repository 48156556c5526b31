use Rattle.std.proofs.Common.{ℕ, ◌∷◌, [], get_or, ap, sym, subst, ◌∙◌, arith, below_more}
use Rattle.std.proofs.lemmas.List.{get_or_push, get_or_append_left}
use Rattle.nogo_areas.specs.Fences.{HasReached}
use Rattle.nogo_areas.proofs.masks.masks.Goals as goal

pub steps-preserved : goal.steps-preserved
steps-preserved c =
    let before = c.steps.masks.items in
    let Reached : ℕ → ℕ → Type 0 = λ step mask. HasReached c.args.scale c.args.bounds.now step mask in
    record {
      long = omega (arith, c.in_ok-push.ensures.len, c.steps.invariant.long);
      sound = below_more (λ step. Reached step (get_or c.push.new.self.items step 0)) c.steps.step
          (λ step below. subst (Reached step)
          (sym (ap (λ masks. get_or masks step 0) c.in_ok-push.ensures.items
          ∙ get_or_append_left before (c.reached.result ∷ []) 0 step (omega (arith, below, c.steps.invariant.long))))
          (c.steps.invariant.sound step below))
          (subst (Reached c.steps.step)
          (sym (ap (λ masks. get_or masks c.steps.step 0) c.in_ok-push.ensures.items
          ∙ get_or_push before c.reached.result 0 c.steps.step c.steps.invariant.long))
          c.reached.ensures.sound);
    }

pub returns : goal.returns
returns c = record {
  long = omega arith;
  sound = λ step below. c.steps.invariant.sound step (omega (arith, below, c.steps-test.false));
}
