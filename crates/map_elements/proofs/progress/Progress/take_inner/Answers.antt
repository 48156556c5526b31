-- A step of an element.
use Rattle.std.proofs.Common.{refl, sym, ◌∙◌}
use Rattle.json_text.specs.Steps.{step_for}
use Rattle.map_elements.proofs.ProgressLemmas.{ended_holds, inner_holds, taken_kept}
use Rattle.map_elements.proofs.progress.Progress.take_inner.Goals as goal

-- the element ends
pub returns-then-after-eq0 : goal.returns-then-after-eq0
returns-then-after-eq0 c = record {
  value = λ limits steps values inside taken goes.
      ended_holds limits steps c.args.depth c.args.self.now.steps values (step_for c.args.step c.args.text.now) inside goes c.push.new.self
      c.take_whole.new.self c.take_whole.result (sym (c.in-Some.ensures.value c.args.text.now) ∙ c.if-after-eq0.true)
      (record {
        same = c.in-Ok.ensures.value;
        taken = c.take_whole.ensures.value limits values (taken_kept limits c.args.self.now _ values refl refl taken);
        place = c.take_whole.ensures.place;
        empty = c.take_whole.ensures.steps;
      });
}

-- the element goes on
pub returns : goal.returns
returns c = record {
  value = λ limits steps values inside taken goes.
      inner_holds limits steps c.args.depth c.args.self.now.steps values (step_for c.args.step c.args.text.now) inside goes c.in-Some.after
      c.args.self.now _ taken (c.in-Some.ensures.value c.args.text.now) (λ e. c.if-after-eq0.false e) refl c.in-Ok.ensures.value refl refl;
}
