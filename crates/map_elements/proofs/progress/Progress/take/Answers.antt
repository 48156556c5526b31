-- One more step of the text.
use Rattle.std.proofs.Common.{[], ◌∷◌, ◌++◌, refl, sym, subst}
use Rattle.json_text.specs.Steps.{step_for}
use Rattle.map_elements.specs.Reader.{IsAt}
use Rattle.map_elements.proofs.InsideLemmas.{past_stays, never_stays}
use Rattle.map_elements.proofs.ProgressLemmas.{outside_holds}
use Rattle.map_elements.proofs.progress.Progress.take.Goals as goal

-- the first step
pub returns-in-Start : goal.returns-in-Start
returns-in-Start c = record {
  value = λ limits steps holds.
      let s = step_for c.args.step c.args.text.now in
      let (first, none, empty) = subst (λ p. IsAt p c.args.self.now.steps steps holds.values) c.in-Start.is holds.at in
      outside_holds limits steps (steps ++ s ∷ []) holds.values c.args.self.now _ none empty holds.taken
      (subst (λ xs. IsAt c.first_place-self.result [] (xs ++ s ∷ []) []) (sym first) (c.first_place-self.ensures.value c.args.text.now))
      refl refl refl;
}

-- a step in the top object
pub returns-in-Some : goal.returns-in-Some
returns-in-Some c = record {
  value = λ limits steps holds.
      let (top, none, empty) = subst (λ p. IsAt p c.args.self.now.steps steps holds.values) c.in-Top.is holds.at in
      outside_holds limits steps (steps ++ step_for c.args.step c.args.text.now ∷ []) holds.values c.args.self.now _ none empty holds.taken
      (c.in-Some.ensures.value steps top)
      refl refl refl;
}

-- a step in the list of elements
pub returns-in-Elements : goal.returns-in-Elements
returns-in-Elements c = record {
  value = λ limits steps holds.
      c.take_listed.ensures.value limits steps holds.values
      (subst (λ p. IsAt p c.args.self.now.steps steps holds.values) c.in-Elements.is holds.at) holds.taken;
}

-- a step behind the list
pub returns-in-Past : goal.returns-in-Past
returns-in-Past c = record {
  value = λ limits steps holds.
      let s = step_for c.args.step c.args.text.now in
      record {
        values = holds.values;
        at = subst (λ p. IsAt p c.args.self.now.steps (steps ++ s ∷ []) holds.values) (sym c.in-Past.is)
            (past_stays steps holds.values s (subst (λ p. IsAt p c.args.self.now.steps steps holds.values) c.in-Past.is holds.at));
        taken = holds.taken;
      };
}

-- a step where there is no list
pub returns-in-Never : goal.returns-in-Never
returns-in-Never c = record {
  value = λ limits steps holds.
      let s = step_for c.args.step c.args.text.now in
      let (never, none) = subst (λ p. IsAt p c.args.self.now.steps steps holds.values) c.in-Never.is holds.at in
      record {
        values = holds.values;
        at = subst (λ p. IsAt p c.args.self.now.steps (steps ++ s ∷ []) holds.values) (sym c.in-Never.is) (never_stays steps s never, none);
        taken = holds.taken;
      };
}
