-- What has been read behind one more step.
use Rattle.std.proofs.Common.{◌≡◌, ◌⊎◌, ℕ, zero, suc, true, List, [], ◌∷◌, ◌++◌, Result, Ok, Err, refl, ap, sym, subst, inl, inr, ◌∙◌}
use Rattle.std.specs.Prelude.{MatchResult, OnOk}
use Rattle.json_text.specs.declared.mode.Bracket.{Bracket}
use Rattle.json_text.specs.Marks.{Step}
use Rattle.map_tables.specs.declared.limits.Limits.{Limits}
use Rattle.map_tables.specs.declared.error.MapError.{MapError}
use Rattle.map_tables.specs.declared.error.MapError.TheVariants.{NoMemory}
use Rattle.map_elements.specs.declared.place.Place.TheVariants.{Elements, Past}
use Rattle.map_elements.specs.declared.progress.Progress.{Progress}
use Rattle.map_elements.specs.Entries.{depth_after}
use Rattle.map_elements.specs.Reader.{goes_on, IsAt, IsInList, IsPast, IsTaken, IsRefused, IsFault, Holds}
use Rattle.map_elements.proofs.InsideLemmas.{element_goes_on, element_ends, element_refused, list_ends, list_names}

-- what was taken before stays taken where the tables and the count do
pub taken_kept : (limits : Limits) (old new : Progress) (values : List (List Step)) → new.tables ≡ old.tables → new.count ≡ old.count
    → IsTaken limits old values → IsTaken limits new values
taken_kept limits old new values tables count taken = record {
  count = count ∙ taken.count;
  draft = taken.draft ∙ ap (λ t. Ok t.draft) (sym tables);
  limits_are = ap (λ t. t.limits) tables ∙ taken.limits_are;
}

-- a step of an element
module _ (limits : Limits) (steps : List Step) (depth : ℕ) (value : List Step) (values : List (List Step)) (s : Step)
    (inside : IsInList steps depth value values) (goes : goes_on depth s ≡ true) where
  -- what is held of the element, with this step, is taken or refused, and nothing of it is held any more
  pub record IsTakenWhole {A : Type 0} (pushed : List Step) (new : Progress) (result : Result A MapError) : Type 0 where
    pub same : pushed ≡ value ++ s ∷ []
    pub taken : MatchResult result (λ _. IsTaken limits new (values ++ pushed ∷ [])) (λ e. (e ≡ NoMemory) ⊎
        IsRefused limits values pushed e)
    pub place : OnOk result (new.place ≡ Elements 0)
    pub empty : OnOk result (new.steps ≡ [])

  -- the element that ends with this step is taken, or refused
  pub ended_holds : {A : Type 0} (pushed : List Step) (new : Progress) (result : Result A MapError) → depth_after depth s ≡ zero →
      IsTakenWhole pushed new result →
      MatchResult result (λ _. Holds limits new (steps ++ s ∷ [])) (λ e. (e ≡ NoMemory) ⊎ IsFault limits (steps ++ s ∷ []) e)
  ended_holds pushed new (Ok a) ends whole =
      record {
        values = values ++ (value ++ s ∷ []) ∷ [];
        at = subst (λ p. IsAt p new.steps (steps ++ s ∷ []) (values ++ (value ++ s ∷ []) ∷ [])) (sym whole.place)
            (subst (λ xs. IsInList (steps ++ s ∷ []) 0 xs (values ++ (value ++ s ∷ []) ∷ [])) (sym whole.empty)
            (element_ends steps depth value values inside s goes ends));
        taken = subst (λ xs. IsTaken limits new (values ++ xs ∷ [])) whole.same whole.taken;
      }
  ended_holds pushed new (Err e) ends whole =
      elim whole.taken [
        | inl h ↦ inl h
        | inr h ↦ inr (element_refused steps depth value values inside limits s e goes ends
            (subst (λ xs. IsRefused limits values xs e) whole.same h))
      ]

  -- the element goes on with this step
  pub inner_holds : (after : ℕ) (old new : Progress) → IsTaken limits old values → after ≡ depth_after depth s → (after ≡ 0 → ⊥) →
      new.place ≡ Elements after → new.steps ≡ value ++ s ∷ [] → new.tables ≡ old.tables → new.count ≡ old.count →
      Holds limits new (steps ++ s ∷ [])
  inner_holds zero old new taken is open_ place held tables count = absurd (open_ refl)
  inner_holds (suc after) old new taken is open_ place held tables count = record {
    values = values;
    at = subst (λ p. IsAt p new.steps (steps ++ s ∷ []) values) (sym place)
        (subst (λ xs. IsInList (steps ++ s ∷ []) (suc after) xs values) (sym held)
        (element_goes_on steps depth value values inside s after goes (sym is)));
    taken = taken_kept limits old new values tables count taken;
  }

-- a step between elements
module _ (limits : Limits) (steps value : List Step) (values : List (List Step)) (text : List ℕ) (s : Step) (old new : Progress)
    (inside : IsInList steps 0 value values) (taken : IsTaken limits old values) where
  -- the list of elements ends with this step
  pub past_holds : (bracket : Bracket) × (s ≡ Step.Closes bracket) → new.place ≡ Past → new.tables ≡ old.tables → new.count ≡ old.count →
      Holds limits new (steps ++ s ∷ [])
  past_holds (bracket, is) place tables count = record {
    values = values;
    at = subst (λ p. IsAt p new.steps (steps ++ s ∷ []) values) (sym place)
        (subst (λ x. IsPast (steps ++ x ∷ []) values) (sym is) (list_ends steps value values bracket inside));
    taken = taken_kept limits old new values tables count taken;
  }

  -- a name stands between elements
  pub named_holds : s ≡ Step.Key text → new.place ≡ Elements 0 → new.steps ≡ [] → new.tables ≡ old.tables → new.count ≡ old.count →
      Holds limits new (steps ++ s ∷ [])
  named_holds is place empty tables count = record {
    values = values;
    at = subst (λ p. IsAt p new.steps (steps ++ s ∷ []) values) (sym place)
        (subst (λ xs. IsInList (steps ++ s ∷ []) 0 xs values) (sym empty)
        (subst (λ x. IsInList (steps ++ x ∷ []) 0 [] values) (sym is) (list_names steps value values text inside)));
    taken = taken_kept limits old new values tables count taken;
  }

-- a step leads from one place to another outside of the list of elements
pub outside_holds : (limits : Limits) (steps later : List Step) (values : List (List Step)) (old new : Progress)
    → values ≡ [] → old.steps ≡ [] → IsTaken limits old values → IsAt new.place [] later []
    → new.steps ≡ old.steps → new.tables ≡ old.tables → new.count ≡ old.count
    → Holds limits new later
outside_holds limits steps later values old new none empty taken at kept tables count = record {
  values = [];
  at = subst (λ xs. IsAt new.place xs later []) (sym (kept ∙ empty)) at;
  taken = taken_kept limits old new [] tables count (subst (λ vs. IsTaken limits old vs) none taken);
}
