-- The steps of an element whose first names are not kept (this project's own rule).
use Rattle.std.specs.Prelude.{◌≡◌, ℕ, zero, suc, List, [], ◌∷◌, ◌++◌}
use lib.Chars.{codes}
use Rattle.json_text.specs.declared.mode.Bracket.TheVariants as bracket_
use Rattle.json_text.specs.Marks.{Step}
use Rattle.map_elements.specs.declared.front.Front.{Front}
use Rattle.map_elements.specs.declared.front.Front.TheVariants as front_

-- a step is a value by itself
abbrev pub IsPlain : Step → Type 0
IsPlain (Step.Text text) = Unit {0}
IsPlain (Step.Number text) = Unit {0}
IsPlain step = ⊥

-- behind so many steps stands a plain one, and nothing else
abbrev pub EndsPlain : ℕ → List Step → Type 0
EndsPlain zero (step ∷ []) = IsPlain step
EndsPlain (suc before) (step ∷ steps) = EndsPlain before steps
EndsPlain before steps = ⊥

-- the steps behind the first bracket, where those that are kept lack the first names
abbrev pub behind : Front → List Step → List Step
behind front_.Kind steps = Step.Key (codes "type") ∷ steps
behind front_.Id (kind ∷ steps) = Step.Key (codes "type") ∷ kind ∷ Step.Key (codes "id") ∷ steps
behind front_.Lat (kind ∷ id ∷ steps) =
    Step.Key (codes "type") ∷ kind ∷ Step.Key (codes "id") ∷ id ∷ Step.Key (codes "lat") ∷ steps
behind front_.Lon (kind ∷ id ∷ lat ∷ steps) =
    Step.Key (codes "type") ∷ kind ∷ Step.Key (codes "id") ∷ id ∷ Step.Key (codes "lat") ∷ lat ∷
    Step.Key (codes "lon") ∷ steps
behind front steps = steps

-- the steps of an element, where those that are kept lack its front
abbrev pub told : Front → List Step → List Step
told front_.Bare steps = steps
told front steps = Step.Opens bracket_.Curly ∷ behind front steps

-- before the last name that isn't kept stand plain values, and one for each name
abbrev pub Fits : Front → List Step → Type 0
Fits front_.Id (kind ∷ steps) = IsPlain kind
Fits front_.Lat (kind ∷ id ∷ steps) = IsPlain kind × IsPlain id
Fits front_.Lon (kind ∷ id ∷ lat ∷ steps) = IsPlain kind × (IsPlain id × IsPlain lat)
Fits front_.Id steps = ⊥
Fits front_.Lat steps = ⊥
Fits front_.Lon steps = ⊥
Fits front steps = Unit {0}

-- one more step leads from one front to another, and nothing is kept of it
pub record LeadsTo (old new : Front) (steps : List Step) (step : Step) : Type 0 where
  pub fits : Fits new steps
  pub same : told new steps ≡ told old steps ++ step ∷ []
