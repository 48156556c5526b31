-- The map is that of the text, and the fault is its first.
use Rattle.std.proofs.Common.{◌≡◌, ◌⊎◌, [], IfErr, IfOk, MatchResult, Result, Ok, Err, inl, inr}
use Rattle.map_tables.specs.declared.error.MapError.{MapError}
use Rattle.map_tables.specs.declared.error.MapError.TheVariants.{NoMemory}
use Rattle.overpass_graph.specs.Builder.{IsFaultOfBeginning, IsFaultOfText, IsMapOfText}
use Rattle.case_inputs.proofs.texts.map_of.Goals as goal

-- what is told of both outcomes is told of the value
value_of : {A E : Type 0} (P : A → Type 0) (Q : E → Type 0) (result : Result A E) → MatchResult result P Q → IfOk result P
value_of P Q (Ok a) told = told
value_of P Q (Err e) told = tt

-- and of the fault, which may be one of these besides
fault_of : {A : Type 0} (P : A → Type 0) (Q R : MapError → Type 0) (result : Result A MapError) →
    MatchResult result P (λ e. (e ≡ NoMemory) ⊎ R e) → IfErr result (λ e. (e ≡ NoMemory) ⊎ (Q e ⊎ R e))
fault_of P Q R (Ok a) told = tt
fault_of P Q R (Err e) (inl memory) = inl memory
fault_of P Q R (Err e) (inr is) = inr (inr is)

-- a fault of a beginning is one of both
begun : (P Q : MapError → Type 0) (e : MapError) → (e ≡ NoMemory) ⊎ P e → (e ≡ NoMemory) ⊎ (P e ⊎ Q e)
begun P Q e (inl memory) = inl memory
begun P Q e (inr is) = inr (inl is)

pub returns-in-Ok-clause-found : goal.returns-in-Ok-clause-found
returns-in-Ok-clause-found c short =
    let text = c.args.text.now in
    value_of (IsMapOfText text) (λ e. (e ≡ NoMemory) ⊎ IsFaultOfText text e) c.finish-in-Ok.result
    (c.finish-in-Ok.ensures.exact text (c.in-Ok.ensures.value [] c.new-builder.ensures.value))

pub returns-in-Ok-clause-cause : goal.returns-in-Ok-clause-cause
returns-in-Ok-clause-cause c short =
    let text = c.args.text.now in
    fault_of (IsMapOfText text) (IsFaultOfBeginning text) (IsFaultOfText text) c.finish-in-Ok.result
    (c.finish-in-Ok.ensures.exact text (c.in-Ok.ensures.value [] c.new-builder.ensures.value))

pub returns-in-Err-clause-cause : goal.returns-in-Err-clause-cause
returns-in-Err-clause-cause c short =
    let text = c.args.text.now in
    begun (IsFaultOfBeginning text) (IsFaultOfText text) c.in-Err.fault (c.in-Err.ensures.exact [] c.new-builder.ensures.value)
