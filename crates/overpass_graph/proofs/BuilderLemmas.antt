-- What a text comes to, by what its elements come to.
use Rattle.std.proofs.Common.{◌≡◌, ◌⊎◌, ℕ, true, false, List, Some, None, Result, Ok, Err, inl, inr}
use Rattle.std.specs.Prelude.{OnOk, MatchResult}
use Rattle.map_tables.specs.Draft.{Draft}
use Rattle.map_tables.specs.declared.error.MapError.{MapError}
use Rattle.map_tables.specs.declared.error.MapError.TheVariants.{NoMemory}
use Rattle.map_elements.specs.Outcome.{ComesTo}
use Rattle.map_elements.specs.Reader.{IsRefusal}
use Rattle.overpass_graph.specs.Links.{first_missing, missing_fault}
use Rattle.overpass_graph.specs.Maps.{MapValue, IsMapOf}
use Rattle.overpass_graph.specs.Builder.{most, MayBecomeMap, IsMapOfText, IsFaultOfText}

-- a piece that was taken leaves the beginning of a text
pub may_become : {A E : Type 0} (result : Result A E) (bytes : List ℕ)
    → OnOk result ((draft : Draft) × ComesTo most bytes false (Ok draft)) → OnOk result (MayBecomeMap bytes)
may_become (Ok a) bytes (draft, comes) = record { draft = draft; comes = comes }
may_become (Err e) bytes h = h

-- of elements that are taken comes their map, or the node that they lack is told
abbrev pub ComesOf : (draft : Draft) (result : Result MapValue MapError) → Type 0
ComesOf draft result =
    MatchResult result (λ map. (missing_fault (first_missing draft.nodes draft.ways) ≡ None) × IsMapOf draft map)
    (λ e. (e ≡ NoMemory) ⊎ (missing_fault (first_missing draft.nodes draft.ways) ≡ Some e))

-- a text whose elements are taken is that of their map, or lacks a node
pub text_ends : (result : Result MapValue MapError) (bytes : List ℕ) (draft : Draft) → ComesTo most bytes true (Ok draft) →
    ComesOf draft result → MatchResult result (λ map. IsMapOfText bytes map) (λ e. (e ≡ NoMemory) ⊎ IsFaultOfText bytes e)
text_ends (Ok map) bytes draft comes (complete, is) = record { draft = draft; comes = comes; complete = complete; is_map = is }
text_ends (Err e) bytes draft comes h = elim h [
  | inl m ↦ inl m
  | inr l ↦ inr (inr (record { draft = draft; comes = comes; lacks = l }))
]

-- a text whose elements are refused has their fault
pub text_refused : (bytes : List ℕ) (fault : MapError) → IsRefusal most bytes true fault → (fault ≡ NoMemory) ⊎ IsFaultOfText bytes fault
text_refused bytes fault h = elim h [ inl m ↦ inl m | inr comes ↦ inr (inl comes) ]
