-- When a limit of settled labels is always enough. This project's own rule.
use Rattle.std.specs.Bool.{IsTrue}
use Rattle.std.specs.List.{slice_get}
use Rattle.std.specs.Prelude.{ℕ, ◌≡◌, ◌≤◌, false, Some, List, [], ◌∷◌, length}
use Rattle.item_list.specs.Turns.{Says}
use Rattle.item_list.specs.declared.turn.Turn.{Turn}
use Rattle.space_search.specs.Ends.{Ends}
use Rattle.space_search.specs.Laws.{HasRank}
use Rattle.space_search.specs.Rules.{Rules}
use Rattle.space_search.specs.View.{Reached}
use Rattle.space_search.specs.declared.outcome.Outcome.{Outcome}

-- the first label covers none of these, and none of them ranks below it
abbrev pub CoversNone : {S : Type 0} → Rules S → Reached S → List (Reached S) → Type 0
CoversNone {S} rules first rest =
    (place : ℕ) (label : Reached S) → slice_get rest place ≡ Some label →
    (rules.covers first.state first.cost label.state label.cost ≡ false) ×
    ((low high : ℕ) → HasRank rules first.state first.cost low → HasRank rules label.state label.cost high →
    low ≤ high)

-- labels of valid states that have ranks, in order of rank, of which no earlier one covers a later one
abbrev pub IsUncoveredChain : {S : Type 0} → Rules S → List (Reached S) → Type 0
IsUncoveredChain rules [] = Unit {0}
IsUncoveredChain rules (label ∷ rest) =
    IsTrue (rules.is_valid label.state) × ((rank : ℕ) × HasRank rules label.state label.cost rank) ×
    CoversNone rules label rest × IsUncoveredChain rules rest

-- all of these labels lie in the cell
abbrev pub LieIn : {S : Type 0} → Rules S → ℕ → List (Reached S) → Type 0
LieIn rules cell [] = Unit {0}
LieIn rules cell (label ∷ rest) = (rules.cell label.state ≡ cell) × LieIn rules cell rest

-- no cell can keep more labels than this
abbrev pub HasFewPerCell : {S : Type 0} → Rules S → ℕ → Type 0
HasFewPerCell {S} rules most =
    (cell : ℕ) (labels : List (Reached S)) → IsUncoveredChain rules labels → LieIn rules cell labels →
    length labels ≤ most

-- a search doesn't end with a spent limit
abbrev pub IsUnspent : {F : Type 0} → Outcome F → Type 0
IsUnspent = Ends (λ _. Unit {0}) (Unit {0}) ⊥

-- nor does a turn
abbrev pub IsUnspentTurn : {N F : Type 0} → Turn N (Outcome F) → Type 0
IsUnspentTurn = Says (λ _. Unit {0}) IsUnspent

-- of two states of one cell with the same key, the one that ranks no higher at its cost covers the other
abbrev pub CoversByKey : {S : Type 0} → Rules S → (S → ℕ) → Type 0
CoversByKey {S} rules key =
    (a b : S) (ca cb low high : ℕ) → IsTrue (rules.is_valid a) → IsTrue (rules.is_valid b) →
    rules.cell a ≡ rules.cell b → key a ≡ key b →
    HasRank rules a ca low → HasRank rules b cb high → low ≤ high → IsTrue (rules.covers a ca b cb)
