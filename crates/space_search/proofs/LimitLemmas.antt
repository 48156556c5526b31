-- A limit of cells times the most labels of a cell is never spent.
use Rattle.std.proofs.Common.{◌≡◌, ◌≢◌, ℕ, zero, suc, ◌<◌, ◌≤◌, ◌+◌, ◌*◌, ◌⊎◌, inl, inr, List, [], ◌∷◌, length, Some, false, refl, ap, arith, sym, ◌∙◌, subst}
use Rattle.std.specs.Bool.{IsTrue}
use Rattle.std.specs.List.{slice_get}
use Rattle.space_search.specs.Laws.{IsSpace, HasRank}
use Rattle.space_search.specs.Limits.{IsUncoveredChain, LieIn, HasFewPerCell, CoversByKey}
use Rattle.space_search.specs.Rules.{Rules}
use Rattle.space_search.specs.Turns.{IsSpent}
use Rattle.space_search.specs.View.{Reached}
use Rattle.std.proofs.lemmas.Bool.{cases_eq}

-- one of two choices by a decision
abbrev either : {A : Type 0} {P Q : Type 0} → P ⊎ Q → A → A → A
either (inl p) first second = first
either (inr q) first second = second

-- Labels are sorted by a number of each, as that of their cell.
module _ {S : Type 0} (key : Reached S → ℕ) where
  -- the labels of one number
  abbrev in_cell : ℕ → List (Reached S) → List (Reached S)
  in_cell cell [] = []
  in_cell cell (label ∷ rest) =
      either (cases_eq (key label) cell) (label ∷ in_cell cell rest) (in_cell cell rest)

  -- a label has the number, or it doesn't
  abbrev Lies : Reached S → ℕ → Type 0
  Lies label cell = (key label ≡ cell) ⊎ (key label ≢ cell)

  -- the labels of one number with one more before them, where it has that number
  abbrev with_one : (cell : ℕ) (first : Reached S) → List (Reached S) → Lies first cell → List (Reached S)
  with_one cell first rest lies = either lies (first ∷ in_cell cell rest) (in_cell cell rest)

  -- these are labels of all
  abbrev AreFrom : List (Reached S) → List (Reached S) → Type 0
  AreFrom some all =
      (place : ℕ) (label : Reached S) → slice_get some place ≡ Some label → (from : ℕ) × (slice_get all from ≡ Some label)

  -- a label of the number is one of all
  from-cell : (cell : ℕ) (labels : List (Reached S)) → AreFrom (in_cell cell labels) labels
  from-cell cell [] place label at = (place, at)
  from-cell cell (first ∷ rest) place label at = go (from-cell cell rest) (cases_eq (key first) cell) place at where
    go :
        AreFrom (in_cell cell rest) rest → (d : Lies first cell) (place : ℕ) →
        slice_get (with_one cell first rest d) place ≡ Some label → (from : ℕ) × (slice_get (first ∷ rest) from ≡ Some label)
    go again (inl e) zero at = (0, at)
    go again (inl e) (suc place) at = let f = again place label at in (suc f.0, f.1)
    go again (inr e) place at = let f = again place label at in (suc f.0, f.1)

  -- and it has the number
  has_number :
      (cell : ℕ) (labels : List (Reached S)) (place : ℕ) (label : Reached S) →
      slice_get (in_cell cell labels) place ≡ Some label → key label ≡ cell
  has_number cell [] place label at = cc
  has_number cell (first ∷ rest) place label at = go (has_number cell rest) (cases_eq (key first) cell) place at where
    go :
        ((place : ℕ) (label : Reached S) → slice_get (in_cell cell rest) place ≡ Some label → key label ≡ cell) →
        (d : Lies first cell) (place : ℕ) → slice_get (with_one cell first rest d) place ≡ Some label → key label ≡ cell
    go again (inl e) zero at = let same : first ≡ label = cc in ap key (sym same) ∙ e
    go again (inl e) (suc place) at = again place label at
    go again (inr e) place at = again place label at

  -- how many labels have the first numbers
  abbrev count : ℕ → List (Reached S) → ℕ
  count zero labels = 0
  count (suc cells) labels = count cells labels + length (in_cell cells labels)

  -- one more label counts once, at its own number
  length-in_cell :
      (cell : ℕ) (first : Reached S) (rest : List (Reached S)) →
      ((key first ≡ cell) × (length (in_cell cell (first ∷ rest)) ≡ length (in_cell cell rest) + 1)) ⊎
      ((key first ≢ cell) × (length (in_cell cell (first ∷ rest)) ≡ length (in_cell cell rest)))
  length-in_cell cell first rest = go (cases_eq (key first) cell) where
    go :
        (d : Lies first cell) →
        ((key first ≡ cell) × (length (with_one cell first rest d) ≡ length (in_cell cell rest) + 1)) ⊎
        ((key first ≢ cell) × (length (with_one cell first rest d) ≡ length (in_cell cell rest)))
    go (inl e) = inl (e, omega arith)
    go (inr e) = inr (e, refl)

  -- a label beyond the numbers adds nothing
  count-beyond :
      (cells : ℕ) (first : Reached S) (rest : List (Reached S)) → cells ≤ key first →
      count cells (first ∷ rest) ≡ count cells rest
  count-beyond zero first rest beyond = refl
  count-beyond (suc cells) first rest beyond =
      elim (length-in_cell cells first rest) [
        | inl (e, h) ↦ absurd (omega arith)
        | inr (e, h) ↦ omega (arith, count-beyond cells first rest (omega arith))
      ]

  -- a label in one of them adds one
  count-one :
      (cells : ℕ) (first : Reached S) (rest : List (Reached S)) → key first < cells →
      count cells (first ∷ rest) ≡ count cells rest + 1
  count-one zero first rest below = absurd (omega arith)
  count-one (suc cells) first rest below =
      elim (length-in_cell cells first rest) [
        | inl (e, h) ↦ omega (arith, count-beyond cells first rest (omega arith))
        | inr (e, h) ↦ omega (arith, count-one cells first rest (omega arith))
      ]

  -- where all labels have one of the numbers, all are counted
  count-all :
      (cells : ℕ) (labels : List (Reached S)) →
      ((place : ℕ) (label : Reached S) → slice_get labels place ≡ Some label → key label < cells) →
      length labels ≤ count cells labels
  count-all cells [] all = omega arith
  count-all cells (first ∷ rest) all =
      omega (
        arith,
        count-one cells first rest (all 0 first refl),
        count-all cells rest (λ place label at. all (suc place) label at),
      )

module _ {S : Type 0} (rules : Rules S) where
  -- the cell of a label
  abbrev cell_of : Reached S → ℕ
  cell_of label = rules.cell label.state

  -- the labels of one number are such a chain, too
  chain-in_cell :
      (key : Reached S → ℕ) (cell : ℕ) (labels : List (Reached S)) → IsUncoveredChain rules labels →
      IsUncoveredChain rules (in_cell key cell labels)
  chain-in_cell key cell [] chain = tt
  chain-in_cell key cell (first ∷ rest) chain = go (chain-in_cell key cell rest chain.3) (cases_eq (key first) cell) where
    go :
        IsUncoveredChain rules (in_cell key cell rest) →
        (d : Lies key first cell) →
        IsUncoveredChain rules (with_one key cell first rest d)
    go tail (inl e) =
        (chain.0, chain.1, (λ place label at. let f = from-cell key cell rest place label at in chain.2 f.0 label f.1), tail)
    go tail (inr e) = tail

  -- and they lie in the cell
  lie-in_cell : (cell : ℕ) (labels : List (Reached S)) → LieIn rules cell (in_cell cell_of cell labels)
  lie-in_cell cell [] = tt
  lie-in_cell cell (first ∷ rest) = go (lie-in_cell cell rest) (cases_eq (rules.cell first.state) cell) where
    go :
        LieIn rules cell (in_cell cell_of cell rest) →
        (d : Lies cell_of first cell) →
        LieIn rules cell (with_one cell_of cell first rest d)
    go tail (inl e) = (e, tail)
    go tail (inr e) = tail

  -- and each cell has few
  count-few :
      (most cells : ℕ) (labels : List (Reached S)) → HasFewPerCell rules most → IsUncoveredChain rules labels →
      count cell_of cells labels ≤ cells * most
  count-few most zero labels few chain = omega arith
  count-few most (suc cells) labels few chain =
      let here : length (in_cell cell_of cells labels) ≤ most =
      few cells (in_cell cell_of cells labels) (chain-in_cell cell_of cells labels chain) (lie-in_cell cells labels) in
      let before : count cell_of cells labels ≤ cells * most = count-few most cells labels few chain in
      omega arith

  -- a label of a valid state that has a rank
  record IsPassedAt (label : Reached S) : Type 0 where
    valid : IsTrue (rules.is_valid label.state)
    rank : ℕ
    ranked : HasRank rules label.state label.cost rank

  -- such labels in order of rank, by their places
  record IsChain (labels : List (Reached S)) : Type 0 where
    each : (place : ℕ) (label : Reached S) → slice_get labels place ≡ Some label → IsPassedAt label
    rising :
        (first second : ℕ) (a b : Reached S) (low high : ℕ) → first ≤ second →
        slice_get labels first ≡ Some a → slice_get labels second ≡ Some b →
        HasRank rules a.state a.cost low → HasRank rules b.state b.cost high → low ≤ high
    apart :
        (first second : ℕ) (a b : Reached S) → first < second → slice_get labels first ≡ Some a → slice_get labels second ≡ Some b →
        rules.covers a.state a.cost b.state b.cost ≡ false

  -- labels in order are such a chain
  chain-from : (labels : List (Reached S)) → IsChain labels → IsUncoveredChain rules labels
  chain-from [] chain = tt
  chain-from (first ∷ rest) chain =
      let c : IsPassedAt first = chain.each 0 first refl in (
        c.valid,
        (c.rank, c.ranked),
        (λ place label at. (
          chain.apart 0 (suc place) first label (omega arith) refl at,
          λ low high a b. chain.rising 0 (suc place) first label low high (omega arith) refl at a b,
        )),
        chain-from rest
            (
            record {
              each = λ place label at. chain.each (suc place) label at;
              rising = λ i j a b low high up p q ra rb. chain.rising (suc i) (suc j) a b low high (omega arith) p q ra rb;
              apart = λ i j a b up p q. chain.apart (suc i) (suc j) a b (omega arith) p q;
            }
            ),
      )

  -- a limit of cells times the most labels of a cell isn't spent
  pub never-spent :
      (laws : IsSpace rules) (most limit : ℕ) (shown : List (Reached S)) → HasFewPerCell rules most →
      rules.cells * most ≤ limit → IsSpent rules limit shown → ⊥
  never-spent laws most limit shown few enough spent =
      let passed : (place : ℕ) (label : Reached S) → slice_get shown place ≡ Some label → IsPassedAt label =
      λ place label at. let p = spent.ordered.each place label at in record { valid = p.valid; rank = p.rank; ranked = p.ranked } in
      let chain : IsUncoveredChain rules shown =
      chain-from shown (record { each = passed; rising = spent.ordered.rising; apart = spent.ordered.apart }) in
      let counted : length shown ≤ count cell_of rules.cells shown =
      count-all cell_of rules.cells shown (λ place label at. laws.moves.cell label.state (passed place label at).valid) in
      let small : count cell_of rules.cells shown ≤ rules.cells * most = count-few most rules.cells shown few chain in
      omega (arith, counted, small, spent.count)

module _ {S : Type 0} (rules : Rules S) (key : S → ℕ) (by_key : CoversByKey rules key) where
  -- the key of a label
  abbrev key_of : Reached S → ℕ
  key_of label = key label.state

  -- each label of a chain has a valid state
  valid-at :
      (labels : List (Reached S)) → IsUncoveredChain rules labels → (place : ℕ) (label : Reached S) →
      slice_get labels place ≡ Some label → IsTrue (rules.is_valid label.state)
  valid-at [] chain place label at = cc
  valid-at (first ∷ rest) chain zero label at =
      let same : first ≡ label = cc in subst (λ (l : Reached S). IsTrue (rules.is_valid l.state)) same chain.0
  valid-at (first ∷ rest) chain (suc place) label at = valid-at rest chain.3 place label at

  -- each of these labels lies in the cell
  lies-at :
      (cell : ℕ) (labels : List (Reached S)) → LieIn rules cell labels → (place : ℕ) (label : Reached S) →
      slice_get labels place ≡ Some label → rules.cell label.state ≡ cell
  lies-at cell [] lie place label at = cc
  lies-at cell (first ∷ rest) lie zero label at =
      let same : first ≡ label = cc in subst (λ (l : Reached S). rules.cell l.state ≡ cell) same lie.0
  lies-at cell (first ∷ rest) lie (suc place) label at = lies-at cell rest lie.1 place label at

  -- a chain of one cell has one label of a key
  at-most_one :
      (cell number : ℕ) (labels : List (Reached S)) → IsUncoveredChain rules labels →
      ((place : ℕ) (label : Reached S) → slice_get labels place ≡ Some label →
      (rules.cell label.state ≡ cell) × (key label.state ≡ number)) → length labels ≤ 1
  at-most_one cell number [] chain all = omega arith
  at-most_one cell number (a ∷ []) chain all = omega arith
  at-most_one cell number (a ∷ b ∷ rest) chain all =
      let first = all 0 a refl in
      let second = all 1 b refl in
      let pair = chain.2 0 b refl in
      let covers : IsTrue (rules.covers a.state a.cost b.state b.cost) =
      by_key a.state b.state a.cost b.cost chain.1.0 chain.3.1.0 chain.0 chain.3.0 (first.0 ∙ sym second.0)
      (first.1 ∙ sym second.1) chain.1.1 chain.3.1.1 (pair.1 chain.1.0 chain.3.1.0 chain.1.1 chain.3.1.1) in
      let uncovers : rules.covers a.state a.cost b.state b.cost ≡ false = pair.0 in
      let never : ⊥ = cc in
      absurd never

  -- so it has as many as keys
  count-keys :
      (cell keys : ℕ) (labels : List (Reached S)) → IsUncoveredChain rules labels → LieIn rules cell labels →
      count key_of keys labels ≤ keys
  count-keys cell zero labels chain lie = omega arith
  count-keys cell (suc keys) labels chain lie =
      let here : length (in_cell key_of keys labels) ≤ 1 =
      at-most_one cell keys (in_cell key_of keys labels) (chain-in_cell rules key_of keys labels chain)
      (λ place label at.
      let f = from-cell key_of keys labels place label at in
      (lies-at cell labels lie f.0 label f.1, has_number key_of keys labels place label at)) in
      let before : count key_of keys labels ≤ keys = count-keys cell keys labels chain lie in
      omega arith

  -- no cell keeps more labels than there are keys
  pub few-keys : (keys : ℕ) → ((state : S) → IsTrue (rules.is_valid state) → key state < keys) → HasFewPerCell rules keys
  few-keys keys below cell labels chain lie =
      let counted : length labels ≤ count key_of keys labels =
      count-all key_of keys labels (λ place label at. below label.state (valid-at labels chain place label at)) in
      omega (arith, counted, count-keys cell keys labels chain lie)
