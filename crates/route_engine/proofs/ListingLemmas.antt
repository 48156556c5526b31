-- The nodes that have a cost, listed by ascending number, one or one block further.
use Rattle.std.proofs.Common.{◌≡◌, ◌≢◌, inl, inr, ℕ, zero, suc, ◌+◌, ◌-◌, ◌*◌, ◌/◌, ◌%◌, ◌<◌, ◌≤◌, Bool, true, false, cond, nat_eq, List, [], ◌∷◌, ◌++◌, length, get_or, set, Option, Some, None, refl, sym, ap, ◌∙◌, subst, arith}
use Rattle.std.specs.List.{Contains}
use Rattle.std.specs.Option.{IsSome}
use Rattle.std.proofs.Math.Nat.{div-eq_of_lt-le, div-add-mod}
use Rattle.std.proofs.lemmas.Bool.{cases_eq, cases_lt, false≢true, ne_eqb}
use Rattle.std.proofs.lemmas.Bool.Decides.{nat_tests}
use Rattle.std.proofs.lemmas.List.{get_or-set_same, get_or-set_other, get_or_append_left, get_or_push, get_or_read, length_push}
use Rattle.route_engine.specs.Listings.{AreBelow, AreBlocks, AreMarked, IsListedBelow, block, is_marked_at}
use Rattle.route_engine.specs.Nearby.{Costed, IsListed, listed}

-- ---- What stands with a node

-- at one that is put behind a list, where it isn't there
listed-here : (list : Costed) (node cost : ℕ) → listed list node ≡ None → listed (list ++ (node, cost) ∷ []) node ≡ Some cost
listed-here [] node cost none = go (nat_eq node node) refl
  where
    go : (b : Bool) → nat_eq node node ≡ b → cond b (Some cost) None ≡ Some cost
    go true same = refl
    go false other = absurd (grind (arith, nat_tests, other))
listed-here (entry ∷ list) node cost none = go (nat_eq entry.0 node) none (listed-here list node cost)
  where
    go : (b : Bool) → cond b (Some entry.1) (listed list node) ≡ None →
        (listed list node ≡ None → listed (list ++ (node, cost) ∷ []) node ≡ Some cost) →
        cond b (Some entry.1) (listed (list ++ (node, cost) ∷ []) node) ≡ Some cost
    go true is later = absurd (grind (arith, is))
    go false is later = later is

-- at another it stays
listed-other : (list : Costed) (node cost other : ℕ) → other ≢ node → listed (list ++ (node, cost) ∷ []) other ≡ listed list other
listed-other [] node cost other differ =
    ap (λ (b : Bool). cond b (Some cost) None) (ne_eqb node other (λ e. differ (sym e)))
listed-other (entry ∷ list) node cost other differ =
    ap (λ (later : Option ℕ). cond (nat_eq entry.0 other) (Some entry.1) later) (listed-other list node cost other differ)

-- ---- One node further

module _ (costs : ℕ → Option ℕ) where
  -- none is listed at first
  pub listed-none : IsListedBelow costs 0 []
  listed-none = record {
    below = λ place inside. absurd (omega (arith, inside));
    rising = λ i j less inside. absurd (omega (arith, inside));
    there = λ node less. absurd (omega (arith, less));
    beyond = λ node more. refl;
  }

  -- nodes without a cost are passed over
  pub listed-over : (node next : ℕ) (list : Costed) → node ≤ next → ((other : ℕ) → node ≤ other → other < next → costs other ≡ None) →
      IsListedBelow costs node list → IsListedBelow costs next list
  listed-over node next list more none is = record {
    below = λ place inside. omega (arith, more, is.below place inside);
    rising = is.rising;
    there = λ other less. elim (cases_lt other node) [
      | inl before ↦ is.there other before
      | inr behind ↦ is.beyond other behind ∙ sym (none other behind less)
    ];
    beyond = λ other behind. is.beyond other (omega (arith, more, behind));
  }

  -- a node with a cost is listed
  pub listed-more : (node cost : ℕ) (list after : Costed) → costs node ≡ Some cost → after ≡ list ++ (node, cost) ∷ [] →
      IsListedBelow costs node list → IsListedBelow costs (suc node) after
  listed-more node cost list after costly grown is =
      subst (IsListedBelow costs (suc node)) (sym grown) (record {
        below = λ place inside. elim (cases_lt place (length list)) [
          | inl before ↦ omega (arith, is.below place before, left place before)
          | inr behind ↦ omega (arith, here place (omega (arith, count, inside, behind)))
        ];
        rising = λ i j less inside. elim (cases_lt j (length list)) [
          | inl before ↦
              omega (arith, is.rising i j less before, left i (omega (arith, less, before)), left j before)
          | inr behind ↦
              let before : i < length list = omega (arith, less, count, inside, behind) in
              omega (arith, is.below i before, left i before, here j (omega (arith, count, inside, behind)))
        ];
        there = λ other less. elim (cases_eq other node) [
          | inl same ↦
              ap (listed (list ++ (node, cost) ∷ [])) same
              ∙ listed-here list node cost (is.beyond node (omega arith)) ∙ sym (ap costs same ∙ costly)
          | inr differ ↦ listed-other list node cost other differ ∙ is.there other (before-it other less differ)
        ];
        beyond = λ other behind.
            listed-other list node cost other (λ same. absurd (omega (arith, same, behind))) ∙ is.beyond other (omega (arith, behind));
      })
    where
      count : length (list ++ (node, cost) ∷ []) ≡ length list + 1
      count = length_push list (node, cost)

      left : (place : ℕ) → place < length list →
          (get_or (list ++ (node, cost) ∷ []) place (0, 0)).0 ≡ (get_or list place (0, 0)).0
      left place before = ap (λ (e : ℕ × ℕ). e.0) (get_or_append_left list ((node, cost) ∷ []) (0, 0) place before)

      here : (place : ℕ) → length list ≡ place → (get_or (list ++ (node, cost) ∷ []) place (0, 0)).0 ≡ node
      here place same = ap (λ (e : ℕ × ℕ). e.0) (get_or_push list (node, cost) (0, 0) place same)

      before-it : (other : ℕ) → other < suc node → other ≢ node → other < node
      before-it other less differ = elim (cases_lt other node) [
        | inl before ↦ before
        | inr behind ↦ absurd (differ (omega (arith, less, behind)))
      ]

  -- a node without one isn't
  pub listed-less : (node : ℕ) (list : Costed) → costs node ≡ None → IsListedBelow costs node list → IsListedBelow costs (suc node) list
  listed-less node list none is =
      listed-over node (suc node) list (omega arith)
      (λ other more less. let same : other ≡ node = omega (arith, more, less) in ap costs same ∙ none) is

  -- all are listed where none beyond has a cost
  pub listed-whole : (nodes : ℕ) (list : Costed) → AreBelow costs nodes → IsListedBelow costs nodes list → IsListed costs list
  listed-whole nodes list below is = record {
    rising = is.rising;
    costs_listed = λ node. elim (cases_lt node nodes) [
      | inl before ↦ is.there node before
      | inr behind ↦ is.beyond node behind ∙ sym (go node behind (costs node) refl)
    ];
  }
    where
      go : (node : ℕ) → nodes ≤ node → (cost : Option ℕ) → costs node ≡ cost → costs node ≡ None
      go node behind None is_none = is_none
      go node behind (Some cost) is_some = absurd (omega (arith, behind, below node cost is_some))

  -- ---- One block further

  -- a node's block is one of those
  pub block-inside : (node nodes : ℕ) (marks : List Bool) → node < nodes → AreBlocks nodes marks → node / block < length marks
  block-inside node nodes marks less blocks =
      let parts = div-add-mod node block in
      let long : node / block * block < length marks * block = omega (arith, parts, less, blocks) in
      omega (arith, long)

  -- nodes up to the end of a block are in it
  same-block : (node other : ℕ) → node ≤ other → other < node + (block - node % block) → other / block ≡ node / block
  same-block node other more less =
      let parts = div-add-mod node block in
      let low : node / block * block ≤ other = omega (arith, more, parts) in
      let high : other < (node / block + 1) * block = omega (arith, less, parts) in
      div-eq_of_lt-le block low high

  -- no node of a block that isn't marked has a cost
  pub unmarked-none : (marks : List Bool) (node next : ℕ) → AreMarked costs marks → is_marked_at marks node ≡ false →
      next ≤ node + (block - node % block) → (other : ℕ) → node ≤ other → other < next → costs other ≡ None
  unmarked-none marks node next marked unmarked within other more less = go (costs other) refl
    where
      same : is_marked_at marks other ≡ is_marked_at marks node
      same = ap (λ (k : ℕ). get_or marks k false) (same-block node other more (omega (arith, less, within)))

      go : (cost : Option ℕ) → costs other ≡ cost → costs other ≡ None
      go None is = is
      go (Some cost) is = absurd (false≢true (sym unmarked ∙ sym same ∙ marked other cost is))

-- ---- Marks

-- the blocks of so many first nodes are marked
abbrev pub AreMarkedAt : (found : List ℕ) (count : ℕ) (marks : List Bool) → Type 0
AreMarkedAt found count marks = (place : ℕ) → place < count → is_marked_at marks (get_or found place 0) ≡ true

-- one more
pub marked-more : (found : List ℕ) (count node : ℕ) (marks : List Bool) → node / block < length marks → node ≡ get_or found count 0 →
    AreMarkedAt found count marks → AreMarkedAt found (count + 1) (set marks (node / block) true)
marked-more found count node marks inside is so_far place less = elim (cases_eq (get_or found place 0 / block) (node / block)) [
  | inl same ↦
      ap (λ (k : ℕ). get_or (set marks (node / block) true) k false) same ∙ get_or-set_same marks (node / block) true false inside
  | inr differ ↦
      get_or-set_other marks (node / block) (get_or found place 0 / block) true false differ
      ∙ so_far place (earlier differ)
]
  where
    earlier : (get_or found place 0 / block) ≢ (node / block) → place < count
    earlier differ = elim (cases_lt place count) [
      | inl before ↦ before
      | inr behind ↦
          let same : place ≡ count = omega (arith, less, behind) in
          absurd (differ (ap (λ (k : ℕ). get_or found k 0 / block) same ∙ ap (λ (n : ℕ). n / block) (sym is)))
    ]

module _ (costs : ℕ → Option ℕ) (found : List ℕ) (exact : (node : ℕ) → Contains found node → IsSome (costs node))
    (all : (node : ℕ) → IsSome (costs node) → Contains found node) where
  -- nodes that have a cost are below a number where all costs are
  pub found-below : (nodes : ℕ) → AreBelow costs nodes → (place : ℕ) → Contains found (get_or found place 0) → get_or found place 0 < nodes
  found-below nodes below place there = go (costs (get_or found place 0)) refl (exact (get_or found place 0) there)
    where
      go : (cost : Option ℕ) → costs (get_or found place 0) ≡ cost → IsSome cost → get_or found place 0 < nodes
      go None is some = absurd (false≢true some)
      go (Some cost) is some = below (get_or found place 0) cost is

  -- where the blocks of all are marked, so are those of all nodes that have a cost
  pub marked-all : (marks : List Bool) → AreMarkedAt found (length found) marks → AreMarked costs marks
  marked-all marks marked node cost is =
      let at = all node (subst IsSome (sym is) refl) in
      ap (λ (n : ℕ). is_marked_at marks n) (get_or_read found at.0 node at.1 (sym at.2) 0) ∙ marked at.0 at.1
