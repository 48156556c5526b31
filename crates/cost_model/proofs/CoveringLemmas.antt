-- How covering behaves where two walks go on by the same link, and how it compares them.
use Rattle.std.proofs.Common.{◌≡◌, ℕ, ◌+◌, ◌≤◌, ℤ, pos, ◌+ℤ◌, ◌≤ℤ◌, Bool, true, false, Option, IsTrue, refl, ap, arith}
use Rattle.std.proofs.lemmas.Int.{ints, clamps}
use Rattle.elev_buffer.specs.Covers.{IsBuffer, IsPair, SupersedesLabel, Climb, label, IsInOrder, covers_label, after, elevation_cost}
use Rattle.elev_buffer.specs.Step.{IsLimits}
use Rattle.elev_buffer.specs.declared.labels.Mode.{Mode}
use Rattle.elev_buffer.specs.declared.labels.Mode.TheVariants.{Compensated, Ordered, Equal}
use Rattle.elev_buffer.specs.declared.labels.Modes.{Modes}
use Rattle.elev_buffer.specs.declared.labels.Pair.{Pair}
use Rattle.elev_buffer.proofs.CallerLemmas.{covers-refl, covers-trans, covers-cheaper, covers-flat, covers-kept, covers-test, weights-kept}
use Rattle.cost_model.specs.Facts.{AreFacts}
use Rattle.cost_model.specs.Labels.{terms_by, label_of}
use Rattle.cost_model.specs.Modes.{AllowsFactor, AllowsFacts}
use Rattle.cost_model.specs.Parts.{climb_of, factor_of, distance_of, parts_with, parts_after, ranked, sum_of, entry_cost, IsHeld}
use Rattle.cost_model.specs.Prices.{Prices, IsRate, IsPrices}
use Rattle.cost_model.specs.Walks.{carry_after, pair_of}
use Rattle.cost_model.specs.declared.facts.LinkFacts.{LinkFacts}
use Rattle.cost_model.specs.declared.parts.Carry.{Carry}
use Rattle.cost_model.specs.declared.parts.Parts.{Parts}
use Rattle.cost_model.proofs.NumberLemmas.{per_metre-low, per_metre-grows}
use Rattle.cost_model.proofs.FactorLemmas.{moves-with_weights}
use Rattle.cost_model.proofs.CostLemmas.{cost-whole}

-- a label covers every one of its own buffers that costs no less
pub label-itself : (p : Prices) (modes : Modes) (a b : Carry) (ca cb : ℕ) → pair_of a ≡ pair_of b → ca ≤ cb →
    IsTrue (covers_label (terms_by p modes) (label_of a ca) (label_of b cb))
label-itself p modes a b ca cb same less = (covers-test _ _ _).1 (covers-refl _ _ _ same (omega (arith, ints)))

-- what a label covers covers no more than it does
pub label-through : (p : Prices) (modes : Modes) (a b c : Carry) (ca cb cc : ℕ) → IsPrices p →
    IsTrue (covers_label (terms_by p modes) (label_of a ca) (label_of b cb)) →
    IsTrue (covers_label (terms_by p modes) (label_of b cb) (label_of c cc)) →
    IsTrue (covers_label (terms_by p modes) (label_of a ca) (label_of c cc))
label-through p modes a b c ca cb cc is h k =
    (covers-test _ _ _).1
    (covers-trans _ _ _ _ is.down_rate.low is.up_rate.low ((covers-test _ _ _).0 h) ((covers-test _ _ _).0 k))

-- what covers costs no more
pub label-cheaper : (p : Prices) (modes : Modes) (a b : Carry) (ca cb : ℕ) → IsPrices p →
    IsTrue (covers_label (terms_by p modes) (label_of a ca) (label_of b cb)) → ca ≤ cb
label-cheaper p modes a b ca cb is h =
    let less = covers-cheaper _ _ _ is.down_rate.low is.up_rate.low ((covers-test _ _ _).0 h) in
    omega (arith, ints)

-- what supersedes a label covers whatever that covers of labels that cost no less
pub supersedes-covers : (p : Prices) (modes : Modes) (a b c : Carry) (ca cb cc : ℕ) →
    SupersedesLabel (terms_by p modes) (label_of a ca) (label_of b cb) → ca ≤ cc →
    IsTrue (covers_label (terms_by p modes) (label_of b cb) (label_of c cc)) →
    IsTrue (covers_label (terms_by p modes) (label_of a ca) (label_of c cc))
supersedes-covers p modes a b c ca cb cc supersedes less covered =
    (covers-test _ _ _).1 (supersedes (label_of c cc) (omega (arith, ints)) ((covers-test _ _ _).0 covered))

-- buffers that are held may be compared
pub held-pair : (p : Prices) (pair : Pair) → IsPrices p → IsHeld p pair → IsPair pair
held-pair p pair is held =
    let most = is.limits.most in
    let dl = held.down_low in
    let dh = held.down_high in
    let ul = held.up_low in
    let uh = held.up_high in
    record {
      down = record { low = dl; high = omega (arith, ints) };
      up = record { low = ul; high = omega (arith, ints) };
    }

-- so may they be at the prices of a micrometre
pub rate-buffer : (n : ℤ) → IsRate n → IsBuffer n
rate-buffer n is = record { low = is.low; high = omega (arith, ints, is.high) }

-- where climbing costs nothing, a label covers every other that costs no less
pub label-flat : (p : Prices) (modes : Modes) (a b : Carry) (ca cb : ℕ) → p.down_rate ≡ pos 0 → p.up_rate ≡ pos 0 →
    modes.down ≡ Compensated → modes.up ≡ Compensated → ca ≤ cb →
    IsTrue (covers_label (terms_by p modes) (label_of a ca) (label_of b cb))
label-flat p modes a b ca cb d u m n less =
    (covers-test _ _ _).1 (covers-flat _ _ _ d u m n (omega (arith, ints)))

-- the factor of the distance is no more by the weight of descent that is in the order of a mode that allows the facts
factor-by_down : (mode : Mode) (facts : LinkFacts) (x y up : ℤ) →
    AllowsFactor mode facts.downfactor facts.costfactor → IsInOrder mode x y →
    factor_of facts x up ≤ℤ factor_of facts y up
factor-by_down Compensated facts x y up allows order =
    let same = (moves-with_weights facts).down_same allows x y up in omega (arith, ints)
factor-by_down Ordered facts x y up allows order = (moves-with_weights facts).down allows x y up order
factor-by_down Equal facts x y up allows order =
    let same = ap (λ w. factor_of facts w up) order in omega (arith, ints)

-- and by the weight of climb
factor-by_up : (mode : Mode) (facts : LinkFacts) (x y down : ℤ) →
    AllowsFactor mode facts.upfactor facts.costfactor → IsInOrder mode x y →
    factor_of facts down x ≤ℤ factor_of facts down y
factor-by_up Compensated facts x y down allows order =
    let same = (moves-with_weights facts).up_same allows x y down in omega (arith, ints)
factor-by_up Ordered facts x y down allows order = (moves-with_weights facts).up allows x y down order
factor-by_up Equal facts x y down allows order =
    let same = ap (λ w. factor_of facts down w) order in omega (arith, ints)

-- so the distance part is no more for the label that covers
pub distance-kept : (modes : Modes) (facts : LinkFacts) (dx dy ux uy : ℤ) → AllowsFacts modes facts →
    IsInOrder modes.down dx dy → IsInOrder modes.up ux uy → distance_of facts dx ux ≤ℤ distance_of facts dy uy
distance-kept modes facts dx dy ux uy allows down up =
    let first = factor-by_down modes.down facts dx dy ux allows.down down in
    let second = factor-by_up modes.up facts ux uy dy allows.up up in
    per_metre-grows facts.arrow.len _ _ (omega (arith, ints, clamps)) (omega (arith, ints))

-- what a link costs but for climbing
abbrev other_of : Bool → Parts → ℤ
other_of true parts = parts.distance +ℤ parts.distance +ℤ parts.turn +ℤ parts.initial +ℤ parts.node
other_of false parts = parts.distance +ℤ parts.turn +ℤ parts.initial +ℤ parts.node

-- the sum is that and the elevation part
other-sum : (used : Bool) (parts : Parts) → sum_of (ranked used parts) ≡ parts.elevation +ℤ other_of used parts
other-sum true parts = omega (arith, ints)
other-sum false parts = omega (arith, ints)

-- it is no more where the distance part is no more and the other parts are the same
other-grows : (used : Bool) (less more : Parts) → less.distance ≤ℤ more.distance → less.turn ≡ more.turn →
    less.initial ≡ more.initial → less.node ≡ more.node → other_of used less ≤ℤ other_of used more
other-grows true less more h t i n = omega (arith, ints)
other-grows false less more h t i n = omega (arith, ints)

-- the limits of the buffers are in order, and no reduction over a link is below 0
record IsClimb (climb : Climb) : Type 0 where
  limits : IsLimits climb.limits
  reduction : pos 0 ≤ℤ climb.reduction

-- so it is over every link
climb-is : (p : Prices) (facts : LinkFacts) → IsPrices p → IsClimb (climb_of p facts)
unfolding climb_of
climb-is p facts is =
    record { limits = is.limits; reduction = per_metre-low facts.arrow.len p.reduction is.reduction.low }

-- the cost of a label after a link is what the covering of labels counts
cost-after : (p : Prices) (modes : Modes) (used : Bool) (before : Option LinkFacts) (facts : LinkFacts) (pair : Pair)
    (cost : ℕ) → IsPrices p → AreFacts facts → IsHeld p pair → pos (cost + entry_cost p used before facts pair)
    ≡ pos cost +ℤ elevation_cost (terms_by p modes) (climb_of p facts) pair
    +ℤ other_of used (parts_after p before facts pair)
unfolding parts_with
cost-after p modes used before facts pair cost is f held =
    let whole = cost-whole p used before facts pair is f held in
    let sum = other-sum used (parts_after p before facts pair) in
    omega (arith, ints)

-- the labels after two walks went on by the same link, as covering sees them
module _ (p : Prices) (modes : Modes) (used : Bool) (before : Option LinkFacts) (facts : LinkFacts) (is : IsPrices p)
    (f : AreFacts facts) (allows : AllowsFacts modes facts) where
  -- what a link costs the label that covers, but for climbing, is no more
  other-kept : (a b : Pair) → IsInOrder modes.down a.down b.down → IsInOrder modes.up a.up b.up →
      other_of used (parts_after p before facts a) ≤ℤ other_of used (parts_after p before facts b)
  unfolding parts_with
  other-kept a b down up =
      let climb = climb_of p facts in
      let fits = climb-is p facts is in
      let distance = distance-kept modes facts _ _ _ _ allows
      (weights-kept modes.down climb.limits climb.down_added climb.reduction a.down b.down fits.limits fits.reduction down)
      (weights-kept modes.up climb.limits climb.up_added climb.reduction a.up b.up fits.limits fits.reduction up) in
      other-grows used (parts_after p before facts a) (parts_after p before facts b) distance refl refl refl

  -- the covering of two labels of one last link is kept when both go on by the same next link
  pub covers-entered : (a b : Pair) (ca cb : ℕ) → IsHeld p a → IsHeld p b →
      IsTrue (covers_label (terms_by p modes) (label a (pos ca)) (label b (pos cb))) →
      IsTrue (covers_label (terms_by p modes)
      (label (after (climb_of p facts) a) (pos (ca + entry_cost p used before facts a)))
      (label (after (climb_of p facts) b) (pos (cb + entry_cost p used before facts b))))
  covers-entered a b ca cb held holds covered =
      let covers = (covers-test _ _ _).0 covered in
      let fits = climb-is p facts is in
      let kept = covers-kept _ _ _ is.down_rate.low is.up_rate.low covers (climb_of p facts)
      (other_of used (parts_after p before facts a)) (other_of used (parts_after p before facts b))
      fits.limits fits.reduction (other-kept a b covers.down covers.up) in
      let cost = kept.cost in
      let first = cost-after p modes used before facts a ca is f held in
      let second = cost-after p modes used before facts b cb is f holds in
      (covers-test _ _ _).1 (record { cost = omega (arith, ints); down = kept.down; up = kept.up })

  -- so it is where they are what the walks carry
  pub covers-carried : (link : ℕ) (a b : Carry) (ca cb : ℕ) → IsHeld p (pair_of a) → IsHeld p (pair_of b) →
      IsTrue (covers_label (terms_by p modes) (label_of a ca) (label_of b cb)) →
      IsTrue (covers_label (terms_by p modes)
      (label_of (carry_after p link facts (pair_of a)) (ca + entry_cost p used before facts (pair_of a)))
      (label_of (carry_after p link facts (pair_of b)) (cb + entry_cost p used before facts (pair_of b))))
  covers-carried link a b ca cb held holds covered = covers-entered (pair_of a) (pair_of b) ca cb held holds covered
