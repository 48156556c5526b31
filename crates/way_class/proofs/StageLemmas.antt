-- The stages of binding, one after the other.
use Rattle.std.proofs.Common.{suc, ◌*◌, ◌≡◌, ◌∙◌, ◌<◌, ◌≤◌, ℕ, ◌+◌, ◌-◌, List, [], length, Result, Ok, Vec, refl, sym, ap, subst, inl, inr, arith}
use Rattle.std.proofs.Math.Nat.{mul-le-mul_right}
use Rattle.std.proofs.lemmas.Bool.{cases_eq}
use Rattle.std.proofs.lemmas.Option.{slice_get_within}
use Rattle.std.specs.declared.alloc.Global.{Global}
use Rattle.hgt_tiles.specs.declared.tile_set.Tiles.{Tiles}
use Rattle.lookup_table.specs.First.{TagTable}
use Rattle.overpass_graph.specs.Maps.{IsMap, MapValue}
use Rattle.profile_code.specs.Flat.{Flat}
use Rattle.profile_code.specs.declared.scratch.Scratch.{Scratch}
use Rattle.context_check.specs.Checked.{Subject}
use Rattle.way_class.specs.Bound.{AreHeights, AreNodesBound, AreRows, AreWaysBound, Columns}
use Rattle.way_class.specs.Facts.{Binding}
use Rattle.way_class.specs.Links.{links_of}
use Rattle.way_class.specs.Lows.{AreLows}
use Rattle.way_class.specs.Outcome.{IsLinked}
use Rattle.way_class.specs.Parts.{Suits}
use Rattle.way_class.specs.Rows.{AreBoundedRows}
use Rattle.way_class.specs.Spending.{Advances, Spends, items_at, weight_of}
use Rattle.way_class.specs.Stages.{AreParts, EndsLinked, HasClasses, HasColumns, IsBoundSoFar, IsWhole, IsWithin, KeepsClasses, WorksOn, columns_of, MayEnd, nodes_at, spent_of, ways_at, most_work, work_left}
use Rattle.way_class.specs.declared.binder.Binder.{Binder}
use Rattle.way_class.specs.declared.bound.Bound.{Bound}
use Rattle.way_class.specs.declared.charge.NodeClass.{NodeClass}
use Rattle.way_class.specs.declared.error.BindError.{BindError}
use Rattle.way_class.specs.declared.height.Height.{Height}
use Rattle.way_class.specs.declared.nodes.Nodes.{Nodes}
use Rattle.way_class.specs.declared.row.Row.{Row}
use Rattle.way_class.specs.declared.side.WayClass.{WayClass}
use Rattle.way_class.specs.declared.ways.Ways.{Ways}
use Rattle.way_class.proofs.BoundLemmas.{IsAllBound}
use Rattle.way_class.proofs.SpendingLemmas.{spends-beside, spends-both, spends-light, weight-most}

-- rows are right by any columns where there are none, and by columns that stayed where there are some
rows-by : (map : MapValue) (old new : Columns) (rows : List Row) → (0 < length rows → old ≡ new) →
    AreRows map old (length rows) rows → AreRows map new (length rows) rows
rows-by map old new rows same are = elim (cases_eq (length rows) 0) [
  | inl none ↦ record { count = refl; each = λ link below. absurd (omega arith) }
  | inr some ↦ subst (λ (c : Columns). AreRows map c (length rows) rows) (same (omega arith)) are
]

-- what is kept of low prices is right by any classes and rows where there is nothing
lows-by : (ways : List WayClass) (nodes : List NodeClass) (rows : List Row) (lows : List ℕ) → length lows ≡ 0 →
    AreLows ways nodes rows (length lows) lows
lows-by ways nodes rows lows none = record {
  count = refl;
  each = λ link low at. absurd (omega (arith, slice_get_within lows link low at));
}

-- what is less beside what stays
less-two : (ra a rb b rc c rd d p q r s t u : ℕ) → rb + b ≤ ra + a → rd + d ≤ rc + c →
    (rb + rd + p + q + r) + (b + d + s + t + u) ≤ (ra + rc + p + q + r) + (a + c + s + t + u)
less-two ra a rb b rc c rd d p q r s t u first second = omega arith

-- three stages beside what stays
less-three : (ra a rb b rc c rd d re e rf f p q s t : ℕ) → rb + b ≤ ra + a → rd + d ≤ rc + c → rf + f ≤ re + e →
    (p + q + rb + rd + rf) + (s + t + b + d + f) ≤ (p + q + ra + rc + re) + (s + t + a + c + e)
less-three ra a rb b rc c rd d re e rf f p q s t first second third = omega arith

-- ---- The beginning

-- where nothing is there, nothing is more than the map has
pub begun-within : (map : MapValue) (b : Binder) → length b.ways.numbers.items ≡ 0 → length b.nodes.numbers.items ≡ 0 →
    b.heights.items ≡ [] → b.rows ≡ [] → b.lows.items ≡ [] → IsWithin map b
begun-within map b ways nodes heights rows lows =
    let no_heights : length b.heights.items ≡ 0 = ap length heights in
    let no_rows : length b.rows ≡ 0 = ap length rows in
    let no_lows : length b.lows.items ≡ 0 = ap length lows in
    record {
      ways = omega (arith, ways);
      nodes = omega (arith, nodes);
      heights = omega (arith, no_heights);
      rows = omega (arith, no_rows);
      lows = omega (arith, no_lows);
      rows_wait = λ some. absurd (omega (arith, no_rows, some));
      lows_wait = λ some. absurd (omega (arith, no_lows, some));
    }

-- no rows are within their bounds
none-bounded : AreBoundedRows []
none-bounded link row at = absurd (cc)

-- and what is there is right
pub begun-parts : (map : MapValue) (tiles : Tiles) (b : Binder) → b.heights.items ≡ [] → b.rows ≡ [] → b.lows.items ≡ [] →
    AreParts map tiles b
begun-parts map tiles b heights rows lows =
    let no_heights : length b.heights.items ≡ 0 = ap length heights in
    let no_rows : length b.rows ≡ 0 = ap length rows in
    record {
      heights = record { count = refl; each = λ node below. absurd (omega (arith, no_heights, below)) };
      rows = record { count = refl; each = λ link below. absurd (omega (arith, no_rows, below)) };
      bounded = subst AreBoundedRows (sym rows) none-bounded;
      lows = lows-by b.ways.kept.items.items b.nodes.kept.items.items b.rows b.lows.items (ap length lows);
    }

-- where nothing is there, no more is left to be spent than a map takes at most
pub begun-most : (map : MapValue) (b : Binder) (flat : Flat) → b.weight ≡ weight_of flat →
    length b.ways.numbers.items ≡ 0 → length b.nodes.numbers.items ≡ 0 → work_left map b ≤ most_work map
begun-most map b flat weight ways nodes =
    let unit : suc b.weight ≤ 1000002 = omega (arith, weight, weight-most flat) in
    let of_ways : suc b.weight * (length map.ways - length b.ways.numbers.items) ≤ 1000002 * length map.ways =
    most-of (suc b.weight) 1000002 (length map.ways) (length b.ways.numbers.items) unit ways in
    let of_nodes : suc b.weight * (length map.nodes - length b.nodes.numbers.items) ≤ 1000002 * length map.nodes =
    most-of (suc b.weight) 1000002 (length map.nodes) (length b.nodes.numbers.items) unit nodes in
    sum-most _ _ (length map.ways) (length map.nodes) (length b.heights.items) (length map.links) (length b.rows)
    (length b.lows.items) of_ways of_nodes
  where
    most-of : (unit most n done : ℕ) → unit ≤ most → done ≡ 0 → unit * (n - done) ≤ most * n
    most-of unit most n done less none =
        let whole : n ≡ n - done = omega (arith, none) in
        subst (λ (k : ℕ). unit * k ≤ most * n) whole (mul-le-mul_right n less)

    sum-most : (w v ways nodes h links r l : ℕ) → w ≤ 1000002 * ways → v ≤ 1000002 * nodes →
        w + v + (nodes - h) + (links - r) + (links - l) ≤ 1000002 * (ways + nodes) + nodes + links + links
    sum-most w v ways nodes h links r l one two = omega arith

-- ---- Ways and nodes

-- with these classes and numbers
abbrev pub with_classes : Binder → Scratch → Ways → Nodes → Binder
with_classes b scratch ways nodes = record {
  globals = b.globals;
  scratch = scratch;
  weight = b.weight;
  ways = ways;
  nodes = nodes;
  heights = b.heights;
  rows = b.rows;
  lows = b.lows;
}

module _ (map : MapValue) (b : Binder) (scratch : Scratch) (ways : Ways) (nodes : Nodes) (budget left rest : ℕ)
    (within : IsWithin map b)
    (ways_on : Advances b.weight budget left (length map.ways) (ways_at b.weight (length map.ways) b.ways)
    (ways_at b.weight (length map.ways) ways))
    (ways_same : length b.ways.numbers.items ≡ length map.ways → ways ≡ b.ways)
    (nodes_on : Advances b.weight left rest (length map.nodes) (nodes_at b.weight (length map.nodes) b.nodes)
    (nodes_at b.weight (length map.nodes) nodes))
    (nodes_same : length b.nodes.numbers.items ≡ length map.nodes → nodes ≡ b.nodes) where
  -- what is bound then
  abbrev pub classed : Binder
  classed = with_classes b scratch ways nodes

  -- where there are rows, all of these were there before
  ways-stay : 0 < length b.rows → ways ≡ b.ways
  ways-stay some = ways_same (within.rows_wait some).classes.ways

  -- so were all nodes
  nodes-stay : 0 < length b.rows → nodes ≡ b.nodes
  nodes-stay some = nodes_same (within.rows_wait some).classes.nodes

  -- nothing is more than the map has
  pub classes-within : IsWithin map classed
  classes-within = record {
    ways = ways_on.within;
    nodes = nodes_on.within;
    heights = within.heights;
    rows = within.rows;
    lows = within.lows;
    rows_wait = λ some. record {
      classes = record {
        ways = ap (λ (w : Ways). length w.numbers.items) (ways-stay some) ∙ (within.rows_wait some).classes.ways;
        nodes = ap (λ (n : Nodes). length n.numbers.items) (nodes-stay some) ∙ (within.rows_wait some).classes.nodes;
      };
      heights = (within.rows_wait some).heights;
    };
    lows_wait = within.lows_wait;
  }

  -- what was right stays right
  pub classes-parts : (tiles : Tiles) → AreParts map tiles b → AreParts map tiles classed
  classes-parts tiles parts = record {
    heights = parts.heights;
    rows = rows-by map (columns_of b) (columns_of classed) b.rows
        (λ some i. record {
          ways = (sym (ways-stay some) i).numbers.items;
          nodes = (sym (nodes-stay some) i).numbers.items;
          heights = b.heights.items;
        }) parts.rows;
    bounded = parts.bounded;
    lows = elim (cases_eq (length b.lows.items) 0) [
      | inl none ↦ lows-by ways.kept.items.items nodes.kept.items.items b.rows b.lows.items none
      | inr other ↦
          let some : 0 < length b.rows = omega (arith, within.lows) in
          subst (λ (w : Ways). AreLows w.kept.items.items nodes.kept.items.items b.rows (length b.lows.items) b.lows.items)
          (sym (ways-stay some))
          (subst (λ (n : Nodes). AreLows b.ways.kept.items.items n.kept.items.items b.rows (length b.lows.items) b.lows.items)
          (sym (nodes-stay some)) parts.lows)
    ];
  }

  -- what was spent is counted
  pub classes-works : WorksOn map budget rest b classed
  classes-works = record {
    spends = spends-both b.weight budget left rest (spent_of b) (spent_of (with_classes b scratch ways b.nodes))
        (spent_of classed)
        (spends-beside b.weight budget left _ _ _ _ ways_on.spends ((nodes_at b.weight 0 b.nodes).spent
        + length b.heights.items + length b.rows + length b.lows.items) (omega arith) (omega arith))
        (spends-beside b.weight left rest _ _ _ _ nodes_on.spends ((ways_at b.weight 0 ways).spent
        + length b.heights.items + length b.rows + length b.lows.items) (omega arith) (omega arith));
    less = less-two _ _ _ _ _ _ _ _ (length map.nodes - length b.heights.items) (length map.links - length b.rows)
        (length map.links - length b.lows.items) (length b.heights.items) (length b.rows) (length b.lows.items)
        ways_on.less nodes_on.less;
    globals = refl;
    weight = refl;
  }

-- ---- Heights, rows and low prices

-- with these heights, rows and low prices
abbrev pub with_links : Binder → Vec Height Global → List Row → Vec ℕ Global → Binder
with_links b heights rows lows = record {
  globals = b.globals;
  scratch = b.scratch;
  weight = b.weight;
  ways = b.ways;
  nodes = b.nodes;
  heights = heights;
  rows = rows;
  lows = lows;
}

module _ (map : MapValue) (b : Binder) (heights : Vec Height Global) (budget left : ℕ)
    (within : IsWithin map b) (classes : 0 < budget → HasClasses map b)
    (heights_on : Advances 0 budget left (length map.nodes) (items_at (length map.nodes) (length b.heights.items))
    (items_at (length map.nodes) (length heights.items)))
    (heights_same : length b.heights.items ≡ length map.nodes → heights.items ≡ b.heights.items)
    (heights_whole : 0 < left → length heights.items ≡ length map.nodes) where
  -- the columns that rows are made of
  abbrev pub widened : Columns
  widened = record { ways = b.ways.numbers.items; nodes = b.nodes.numbers.items; heights = heights.items }

  -- the rows that are there are right by them
  pub rows-before : AreRows map (columns_of b) (length b.rows) b.rows → AreRows map widened (length b.rows) b.rows
  rows-before are = rows-by map (columns_of b) widened b.rows
      (λ some i. record {
        ways = b.ways.numbers.items;
        nodes = b.nodes.numbers.items;
        heights = sym (heights_same (within.rows_wait some).heights) i;
      }) are

  module _ (rows : List Row) (more : ℕ)
      (rows_on : Advances 0 left more (length map.links) (items_at (length map.links) (length b.rows))
      (items_at (length map.links) (length rows)))
      (rows_same : length b.rows ≡ length map.links → rows ≡ b.rows)
      (rows_whole : 0 < more → length rows ≡ length map.links) where
    -- what is kept of low prices is right by the rows
    pub lows-before : AreLows b.ways.kept.items.items b.nodes.kept.items.items b.rows (length b.lows.items) b.lows.items →
        AreLows b.ways.kept.items.items b.nodes.kept.items.items rows (length b.lows.items) b.lows.items
    lows-before are = elim (cases_eq (length b.lows.items) 0) [
      | inl none ↦ lows-by b.ways.kept.items.items b.nodes.kept.items.items rows b.lows.items none
      | inr other ↦ subst (λ (r : List Row). AreLows b.ways.kept.items.items b.nodes.kept.items.items r
          (length b.lows.items) b.lows.items)
          (sym (rows_same (within.lows_wait (omega arith)))) are
    ]

    -- they are no more than the rows
    pub lows-few : length b.lows.items ≤ length rows
    lows-few = omega (arith, within.lows, rows_on.grows)

    module _ (lows : Vec ℕ Global) (rest : ℕ)
        (lows_on : Advances 0 more rest (length rows) (items_at (length rows) (length b.lows.items))
        (items_at (length rows) (length lows.items)))
        (lows_whole : 0 < rest → length lows.items ≡ length rows) where
      -- what is bound then
      abbrev pub linked : Binder
      linked = with_links b heights rows lows

      -- where there are rows, all is there that they are made of
      columns-there : 0 < length rows → HasColumns map linked
      columns-there some = elim (cases_eq (length b.rows) 0) [
        | inl none ↦
            let going : 0 < left = elim (cases_eq left 0) [
              | inl zero ↦ absurd (omega (arith, rows_on.spends.none zero))
              | inr other ↦ omega arith
            ] in
            let has = classes (omega (arith, heights_on.spends.fits)) in
            record { classes = record { ways = has.ways; nodes = has.nodes }; heights = heights_whole going }
        | inr other ↦
            let has = within.rows_wait (omega arith) in
            record {
              classes = record { ways = has.classes.ways; nodes = has.classes.nodes };
              heights = ap length (heights_same has.heights) ∙ has.heights;
            }
      ]

      -- where there are low prices, all rows are there
      rows-there : 0 < length lows.items → length rows ≡ length map.links
      rows-there some = elim (cases_eq (length b.lows.items) 0) [
        | inl none ↦
            let going : 0 < more = elim (cases_eq more 0) [
              | inl zero ↦ absurd (omega (arith, lows_on.spends.none zero))
              | inr other ↦ omega arith
            ] in
            rows_whole going
        | inr other ↦
            let all : length b.rows ≡ length map.links = within.lows_wait (omega arith) in
            omega (arith, rows_on.grows, rows_on.within)
      ]

      -- nothing is more than the map has
      pub links-within : IsWithin map linked
      links-within = record {
        ways = within.ways;
        nodes = within.nodes;
        heights = heights_on.within;
        rows = rows_on.within;
        lows = lows_on.within;
        rows_wait = columns-there;
        lows_wait = rows-there;
      }

      -- where something is left of the budget, all is bound
      pub links-whole : 0 < rest → IsWhole map linked
      links-whole some =
          let third : 0 < more = omega (arith, lows_on.spends.fits) in
          let second : 0 < left = omega (arith, rows_on.spends.fits) in
          let has = classes (omega (arith, heights_on.spends.fits)) in
          record {
            columns = record {
              classes = record { ways = has.ways; nodes = has.nodes };
              heights = heights_whole second;
            };
            rows = rows_whole third;
            lows = lows_whole some ∙ rows_whole third;
          }

      -- what was spent is counted
      pub links-works : WorksOn map budget rest b linked
      links-works = record {
        spends = spends-light b.weight budget rest (spent_of b) (spent_of linked)
            (spends-both 0 budget left rest _ (spent_of (with_links b heights b.rows b.lows)) _
            (spends-beside 0 budget left _ _ _ _ heights_on.spends ((ways_at b.weight 0 b.ways).spent
            + (nodes_at b.weight 0 b.nodes).spent + length b.rows + length b.lows.items) (omega arith) (omega arith))
            (spends-both 0 left more rest _ (spent_of (with_links b heights rows b.lows)) _
            (spends-beside 0 left more _ _ _ _ rows_on.spends ((ways_at b.weight 0 b.ways).spent
            + (nodes_at b.weight 0 b.nodes).spent + length heights.items + length b.lows.items) (omega arith) (omega arith))
            (spends-beside 0 more rest _ _ _ _ lows_on.spends ((ways_at b.weight 0 b.ways).spent
            + (nodes_at b.weight 0 b.nodes).spent + length heights.items + length rows) (omega arith) (omega arith))));
        less = less-three (length map.nodes - length b.heights.items) (length b.heights.items)
            (length map.nodes - length heights.items) (length heights.items)
            (length map.links - length b.rows) (length b.rows) (length map.links - length rows) (length rows)
            (length map.links - length b.lows.items) (length b.lows.items) (length map.links - length lows.items)
            (length lows.items)
            (ways_at b.weight (length map.ways) b.ways).rest (nodes_at b.weight (length map.nodes) b.nodes).rest
            (ways_at b.weight 0 b.ways).spent (nodes_at b.weight 0 b.nodes).spent heights_on.less rows_on.less
            (omega (arith, lows_on.within, rows_on.within, within.lows, within.rows));
        globals = refl;
        weight = refl;
      }

-- ---- Both together

-- the classes that stay are bound as before
pub classes-kept : (subject : Subject) (map : MapValue) (before after : Binder) → KeepsClasses before after →
    IsBoundSoFar subject map before → IsBoundSoFar subject map after
classes-kept subject map before after kept bound = record {
  ways = subst (λ (w : Ways). AreWaysBound subject map (length w.numbers.items) w) (sym kept.ways) bound.ways;
  nodes = subst (λ (n : Nodes). AreNodesBound subject map (length n.numbers.items) n) (sym kept.nodes) bound.nodes;
}

-- work goes on by what went on
pub works-both : (map : MapValue) (budget left rest : ℕ) (a b c : Binder) → WorksOn map budget left a b →
    WorksOn map left rest b c → WorksOn map budget rest a c
works-both map budget left rest a b c first second = record {
  spends = spends-both a.weight budget left rest (spent_of a) (spent_of b) (spent_of c) first.spends
      (subst (λ w. Spends w left rest (spent_of b) (spent_of c)) first.weight second.spends);
  less = le-both _ _ _ first.less second.less;
  globals = second.globals ∙ first.globals;
  weight = second.weight ∙ first.weight;
}
  where
    le-both : (x y z : ℕ) → y ≤ x → z ≤ y → z ≤ x
    le-both x y z one two = omega arith

-- what is whole is bound, as the parts of the facts of all links
pub whole-bound : (subject : Subject) (tiles : Tiles) (map : MapValue) (b : Binder) → IsMap map → IsWhole map b →
    AreParts map tiles b → IsBoundSoFar subject map b →
    IsAllBound subject tiles map b.ways b.nodes b.heights.items b.rows
whole-bound subject tiles map b lawful whole parts bound = record {
  lawful = lawful;
  ways_are = subst (λ n. AreWaysBound subject map n b.ways) whole.columns.classes.ways bound.ways;
  nodes_are = subst (λ n. AreNodesBound subject map n b.nodes) whole.columns.classes.nodes bound.nodes;
  heights_are = subst (λ n. AreHeights tiles map n b.heights.items) whole.columns.heights parts.heights;
  rows_are = subst (λ n. AreRows map (columns_of b) n b.rows) whole.rows parts.rows;
}

-- what may end binding later might have ended it before
pub ends-before : (flat : Flat) (table : TagTable) (map : MapValue) (tiles : Tiles) (before after : Binder)
    (end : Result Bound BindError) → after.globals ≡ before.globals →
    ((subject : Subject) → Suits flat table subject → IsBoundSoFar subject map before → IsBoundSoFar subject map after) →
    MayEnd flat table map tiles after end → MayEnd flat table map tiles before end
ends-before flat table map tiles before after end same on later = record {
  comes_to = λ subject suits bound.
      let binding : Binding = record { subject = subject; map = map; tiles = tiles } in
      subst (λ globals. EndsLinked binding globals end) same (later.comes_to subject suits (on subject suits bound));
  count = later.count;
}

-- what is bound in the end is what binding may end with
pub ends-bound : (flat : Flat) (table : TagTable) (map : MapValue) (tiles : Tiles) (before after : Binder) (bound : Bound) →
    after.globals ≡ before.globals →
    ((subject : Subject) → Suits flat table subject → IsBoundSoFar subject map before → IsBoundSoFar subject map after) →
    ((subject : Subject) → IsBoundSoFar subject map after →
    IsLinked (record { subject = subject; map = map; tiles = tiles }) after.globals bound) →
    (links_of bound).count ≡ length map.links → MayEnd flat table map tiles before (Ok bound)
ends-bound flat table map tiles before after bound same on linked count = record {
  comes_to = λ subject suits so_far.
      let binding : Binding = record { subject = subject; map = map; tiles = tiles } in
      subst (λ globals. IsLinked binding globals bound) same (linked subject (on subject suits so_far));
  count = count;
}

-- where all of a budget was spent, that much less is left
pub less-left : (map : MapValue) (budget left : ℕ) (before after : Binder) → WorksOn map budget left before after →
    left ≡ 0 → work_left map after + budget ≤ work_left map before
less-left map budget left before after works zero =
    less-all (work_left map after) (work_left map before) (spent_of before) (spent_of after) budget works.less
    (works.spends.used zero)
  where
    less-all : (w v s t n : ℕ) → w + t ≤ v + s → s + n ≤ t → w + n ≤ v
    less-all w v s t n one two = omega arith
