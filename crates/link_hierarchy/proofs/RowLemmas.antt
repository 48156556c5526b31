-- Rows that grow until they are closed.
use Rattle.std.proofs.Common.{◌≡◌, ◌≢◌, ℕ, ◌+◌, ◌^◌, ◌<◌, ◌≤◌, ◌⊎◌, min, inl, inr, List, [], length, get_or, set, Vec, refl, sym, ap, ◌∙◌, subst, arith}
use Rattle.std.proofs.lemmas.Bool.{cases_eq, cases_lt}
use Rattle.std.proofs.lemmas.List.{get_or_default, get_or_past, get_or-set_same, get_or-set_other, length-map, length-set, map-set}
use Rattle.std.specs.declared.alloc.Global.{Global}
use Rattle.item_list.specs.Pages.{numbers_of, page_at}
use Rattle.item_list.proofs.PageLemmas.{page-read}
use Rattle.link_hierarchy.specs.Arcs.{arcs_of}
use Rattle.link_hierarchy.specs.Eliminations.{IsShared}
use Rattle.link_hierarchy.specs.Rows.{AreLists, AreRows, Holds, IsHeld, IsPutOff, IsRow, IsSorted, Widens, row_at}
use Rattle.link_hierarchy.specs.declared.arcs.Arc.{Arc}

-- a row is that of a node of the list
pub holds-in : (rows : List (List ℕ)) (v x : ℕ) → Holds (row_at rows v) x → v < length rows
holds-in rows v x h =
    elim (cases_lt v (length rows)) [
      | inl within ↦ within
      | inr past ↦
          let none : row_at rows v ≡ [] = get_or_past rows v [] past in
          absurd (omega (arith, h.within, ap length none))
    ]

-- ---- One row takes the place of another

module _ (nodes low : ℕ) (pages : List (Vec ℕ Global)) (w : Vec ℕ Global) (within : low < length pages) where
  -- the row
  pub put-same : row_at (numbers_of (set pages low w)) low ≡ w.items
  put-same =
      ap (λ xs. page_at xs low) (map-set (λ (p : Vec ℕ Global). p.items) pages low w)
      ∙ get_or-set_same (numbers_of pages) low w.items [] (rw length-map within)

  -- other rows
  pub put-other : (other : ℕ) → other ≢ low → row_at (numbers_of (set pages low w)) other ≡ row_at (numbers_of pages) other
  put-other other apart =
      ap (λ xs. page_at xs other) (map-set (λ (p : Vec ℕ Global). p.items) pages low w)
      ∙ get_or-set_other (numbers_of pages) low other w.items [] apart

  -- how many there are
  pub put-length : length (numbers_of (set pages low w)) ≡ length (numbers_of pages)
  put-length =
      ap length (map-set (λ (p : Vec ℕ Global). p.items) pages low w) ∙ length-set (numbers_of pages) low w.items

  -- a row that holds what another held takes its place
  pub widens-one : (v : Vec ℕ Global) → v ≡ get_or pages low v → IsRow low nodes w.items →
      ((x : ℕ) → Holds v.items x → Holds w.items x) → Widens nodes (numbers_of pages) (numbers_of (set pages low w)) low
  widens-one v read row keeps = record {
    counted = put-length;
    row = subst (λ (r : List ℕ). IsRow low nodes r) (sym put-same) row;
    keeps = λ x h.
        subst (λ (r : List ℕ). Holds r x) (sym put-same)
        (keeps x (subst (λ (r : List ℕ). Holds r x) (page-read pages low v within read) h));
    others = put-other;
  }

  -- and holds what it holds
  pub put-holds : (x : ℕ) → Holds w.items x → Holds (row_at (numbers_of (set pages low w)) low) x
  put-holds x h = subst (λ (r : List ℕ). Holds r x) (sym put-same) h

module _ (nodes : ℕ) (old new : List (List ℕ)) (low : ℕ) (widens : Widens nodes old new low) where
  -- what was held is
  pub widens-holds : (v x : ℕ) → Holds (row_at old v) x → Holds (row_at new v) x
  widens-holds v x h =
      elim (cases_eq v low) [
        | inl same ↦
            subst (λ n. Holds (row_at new n) x) (sym same) (widens.keeps x (subst (λ n. Holds (row_at old n) x) same h))
        | inr other ↦ subst (λ (r : List ℕ). Holds r x) (sym (widens.others v other)) h
      ]

  -- rows of all nodes stay so
  pub widens-lists : AreLists nodes old → AreLists nodes new
  widens-lists are = record {
    counted = widens.counted ∙ are.counted;
    row = λ v v_in.
        elim (cases_eq v low) [
          | inl same ↦ subst (λ n. IsRow n nodes (row_at new n)) (sym same) widens.row
          | inr other ↦ subst (λ (r : List ℕ). IsRow v nodes r) (sym (widens.others v other)) (are.row v v_in)
        ];
  }

-- what was held is, where rows grow
pub held-grows : (outs ins outs2 ins2 : List (List ℕ)) → ((v x : ℕ) → Holds (row_at outs v) x → Holds (row_at outs2 v) x) →
    ((v x : ℕ) → Holds (row_at ins v) x → Holds (row_at ins2 v) x) → (a b : ℕ) → IsHeld outs ins a b → IsHeld outs2 ins2 a b
held-grows outs ins outs2 ins2 out_keeps in_keeps a b (inl up) = inl (out_keeps a b up)
held-grows outs ins outs2 ins2 out_keeps in_keeps a b (inr down) = inr (in_keeps b a down)

-- rows that grow before any node is eliminated
pub rows-grow : (nodes : ℕ) (outs ins outs2 ins2 : List (List ℕ)) (arcs : List Arc) (taken : ℕ) → AreLists nodes outs2 →
    AreLists nodes ins2 → ((v x : ℕ) → Holds (row_at outs v) x → Holds (row_at outs2 v) x) →
    ((v x : ℕ) → Holds (row_at ins v) x → Holds (row_at ins2 v) x) → AreRows nodes outs ins arcs taken 0 →
    AreRows nodes outs2 ins2 arcs taken 0
rows-grow nodes outs ins outs2 ins2 arcs taken outs_are ins_are out_keeps in_keeps are = record {
  outs_are = outs_are;
  ins_are = ins_are;
  held = λ k d below inside apart.
      held-grows outs ins outs2 ins2 out_keeps in_keeps (get_or arcs k d).from (get_or arcs k d).to (are.held k d below inside apart);
  closed = λ v tail head below. absurd (omega (arith, below));
}

-- no arc is held yet
pub rows-begin : (nodes : ℕ) (outs ins : List (List ℕ)) (arcs : List Arc) → AreLists nodes outs → AreLists nodes ins →
    AreRows nodes outs ins arcs 0 0
rows-begin nodes outs ins arcs outs_are ins_are = record {
  outs_are = outs_are;
  ins_are = ins_are;
  held = λ k d below. absurd (omega (arith, below));
  closed = λ v tail head below. absurd (omega (arith, below));
}

-- a row as it is read
pub row-read : (pages : List (Vec ℕ Global)) (node : ℕ) (v : Vec ℕ Global) (row : List ℕ) → node < length pages → v ≡ get_or pages node v →
    row ≡ v.items → row ≡ row_at (numbers_of pages) node
row-read pages node v row within read is = is ∙ sym (page-read pages node v within read)

-- how many rows there are
pub rows-counted : (nodes : ℕ) (pages : List (Vec ℕ Global)) → length (numbers_of pages) ≡ nodes → length pages ≡ nodes
rows-counted nodes pages counted = sym (length-map pages (λ (p : Vec ℕ Global). p.items)) ∙ counted

-- an arc at a place
pub arc-there : (arcs : List Arc) (place : ℕ) (d : Arc) → place < length arcs →
    arcs_of arcs (get_or arcs place d).from (get_or arcs place d).to (get_or arcs place d).price
arc-there arcs place d within = record { number = place; within = within; is = get_or_default arcs place _ d within }

-- one more arc is held
pub held-more :
    (nodes : ℕ) (outs ins : List (List ℕ)) (arcs : List Arc) (place : ℕ) (arc : Arc) → AreRows nodes outs ins arcs place 0 →
    place < length arcs → arc ≡ get_or arcs place arc → (arc.from ≡ arc.to) ⊎ IsHeld outs ins arc.from arc.to →
    AreRows nodes outs ins arcs (place + 1) 0
held-more nodes outs ins arcs place arc are inside read here = record {
  outs_are = are.outs_are;
  ins_are = are.ins_are;
  held = λ k d below k_in apart.
      elim (cases_eq k place) [
        | inl same ↦
            let one : get_or arcs k d ≡ arc =
            ap (λ n. get_or arcs n d) same ∙ get_or_default arcs place d arc inside ∙ sym read in
            subst (λ (a : Arc). IsHeld outs ins a.from a.to) (sym one)
            (elim here [
              | inl loop ↦
                  absurd (apart (ap (λ (a : Arc). a.from) one ∙ loop ∙ sym (ap (λ (a : Arc). a.to) one)))
              | inr held ↦ held
            ])
        | inr other ↦ are.held k d (omega (arith, other, below)) k_in apart
      ];
  closed = are.closed;
}

-- empty rows
pub bare-lists : (nodes : ℕ) (rows : List (List ℕ)) → length rows ≡ nodes → ((v : ℕ) → row_at rows v ≡ []) → AreLists nodes rows
bare-lists nodes rows counted none = record {
  counted = counted;
  row = λ v v_in.
      let long : length (row_at rows v) ≡ 0 = ap length (none v) in
      record {
        sorted = λ i k less k_in. absurd (omega (arith, long, k_in));
        above = λ i i_in. absurd (omega (arith, long, i_in));
        within = λ i i_in. absurd (omega (arith, long, i_in));
      };
}

-- a row is in its order
pub row-sorted : (low nodes : ℕ) (row : List ℕ) → IsRow low nodes row → IsSorted nodes row
row-sorted low nodes row is = record { sorted = is.sorted; within = is.within }

-- a row takes more: the rows of heads
pub rows-out :
    (nodes : ℕ) (outs ins outs2 : List (List ℕ)) (arcs : List Arc) (taken node high : ℕ) → Widens nodes outs outs2 high → node ≤ high →
    AreRows nodes outs ins arcs taken node → AreRows nodes outs2 ins arcs taken node
rows-out nodes outs ins outs2 arcs taken node high widens up are =
    let keeps : (v x : ℕ) → Holds (row_at outs v) x → Holds (row_at outs2 v) x = widens-holds nodes outs outs2 high widens in
    let grows : (a b : ℕ) → IsHeld outs ins a b → IsHeld outs2 ins a b = held-grows outs ins outs2 ins keeps (λ v x h. h) in
    record {
      outs_are = widens-lists nodes outs outs2 high widens are.outs_are;
      ins_are = are.ins_are;
      held = λ k d below inside apart. grows (get_or arcs k d).from (get_or arcs k d).to (are.held k d below inside apart);
      closed = λ v tail head below ht hh apart.
          let stays : row_at outs2 v ≡ row_at outs v = widens.others v (λ same. absurd (omega (arith, same, below, up))) in
          let h : Holds (row_at outs v) head = subst (λ (r : List ℕ). Holds r head) stays hh in
          elim (are.closed v tail head below ht h apart) [
            | inl held ↦ inl (grows tail head held)
            | inr off ↦
                inr
                (record { by = off.by; later = off.later; tail_is = off.tail_is; head_is = keeps off.by head off.head_is })
          ];
    }

-- and those of tails
pub rows-in :
    (nodes : ℕ) (outs ins ins2 : List (List ℕ)) (arcs : List Arc) (taken node high : ℕ) → Widens nodes ins ins2 high → node ≤ high →
    AreRows nodes outs ins arcs taken node → AreRows nodes outs ins2 arcs taken node
rows-in nodes outs ins ins2 arcs taken node high widens up are =
    let keeps : (v x : ℕ) → Holds (row_at ins v) x → Holds (row_at ins2 v) x = widens-holds nodes ins ins2 high widens in
    let grows : (a b : ℕ) → IsHeld outs ins a b → IsHeld outs ins2 a b = held-grows outs ins outs ins2 (λ v x h. h) keeps in
    record {
      outs_are = are.outs_are;
      ins_are = widens-lists nodes ins ins2 high widens are.ins_are;
      held = λ k d below inside apart. grows (get_or arcs k d).from (get_or arcs k d).to (are.held k d below inside apart);
      closed = λ v tail head below ht hh apart.
          let stays : row_at ins2 v ≡ row_at ins v = widens.others v (λ same. absurd (omega (arith, same, below, up))) in
          let t : Holds (row_at ins v) tail = subst (λ (r : List ℕ). Holds r tail) stays ht in
          elim (are.closed v tail head below t hh apart) [
            | inl held ↦ inl (grows tail head held)
            | inr off ↦
                inr
                (record { by = off.by; later = off.later; tail_is = keeps off.by tail off.tail_is; head_is = off.head_is })
          ];
    }

-- the rows of nodes of a row, up to a node, hold what stands above them in another row
abbrev pub AreRaisedTo : (by row : List ℕ) (rows : List (List ℕ)) (last : ℕ) → Type 0
AreRaisedTo by row rows last =
    (k y : ℕ) → k < length by → get_or by k 0 ≤ last → Holds row y → get_or by k 0 < y → Holds (row_at rows (get_or by k 0)) y

module _ (nodes : ℕ) (outs ins : List (List ℕ)) (arcs : List Arc) (taken node last : ℕ) (are : AreRows nodes outs ins arcs taken node)
    (shared : IsShared (row_at outs node) (row_at ins node) last) (out_to : AreRaisedTo (row_at ins node) (row_at outs node) outs last)
    (in_to : AreRaisedTo (row_at outs node) (row_at ins node) ins last) (inside : node < nodes) (few : nodes < 2 ^ 32) where
  -- a tail and a head above the node are joined, or put off to one that is both
  node-closed : (tail head : ℕ) → Holds (row_at ins node) tail → Holds (row_at outs node) head → tail ≢ head →
      IsHeld outs ins tail head ⊎ IsPutOff outs ins tail head (node + 1)
  node-closed tail head t h apart =
      let tail_in : tail < nodes = omega (arith, (are.ins_are.row node inside).within t.place t.within, t.is) in
      elim (cases_lt last (min tail head)) [
        | inr near ↦
            inl
            (elim (cases_lt tail head) [
              | inl less ↦
                  inl
                  (subst (λ n. Holds (row_at outs n) head) t.is
                  (out_to t.place head t.within (omega (arith, near, t.is, less)) h (omega (arith, t.is, less))))
              | inr more ↦
                  inr
                  (subst (λ n. Holds (row_at ins n) tail) h.is
                  (in_to h.place tail h.within (omega (arith, near, h.is, more)) t (omega (arith, h.is, more, apart))))
            ])
        | inl far ↦
            let both = shared (omega (arith, far, tail_in, few)) in
            let as_head = both.0 in
            let as_tail = both.1 in
            let above = (are.outs_are.row node inside).above as_head.place as_head.within in
            inr
            (record {
              by = last;
              later = omega (arith, above, as_head.is);
              tail_is =
                  subst (λ n. Holds (row_at ins n) tail) as_head.is
                  (in_to as_head.place tail as_head.within (omega (arith, as_head.is)) t (omega (arith, as_head.is, far)));
              head_is =
                  subst (λ n. Holds (row_at outs n) head) as_tail.is
                  (out_to as_tail.place head as_tail.within (omega (arith, as_tail.is)) h (omega (arith, as_tail.is, far)));
            })
      ]

  -- the node is eliminated
  pub eliminated : AreRows nodes outs ins arcs taken (node + 1)
  eliminated = record {
    outs_are = are.outs_are;
    ins_are = are.ins_are;
    held = are.held;
    closed = λ v tail head below ht hh apart.
        elim (cases_eq v node) [
          | inl same ↦
              node-closed tail head (subst (λ n. Holds (row_at ins n) tail) same ht) (subst (λ n. Holds (row_at outs n) head) same hh)
              apart
          | inr other ↦
              elim (are.closed v tail head (omega (arith, other, below)) ht hh apart) [
                | inl held ↦ inl held
                | inr off ↦
                    elim (cases_eq off.by node) [
                      | inl here ↦
                          node-closed tail head (subst (λ n. Holds (row_at ins n) tail) here off.tail_is)
                          (subst (λ n. Holds (row_at outs n) head) here off.head_is) apart
                      | inr apart_too ↦
                          inr
                          (record {
                            by = off.by;
                            later = omega (arith, apart_too, off.later);
                            tail_is = off.tail_is;
                            head_is = off.head_is;
                          })
                    ]
              ]
        ];
  }

-- a row that takes nothing
pub widens-none : (nodes low : ℕ) (rows : List (List ℕ)) → AreLists nodes rows → low < nodes → Widens nodes rows rows low
widens-none nodes low rows are inside =
    record { counted = refl; row = are.row low inside; keeps = λ x h. h; others = λ other apart. refl }
