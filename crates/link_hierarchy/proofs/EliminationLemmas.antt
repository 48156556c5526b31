-- Nodes are eliminated one after the other.
use Rattle.std.proofs.Common.{◌≡◌, ◌≢◌, ℕ, suc, ◌+◌, ◌-◌, ◌*◌, ◌^◌, ◌<◌, ◌≤◌, inl, inr, List, [], ◌∷◌, ◌++◌, length, get_or, Vec, refl, sym, ap, ◌∙◌, subst, arith}
use Rattle.std.proofs.Math.Nat.{suc-mul}
use Rattle.std.proofs.lemmas.Bool.{cases_eq, cases_lt}
use Rattle.std.proofs.lemmas.List.{length-map}
use Rattle.std.specs.declared.alloc.Global.{Global}
use Rattle.item_list.specs.Pages.{numbers_of}
use Rattle.link_hierarchy.specs.Arcs.{Covers}
use Rattle.link_hierarchy.specs.Eliminations.{AreRaised, ArePassed, IsElimination, IsShared, Lays, left_of}
use Rattle.link_hierarchy.specs.Rows.{AreLists, AreRows, Holds, IsFlat, IsItem, IsRow, Widens, row_at}
use Rattle.link_hierarchy.specs.Topologies.{IsTopology}
use Rattle.link_hierarchy.specs.declared.arcs.Arc.{Arc}
use Rattle.link_hierarchy.specs.declared.elimination.Elimination.{Elimination}
use Rattle.link_hierarchy.proofs.FlatLemmas.{flat-alike, flat-begin, flat-covers, flat-more, flat-topology}
use Rattle.link_hierarchy.proofs.RowLemmas.{eliminated, rows-in, rows-out, widens-holds, widens-lists}
use Rattle.link_hierarchy.proofs.RaiseLemmas.{row-short, replaced, raised-grows, raised-more, raised-none, raised-all}

-- how many lists there are
pub numbers-counted : (new old : List (Vec ℕ Global)) → length new ≡ length old → length (numbers_of new) ≡ length (numbers_of old)
numbers-counted new old counted =
    length-map new (λ (p : Vec ℕ Global). p.items) ∙ counted ∙ sym (length-map old (λ (p : Vec ℕ Global). p.items))

-- what is read of a row at a place stands there
item-at : (row row2 : List ℕ) (count item : ℕ) → row ≡ row2 → IsItem row count item → item < 0xffff_ffff →
    (count < length row2) × (item ≡ get_or row2 count 0)
item-at row row2 count item same is low =
    elim (cases_lt count (length row)) [
      | inl there ↦
          (omega (arith, ap length same, there), is.there there ∙ ap (λ (r : List ℕ). get_or r count 0) same)
      | inr behind ↦ absurd (omega (arith, is.behind behind, low))
    ]

module _ (arcs : List Arc) (e : Elimination) (is : IsElimination arcs e) (more : e.node < e.rows.nodes) where
  -- the rows of the node stand among all rows
  out-row : row_at (numbers_of e.rows.outs.items) e.node ≡ row_at is.outs e.node
  out-row = is.out_from e.node (omega arith)

  in-row : row_at (numbers_of e.rows.ins.items) e.node ≡ row_at is.ins e.node
  in-row = is.in_from e.node (omega arith)

  -- a tail and a head of the node
  pub tail-above : (tail : ℕ) → IsItem (row_at (numbers_of e.rows.ins.items) e.node) e.tails_done tail → tail < 0xffff_ffff →
      (e.node < tail) × (tail < e.rows.nodes)
  tail-above tail item low =
      let at = item-at _ _ e.tails_done tail refl item low in
      let row = is.in_lists.row e.node more in
      (omega (arith, at.1, row.above e.tails_done at.0), omega (arith, at.1, row.within e.tails_done at.0))

  pub head-above : (head : ℕ) → IsItem (row_at (numbers_of e.rows.outs.items) e.node) e.heads_done head → head < 0xffff_ffff →
      (e.node < head) × (head < e.rows.nodes)
  head-above head item low =
      let at = item-at _ _ e.heads_done head refl item low in
      let row = is.out_lists.row e.node more in
      (omega (arith, at.1, row.above e.heads_done at.0), omega (arith, at.1, row.within e.heads_done at.0))

  -- the row of a tail took what stands above it
  pub tail-done :
      (outs2 : Vec (Vec ℕ Global) Global) (tail : ℕ) → IsItem (row_at (numbers_of e.rows.ins.items) e.node) e.tails_done tail →
      tail < 0xffff_ffff → Widens e.rows.nodes (numbers_of e.rows.outs.items) (numbers_of outs2.items) tail →
      ((y : ℕ) → Holds (row_at (numbers_of e.rows.outs.items) e.node) y → tail < y → Holds (row_at (numbers_of outs2.items) tail) y) →
      IsElimination arcs (record e { rows = record e.rows { outs = outs2 }; tails_done = e.tails_done + 1 })
  tail-done outs2 tail item low widens takes =
      let up = tail-above tail item low in
      let at_least : e.node ≤ tail = omega (arith, up.0) in
      let all =
      replaced e.rows.nodes e.node tail is.outs (numbers_of e.rows.outs.items) (numbers_of outs2.items) is.out_from at_least widens
      (omega (arith, is.are.outs_are.counted, up.1)) in
      let here : row_at all.rows e.node ≡ row_at is.outs e.node = all.below e.node up.0 in
      let at = item-at (row_at (numbers_of e.rows.ins.items) e.node) (row_at is.ins e.node) e.tails_done tail in-row item low in
      record {
        outs = all.rows;
        ins = is.ins;
        inside = is.inside;
        are = rows-out e.rows.nodes is.outs is.ins all.rows arcs (length arcs) e.node tail all.widens at_least is.are;
        out_lists = widens-lists e.rows.nodes (numbers_of e.rows.outs.items) (numbers_of outs2.items) tail widens is.out_lists;
        in_lists = is.in_lists;
        out_from = all.from;
        in_from = is.in_from;
        out_flat =
            flat-alike is.outs all.rows e.node e.out_starts.items e.heads.items (λ v below. all.below v (omega (arith, below, up.0)))
            is.out_flat;
        in_flat = is.in_flat;
        shared = λ near.
            let both = is.shared near in
            (subst (λ (r : List ℕ). Holds r e.last) (sym here) both.0, both.1);
        tails_in = omega (arith, at.0);
        heads_in = omega (arith, ap length here, is.heads_in);
        tails =
            raised-more (row_at is.ins e.node) (row_at all.rows e.node) all.rows e.tails_done tail at.1
            (λ y h above. all.takes y (takes y (subst (λ (r : List ℕ). Holds r y) (here ∙ sym out-row) h) above))
            (subst (λ (r : List ℕ). AreRaised (row_at is.ins e.node) r all.rows e.tails_done) (sym here)
            (raised-grows (row_at is.ins e.node) (row_at is.outs e.node) is.outs all.rows e.tails_done
            (widens-holds e.rows.nodes is.outs all.rows tail all.widens) is.tails));
        heads = subst (λ (r : List ℕ). AreRaised r (row_at is.ins e.node) is.ins e.heads_done) (sym here) is.heads;
      }

  -- the row of a head did
  pub head-done :
      (ins2 : Vec (Vec ℕ Global) Global) (head : ℕ) → IsItem (row_at (numbers_of e.rows.outs.items) e.node) e.heads_done head →
      head < 0xffff_ffff → Widens e.rows.nodes (numbers_of e.rows.ins.items) (numbers_of ins2.items) head →
      ((y : ℕ) → Holds (row_at (numbers_of e.rows.ins.items) e.node) y → head < y → Holds (row_at (numbers_of ins2.items) head) y) →
      IsElimination arcs (record e { rows = record e.rows { ins = ins2 }; heads_done = e.heads_done + 1 })
  head-done ins2 head item low widens takes =
      let up = head-above head item low in
      let at_least : e.node ≤ head = omega (arith, up.0) in
      let all =
      replaced e.rows.nodes e.node head is.ins (numbers_of e.rows.ins.items) (numbers_of ins2.items) is.in_from at_least widens
      (omega (arith, is.are.ins_are.counted, up.1)) in
      let here : row_at all.rows e.node ≡ row_at is.ins e.node = all.below e.node up.0 in
      let at = item-at (row_at (numbers_of e.rows.outs.items) e.node) (row_at is.outs e.node) e.heads_done head out-row item low in
      record {
        outs = is.outs;
        ins = all.rows;
        inside = is.inside;
        are = rows-in e.rows.nodes is.outs is.ins all.rows arcs (length arcs) e.node head all.widens at_least is.are;
        out_lists = is.out_lists;
        in_lists = widens-lists e.rows.nodes (numbers_of e.rows.ins.items) (numbers_of ins2.items) head widens is.in_lists;
        out_from = is.out_from;
        in_from = all.from;
        out_flat = is.out_flat;
        in_flat =
            flat-alike is.ins all.rows e.node e.in_starts.items e.tails.items (λ v below. all.below v (omega (arith, below, up.0)))
            is.in_flat;
        shared = λ near.
            let both = is.shared near in
            (both.0, subst (λ (r : List ℕ). Holds r e.last) (sym here) both.1);
        tails_in = omega (arith, ap length here, is.tails_in);
        heads_in = omega (arith, at.0);
        tails = subst (λ (r : List ℕ). AreRaised r (row_at is.outs e.node) is.outs e.tails_done) (sym here) is.tails;
        heads =
            raised-more (row_at is.outs e.node) (row_at all.rows e.node) all.rows e.heads_done head at.1
            (λ y h above. all.takes y (takes y (subst (λ (r : List ℕ). Holds r y) (here ∙ sym in-row) h) above))
            (subst (λ (r : List ℕ). AreRaised (row_at is.outs e.node) r all.rows e.heads_done) (sym here)
            (raised-grows (row_at is.outs e.node) (row_at is.ins e.node) is.ins all.rows e.heads_done
            (widens-holds e.rows.nodes is.ins all.rows head all.widens) is.heads));
      }

  -- the nodes of a row are below the number that stands behind all
  below-all : (rows : List (List ℕ)) → AreLists e.rows.nodes rows → e.rows.nodes < 2 ^ 32 → (k : ℕ) → k < length (row_at rows e.node) →
      get_or (row_at rows e.node) k 0 < 0xffff_ffff
  below-all rows lists few k inside = omega (arith, few, (lists.row e.node more).within k inside)

  -- the node is eliminated
  pub all-done : (tail head : ℕ) → ArePassed arcs e tail head → e.rows.nodes < 2 ^ 32 →
      AreRows e.rows.nodes is.outs is.ins arcs (length arcs) (e.node + 1)
  all-done tail head passed few =
      eliminated e.rows.nodes is.outs is.ins arcs (length arcs) e.node e.last is.are is.shared
      (raised-all (row_at is.ins e.node) (row_at is.outs e.node) is.outs e.tails_done tail e.last
      (is.are.ins_are.row e.node more).sorted
      (subst (λ (r : List ℕ). IsItem r e.tails_done tail) in-row passed.tail_is) passed.tail_over
      (below-all is.ins is.are.ins_are few) is.tails)
      (raised-all (row_at is.outs e.node) (row_at is.ins e.node) is.ins e.heads_done head e.last
      (is.are.outs_are.row e.node more).sorted
      (subst (λ (r : List ℕ). IsItem r e.heads_done head) out-row passed.head_is) passed.head_over
      (below-all is.outs is.are.outs_are few) is.heads)
      more few

  -- rows of all nodes stay so where one of them leaves its place
  pub laid-lists : (rows rows2 : List (List ℕ)) → AreLists e.rows.nodes rows → length rows2 ≡ length rows → row_at rows2 e.node ≡ [] →
      ((v : ℕ) → v ≢ e.node → row_at rows2 v ≡ row_at rows v) → AreLists e.rows.nodes rows2
  laid-lists rows rows2 lists counted here others = record {
    counted = counted ∙ lists.counted;
    row = λ v inside.
        elim (cases_eq v e.node) [
          | inl same ↦
              let none : row_at rows2 v ≡ [] = ap (row_at rows2) same ∙ here in
              let long : length (row_at rows2 v) ≡ 0 = ap length none in
              record {
                sorted = λ i k less k_in. absurd (omega (arith, long, k_in));
                above = λ i i_in. absurd (omega (arith, long, i_in));
                within = λ i i_in. absurd (omega (arith, long, i_in));
              }
          | inr other ↦ subst (λ (r : List ℕ). IsRow v e.rows.nodes r) (sym (others v other)) (lists.row v inside)
        ];
  }

  -- the row of the node is laid
  laid-flat : (all rows : List (List ℕ)) (starts starts2 laid laid2 : List ℕ) → row_at rows e.node ≡ row_at all e.node →
      laid2 ≡ laid ++ row_at rows e.node → starts2 ≡ starts ++ length laid2 ∷ [] → IsFlat all e.node starts laid →
      IsFlat all (e.node + 1) starts2 laid2
  laid-flat all rows starts starts2 laid laid2 row laid_is starts_is flat =
      let whole : laid2 ≡ laid ++ row_at all e.node = laid_is ∙ ap (λ (r : List ℕ). laid ++ r) row in
      subst (λ (s : List ℕ). IsFlat all (e.node + 1) s laid2) (sym (starts_is ∙ ap (λ (l : List ℕ). starts ++ length l ∷ []) whole))
      (subst (λ (l : List ℕ). IsFlat all (e.node + 1) (starts ++ length (laid ++ row_at all e.node) ∷ []) l) (sym whole)
      (flat-more all e.node starts laid flat))

  -- the next node comes
  pub passed :
      (tail head last : ℕ) (outs2 ins2 : Vec (Vec ℕ Global) Global) (out_starts2 in_starts2 : Vec ℕ Global) (heads2 tails2 : Vec ℕ Global) →
      ArePassed arcs e tail head → e.rows.nodes < 2 ^ 32 →
      Lays e.rows.outs.items outs2.items e.out_starts.items out_starts2.items e.heads.items heads2.items e.node →
      Lays e.rows.ins.items ins2.items e.in_starts.items in_starts2.items e.tails.items tails2.items e.node →
      IsShared (row_at (numbers_of outs2.items) (e.node + 1)) (row_at (numbers_of ins2.items) (e.node + 1)) last →
      IsElimination arcs
      (record e {
        rows = record e.rows { outs = outs2; ins = ins2 };
        out_starts = out_starts2;
        heads = heads2;
        in_starts = in_starts2;
        tails = tails2;
        node = e.node + 1;
        last = last;
        tails_done = 0;
        heads_done = 0;
      })
  passed tail head last outs2 ins2 out_starts2 in_starts2 heads2 tails2 done few out_lays in_lays shared =
      let out_next : row_at (numbers_of outs2.items) (e.node + 1) ≡ row_at is.outs (e.node + 1) =
      out_lays.others (e.node + 1) (λ same. absurd (omega (arith, same))) ∙ is.out_from (e.node + 1) (omega arith) in
      let in_next : row_at (numbers_of ins2.items) (e.node + 1) ≡ row_at is.ins (e.node + 1) =
      in_lays.others (e.node + 1) (λ same. absurd (omega (arith, same))) ∙ is.in_from (e.node + 1) (omega arith) in
      record {
        outs = is.outs;
        ins = is.ins;
        inside = omega (arith, more);
        are = all-done tail head done few;
        out_lists =
            laid-lists (numbers_of e.rows.outs.items) (numbers_of outs2.items) is.out_lists (numbers-counted outs2.items e.rows.outs.items out_lays.counted) out_lays.here out_lays.others;
        in_lists =
            laid-lists (numbers_of e.rows.ins.items) (numbers_of ins2.items) is.in_lists (numbers-counted ins2.items e.rows.ins.items in_lays.counted) in_lays.here in_lays.others;
        out_from = λ v least.
            out_lays.others v (λ same. absurd (omega (arith, same, least))) ∙ is.out_from v (omega (arith, least));
        in_from = λ v least.
            in_lays.others v (λ same. absurd (omega (arith, same, least))) ∙ is.in_from v (omega (arith, least));
        out_flat =
            laid-flat is.outs (numbers_of e.rows.outs.items) e.out_starts.items out_starts2.items e.heads.items heads2.items out-row
            out_lays.laid_is out_lays.starts_is is.out_flat;
        in_flat =
            laid-flat is.ins (numbers_of e.rows.ins.items) e.in_starts.items in_starts2.items e.tails.items tails2.items in-row
            in_lays.laid_is in_lays.starts_is is.in_flat;
        shared =
            subst (λ (r : List ℕ). IsShared r (row_at is.ins (e.node + 1)) last) out_next
            (subst (λ (r : List ℕ). IsShared (row_at (numbers_of outs2.items) (e.node + 1)) r last) in_next shared);
        tails_in = omega arith;
        heads_in = omega arith;
        tails = raised-none (row_at is.ins (e.node + 1)) (row_at is.outs (e.node + 1)) is.outs;
        heads = raised-none (row_at is.outs (e.node + 1)) (row_at is.ins (e.node + 1)) is.ins;
      }

-- before any node is eliminated
pub elimination-begins :
    (arcs : List Arc) (e : Elimination) → AreRows e.rows.nodes (numbers_of e.rows.outs.items) (numbers_of e.rows.ins.items) arcs (length arcs) 0 →
    e.out_starts.items ≡ 0 ∷ [] → e.heads.items ≡ [] → e.in_starts.items ≡ 0 ∷ [] → e.tails.items ≡ [] → e.node ≡ 0 →
    e.tails_done ≡ 0 → e.heads_done ≡ 0 → IsShared (row_at (numbers_of e.rows.outs.items) 0) (row_at (numbers_of e.rows.ins.items) 0) e.last →
    IsElimination arcs e
elimination-begins arcs e are out_starts heads in_starts tails node tails_done heads_done shared =
    let outs = numbers_of e.rows.outs.items in
    let ins = numbers_of e.rows.ins.items in
    record {
      outs = outs;
      ins = ins;
      inside = omega (arith, node);
      are = subst (λ n. AreRows e.rows.nodes outs ins arcs (length arcs) n) (sym node) are;
      out_lists = are.outs_are;
      in_lists = are.ins_are;
      out_from = λ v least. refl;
      in_from = λ v least. refl;
      out_flat = rw node (rw out_starts (rw heads (flat-begin outs)));
      in_flat = rw node (rw in_starts (rw tails (flat-begin ins)));
      shared = subst (λ n. IsShared (row_at outs n) (row_at ins n) e.last) (sym node) shared;
      tails_in = omega (arith, tails_done);
      heads_in = omega (arith, heads_done);
      tails = subst (λ n. AreRaised (row_at ins e.node) (row_at outs e.node) outs n) (sym tails_done) (raised-none (row_at ins e.node) (row_at outs e.node) outs);
      heads = subst (λ n. AreRaised (row_at outs e.node) (row_at ins e.node) ins n) (sym heads_done) (raised-none (row_at outs e.node) (row_at ins e.node) ins);
    }

-- once all nodes are
module _ (arcs : List Arc) (e : Elimination) (is : IsElimination arcs e) (over : e.node ≡ e.rows.nodes) where
  at-end : AreRows e.node is.outs is.ins arcs (length arcs) e.node
  at-end = subst (λ n. AreRows n is.outs is.ins arcs (length arcs) e.node) (sym over) is.are

  pub ended-topology : e.node < 2 ^ 32 → length e.heads.items < 2 ^ 64 → length e.tails.items < 2 ^ 64 →
      IsTopology (record { nodes = e.node; out_starts = e.out_starts.items; heads = e.heads.items; in_starts = e.in_starts.items; tails = e.tails.items })
  ended-topology few fits fits_too =
      flat-topology e.node is.outs is.ins arcs (length arcs) e.out_starts.items e.heads.items e.in_starts.items e.tails.items at-end
      is.out_flat is.in_flat few fits fits_too

  pub ended-covers :
      Covers (record { nodes = e.node; out_starts = e.out_starts.items; heads = e.heads.items; in_starts = e.in_starts.items; tails = e.tails.items }) arcs
  ended-covers =
      flat-covers e.node is.outs is.ins arcs (length arcs) e.out_starts.items e.heads.items e.in_starts.items e.tails.items at-end
      is.out_flat is.in_flat (omega arith)

-- ---- Each step leaves fewer

module _ (arcs : List Arc) (e : Elimination) (is : IsElimination arcs e) (more : e.node < e.rows.nodes) where
  -- a node has no more tails and heads than there are nodes
  pub rows-short : (length (row_at is.ins e.node) ≤ e.rows.nodes) × (length (row_at is.outs e.node) ≤ e.rows.nodes)
  rows-short = (
    row-short e.node e.rows.nodes (row_at is.ins e.node) (is.are.ins_are.row e.node more),
    row-short e.node e.rows.nodes (row_at is.outs e.node) (is.are.outs_are.row e.node more),
  )

  -- the next node leaves fewer steps
  pub pass-fewer : (e.rows.nodes - (e.node + 1)) * (2 * e.rows.nodes + 1) + (2 * e.rows.nodes - (0 + 0)) < left_of e
  pass-fewer =
      let nodes = e.rows.nodes in
      let short = rows-short in
      let split : nodes - e.node ≡ suc (nodes - (e.node + 1)) = omega (arith, more) in
      let times : (nodes - e.node) * (2 * nodes + 1) ≡ (nodes - (e.node + 1)) * (2 * nodes + 1) + (2 * nodes + 1) =
      ap (λ n. n * (2 * nodes + 1)) split ∙ suc-mul (nodes - (e.node + 1)) (2 * nodes + 1) in
      omega (arith, times, short.0, short.1, is.tails_in, is.heads_in)

  -- so does one more tail
  pub tail-fewer : (tail : ℕ) → IsItem (row_at (numbers_of e.rows.ins.items) e.node) e.tails_done tail → tail < 0xffff_ffff →
      (e.rows.nodes - e.node) * (2 * e.rows.nodes + 1) + (2 * e.rows.nodes - ((e.tails_done + 1) + e.heads_done)) < left_of e
  tail-fewer tail item low =
      let at = item-at (row_at (numbers_of e.rows.ins.items) e.node) (row_at is.ins e.node) e.tails_done tail (is.in_from e.node (omega arith)) item low in
      let short = rows-short in
      omega (arith, at.0, short.0, short.1, is.heads_in)

  -- and one more head
  pub head-fewer : (head : ℕ) → IsItem (row_at (numbers_of e.rows.outs.items) e.node) e.heads_done head → head < 0xffff_ffff →
      (e.rows.nodes - e.node) * (2 * e.rows.nodes + 1) + (2 * e.rows.nodes - (e.tails_done + (e.heads_done + 1))) < left_of e
  head-fewer head item low =
      let at = item-at (row_at (numbers_of e.rows.outs.items) e.node) (row_at is.outs e.node) e.heads_done head (is.out_from e.node (omega arith)) item low in
      let short = rows-short in
      omega (arith, at.0, short.0, short.1, is.tails_in)
