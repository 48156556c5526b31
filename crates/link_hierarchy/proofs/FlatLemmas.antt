-- Rows one after the other.
use Rattle.std.proofs.Common.{◌≡◌, ℕ, ◌+◌, ◌-◌, ◌^◌, ◌<◌, ◌≤◌, inl, inr, List, [], ◌∷◌, ◌++◌, length, get_or, refl, sym, ap, ◌∙◌, subst, arith}
use Rattle.std.proofs.lemmas.Bool.{cases_eq, cases_lt}
use Rattle.std.proofs.lemmas.List.{get_or_append_left, get_or-append-add, get_or_push, length-append, length_push}
use Rattle.link_hierarchy.specs.Arcs.{Covers, arc_from}
use Rattle.link_hierarchy.specs.Rows.{AreLists, AreRows, Holds, IsFlat, IsHeld, row_at}
use Rattle.link_hierarchy.specs.Topologies.{AreJoined, Half, IsHalf, IsLinked, IsPair, IsPlace, IsTopology, Topology, head_of}
use Rattle.link_hierarchy.specs.declared.arcs.Arc.{Arc}
use Rattle.link_hierarchy.proofs.RowLemmas.{holds-in}

-- no rows
pub flat-begin : (rows : List (List ℕ)) → IsFlat rows 0 (0 ∷ []) []
flat-begin rows = record {
  counted = omega arith;
  ends = refl;
  long = λ v below. absurd (omega (arith, below));
  most = λ v most.
      let e : v ≡ 0 = omega arith in
      rw e (omega arith);
  same = λ v k below. absurd (omega (arith, below));
}

-- one more row
pub flat-more :
    (rows : List (List ℕ)) (count : ℕ) (starts heads : List ℕ) → IsFlat rows count starts heads →
    IsFlat rows (count + 1) (starts ++ length (heads ++ row_at rows count) ∷ []) (heads ++ row_at rows count)
flat-more rows count starts heads is =
    let row = row_at rows count in
    let whole = length-append heads (row_at rows count) in
    let last : get_or (starts ++ length (heads ++ row_at rows count) ∷ []) (count + 1) 0 ≡ length (heads ++ row_at rows count) =
    get_or_push starts (length (heads ++ row_at rows count)) 0 (count + 1) is.counted in
    let old : (v : ℕ) → v ≤ count → get_or (starts ++ length (heads ++ row_at rows count) ∷ []) v 0 ≡ get_or starts v 0 = λ v most.
    get_or_append_left starts (length (heads ++ row_at rows count) ∷ []) 0 v (omega (arith, is.counted, most)) in
    record {
      counted = omega (arith, length_push starts (length (heads ++ row_at rows count)), is.counted);
      ends = last;
      long = λ v below.
          elim (cases_eq v count) [
            | inl same ↦
                rw same (omega (arith, last, old count (omega arith), is.ends, whole))
            | inr other ↦
                omega (
                  arith,
                  old v (omega (arith, below)),
                  old (v + 1) (omega (arith, below, other)),
                  is.long v (omega (arith, below, other)),
                )
          ];
      most = λ v most.
          elim (cases_lt count v) [
            | inl more ↦
                let e : v ≡ count + 1 = omega (arith, most, more) in
                rw e (omega (arith, last))
            | inr less ↦ omega (arith, old v less, is.most v less, whole)
          ];
      same = λ v k below inside.
          elim (cases_eq v count) [
            | inl same ↦
                let start : get_or (starts ++ length (heads ++ row_at rows count) ∷ []) v 0 ≡ length heads =
                ap (λ n. get_or (starts ++ length (heads ++ row_at rows count) ∷ []) n 0) same ∙ old count (omega arith) ∙ is.ends in
                ap (λ n. get_or (heads ++ row_at rows count) (n + k) 0) start
                ∙ get_or-append-add heads (row_at rows count) k 0
                ∙ ap (λ n. get_or (row_at rows n) k 0) (sym same)
            | inr other ↦
                let less : v < count = omega (arith, below, other) in
                let start = old v (omega (arith, below)) in
                let in_heads : get_or starts v 0 + k < length heads =
                omega (arith, is.long v less, is.most (v + 1) (omega (arith, less)), inside) in
                ap (λ n. get_or (heads ++ row_at rows count) (n + k) 0) start
                ∙ get_or_append_left heads (row_at rows count) 0 (get_or starts v 0 + k) in_heads
                ∙ is.same v k less inside
          ];
    }

module _ (nodes : ℕ) (rows : List (List ℕ)) (starts heads : List ℕ) (are : AreLists nodes rows) (flat : IsFlat rows nodes starts heads) where
  -- one direction of the rows
  abbrev pub half_is : Half
  half_is = record { nodes = nodes; starts = starts; heads = heads }

  -- a pair is held
  pub pair-holds : (v u place : ℕ) → IsPair half_is v u place → Holds (row_at rows v) u
  pair-holds v u place pair =
      let at = pair.at in
      let k : ℕ = place - get_or starts v 0 in
      let e : get_or starts v 0 + (place - get_or starts v 0) ≡ place = omega (arith, at.from_start) in
      let inside : place - get_or starts v 0 < length (row_at rows v) =
      omega (arith, at.to_end, at.from_start, flat.long v at.node_in) in
      record {
        place = place - get_or starts v 0;
        within = inside;
        is = sym (flat.same v (place - get_or starts v 0) at.node_in inside) ∙ ap (λ n. get_or heads n 0) e ∙ pair.is;
      }

  -- what is held is joined
  pub holds-joined : (v u : ℕ) → Holds (row_at rows v) u → AreJoined half_is v u
  holds-joined v u h =
      let v_in : v < nodes = omega (arith, are.counted, holds-in rows v u h) in
      record {
        place = get_or starts v 0 + h.place;
        is = record {
          at = record {
            node_in = v_in;
            from_start = omega arith;
            to_end = omega (arith, flat.long v v_in, h.within);
          };
          is = flat.same v h.place v_in h.within ∙ h.is;
        };
      }

  -- a node at a place
  place-node : (v place : ℕ) → IsPlace half_is v place → head_of half_is place ≡ get_or (row_at rows v) (place - get_or starts v 0) 0
  place-node v place at =
      let e : place ≡ get_or starts v 0 + (place - get_or starts v 0) = omega (arith, at.from_start) in
      ap (λ n. get_or heads n 0) e
      ∙ flat.same v (place - get_or starts v 0) at.node_in (omega (arith, at.to_end, at.from_start, flat.long v at.node_in))

  -- rows make one direction
  pub flat-half : nodes < 2 ^ 32 → length heads < 2 ^ 64 → IsHalf half_is
  flat-half few fits = record {
    few = few;
    fits = fits;
    counted = flat.counted;
    grows = λ v v_in. omega (arith, flat.long v v_in);
    ends = flat.ends;
    rises = λ v u place pair.
        let h = pair-holds v u place pair in
        let row = are.row v pair.at.node_in in
        omega (arith, row.above h.place h.within, h.is);
    within = λ v u place pair.
        let h = pair-holds v u place pair in
        let row = are.row v pair.at.node_in in
        omega (arith, row.within h.place h.within, h.is);
    sorted = λ v i k at_i at_k less.
        let row = are.row v at_i.node_in in
        let ei = place-node v i at_i in
        let ek = place-node v k at_k in
        let before =
        row.sorted (i - get_or starts v 0) (k - get_or starts v 0) (omega (arith, less, at_i.from_start))
        (omega (arith, at_k.to_end, at_k.from_start, flat.long v at_k.node_in)) in
        omega (arith, ei, ek, before);
  }

-- rows that are alike below a node lie alike
pub flat-alike : (rows rows2 : List (List ℕ)) (count : ℕ) (starts heads : List ℕ) →
    ((v : ℕ) → v < count → row_at rows2 v ≡ row_at rows v) → IsFlat rows count starts heads → IsFlat rows2 count starts heads
flat-alike rows rows2 count starts heads alike is = record {
  counted = is.counted;
  ends = is.ends;
  long = λ v below. is.long v below ∙ ap (λ (r : List ℕ). get_or starts v 0 + length r) (sym (alike v below));
  most = is.most;
  same = λ v k below inside.
      is.same v k below (omega (arith, ap length (alike v below), inside)) ∙ ap (λ (r : List ℕ). get_or r k 0) (sym (alike v below));
}

-- two directions make a topology
module _ (nodes : ℕ) (outs ins : List (List ℕ)) (arcs : List Arc) (taken : ℕ) (out_starts heads in_starts tails : List ℕ)
    (are : AreRows nodes outs ins arcs taken nodes) (out_flat : IsFlat outs nodes out_starts heads)
    (in_flat : IsFlat ins nodes in_starts tails) where
  -- the topology of the rows
  abbrev pub topology_is : Topology
  topology_is = record { nodes = nodes; out_starts = out_starts; heads = heads; in_starts = in_starts; tails = tails }

  -- what is held is linked
  held-linked : (a b : ℕ) → IsHeld outs ins a b → IsLinked topology_is a b
  held-linked a b (inl up) = inl (holds-joined nodes outs out_starts heads are.outs_are out_flat a b up)
  held-linked a b (inr down) = inr (holds-joined nodes ins in_starts tails are.ins_are in_flat b a down)

  pub flat-topology : nodes < 2 ^ 32 → length heads < 2 ^ 64 → length tails < 2 ^ 64 → IsTopology topology_is
  flat-topology few fits fits_too = record {
    out = flat-half nodes outs out_starts heads are.outs_are out_flat few fits;
    into = flat-half nodes ins in_starts tails are.ins_are in_flat few fits_too;
    closed = λ v tail head first second p q apart.
        elim
        (are.closed v tail head p.at.node_in (pair-holds nodes ins in_starts tails are.ins_are in_flat v tail first p)
        (pair-holds nodes outs out_starts heads are.outs_are out_flat v head second q) apart) [
          | inl held ↦ held-linked tail head held
          | inr off ↦ absurd (omega (arith, off.later, are.ins_are.counted, holds-in ins off.by tail off.tail_is))
        ];
  }

  -- arcs are linked
  pub flat-covers : length arcs ≤ taken → Covers topology_is arcs
  flat-covers all a b price arc apart =
      let from_is : (get_or arcs arc.number (arc_from a b price)).from ≡ a = ap (λ (x : Arc). x.from) arc.is in
      let to_is : (get_or arcs arc.number (arc_from a b price)).to ≡ b = ap (λ (x : Arc). x.to) arc.is in
      let held =
      are.held arc.number (arc_from a b price) (omega (arith, all, arc.within)) arc.within
      (λ loop. apart (sym from_is ∙ loop ∙ to_is)) in
      held-linked a b
      (subst (λ n. IsHeld outs ins n b) from_is
      (subst (λ n. IsHeld outs ins (get_or arcs arc.number (arc_from a b price)).from n) to_is held))
