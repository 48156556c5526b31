-- One node after the other.
use Rattle.std.proofs.Common.{◌≡◌, ℕ, ℤ, ◌+◌, ◌<◌, inl, inr, List, [], ◌∷◌, ◌++◌, length, sym, ap, subst, ◌∙◌, arith}
use mir.Val.{SFits}
use mir.Syntax.{w64}
use Rattle.std.proofs.lemmas.Int.{to_z-of_z}
use Rattle.std.proofs.lemmas.Bool.{cases_eq}
use Rattle.std.proofs.lemmas.List.{get_or_append_left, get_or_push, length-append}
use Rattle.std.proofs.lemmas.Option.{slice_get-get_or}
use Rattle.geo_int.specs.Place.{Place}
use Rattle.map_tables.specs.Kept.{Kept}
use Rattle.overpass_graph.specs.declared.order.NodeId.{NodeId}
use Rattle.overpass_graph.specs.Maps.{node_at, no_node}
use Rattle.overpass_graph.specs.Orders.{row_at, no_row, AreRowsBelow}
use Rattle.overpass_graph.proofs.rows.rows_of.Goals as goal

-- one more row, that of the next node
rows-more : (nodes : List (Kept Place)) (rows new : List NodeId) (id : ℤ) (n : ℕ) → AreRowsBelow nodes rows n → id ≡ (node_at nodes n).id →
    new ≡ rows ++ record { id = id; place = n } ∷ [] → AreRowsBelow nodes new (n + 1)
rows-more nodes rows new id n are same is =
    let row : NodeId = record { id = id; place = n } in
    record {
      length_is = omega (arith, ap length is, length-append rows (row ∷ []), are.length_is);
      row = λ k within.
          elim (cases_eq k n) [
            | inl last ↦
                ap (λ rs. row_at rs k) is ∙ ap (row_at (rows ++ row ∷ [])) last
                ∙ get_or_push rows row no_row n are.length_is
                ∙ ap (λ (i : ℤ). record { id = i; place = n }) same
                ∙ ap (λ (j : ℕ). record { id = (node_at nodes j).id; place = j }) (sym last)
            | inr earlier ↦
                ap (λ rs. row_at rs k) is ∙ get_or_append_left rows (row ∷ []) no_row k (omega (arith, are.length_is))
                ∙ are.row k (omega arith)
          ];
    }

pub nodes-init : goal.nodes-init
nodes-init c = record { length_is = ap length c.in_ok-rows.ensures.items; row = λ k below. absurd (omega arith) }

pub node_id-id-requires : goal.node_id-id-requires
node_id-id-requires c = record { fits = subst (λ n. c.nodes.node < n) c.nodes-count.ensures.value c.nodes-test.true }

pub nodes-preserved : goal.nodes-preserved
nodes-preserved c =
    let fits : SFits w64 c.node_id-id.result = record { sfits = c.node_id-id.type_inv } in
    rows-more c.args.tables.now.draft.nodes _ _ _ c.nodes.node c.nodes.invariant
    (to_z-of_z w64 c.node_id-id.result fits
    ∙ c.node_id-id.ensures.value _
    (slice_get-get_or c.args.tables.now.draft.nodes c.nodes.node no_node
    (subst (λ n. c.nodes.node < n) c.nodes-count.ensures.value c.nodes-test.true)))
    c.in_ok-push.ensures.items

pub returns : goal.returns
returns c =
    let all : c.nodes.node ≡ length c.args.tables.now.draft.nodes = omega arith in
    record { exact = subst (AreRowsBelow c.args.tables.now.draft.nodes c.nodes.rows.items) all c.nodes.invariant }
