use Rattle.std.proofs.Common.{◌≡◌, ◌<◌, ◌≤◌, ◌+◌, ◌-◌, length, Some, get_or, pos, sym, ap, subst, ◌∙◌, List, ◌++◌, ℤ, arith, rules, refl, inl, inr, option_map}
use mir.Val.{SFits}
use mir.Syntax.{w64}
use Rattle.std.proofs.lemmas.Int.{to_z-of_z}
use Rattle.std.proofs.lemmas.List.{append-nil}
use Rattle.std.proofs.lemmas.Result.{err_from_is_err_and}
use Rattle.std.proofs.lemmas.Option.{slice_get-get_or}
use Rattle.map_tables.specs.Kept.{place_of_id}
use Rattle.map_tables.specs.declared.error.MapError.TheVariants.{MissingNode}
use Rattle.overpass_graph.specs.Laying.{AreNumbers}
use Rattle.overpass_graph.specs.Maps.{way_at, no_way}
use Rattle.overpass_graph.specs.Orders.{picked}
use Rattle.overpass_graph.specs.Pairs.{links_now}
use Rattle.overpass_graph.proofs.NodeLemmas.{found-at}
use Rattle.overpass_graph.proofs.LayLemmas.{links-step, missing-step, missing-here, missing-end, links_left-end}
use Rattle.overpass_graph.proofs.lay.lay_way.Goals as goal

pub ids-init : goal.ids-init
ids-init c = record { none = refl; last = λ some. absurd (omega arith); sound = c.requires.sound; links = refl }

pub id_at-requires : goal.id_at-requires
id_at-requires c = record { in_range = c.ids-test.true }

pub found-requires : goal.found-requires
found-requires c = record { in_range = c.requires.in_range }

pub lay_up_to-requires-clause-numbers : goal.lay_up_to-requires-clause-numbers
lay_up_to-requires-clause-numbers c =
    subst (AreNumbers c.args.tables.now.draft.nodes) (sym c.as_slice.ensures.value)
    (record { length_is = c.requires.order.numbers_length; in_range = c.requires.order.number_in })

pub lay_up_to-requires-clause-a_in : goal.lay_up_to-requires-clause-a_in
lay_up_to-requires-clause-a_in c = λ some. (found-at c.args.tables.now.draft.nodes _ c.ids.last (c.ids.invariant.last some)).0

pub lay_up_to-requires-clause-b_in : goal.lay_up_to-requires-clause-b_in
lay_up_to-requires-clause-b_in c = c.in_ok-node.ensures.exact.1

pub lay_up_to-requires-clause-sound : goal.lay_up_to-requires-clause-sound
lay_up_to-requires-clause-sound c = c.ids.invariant.sound

pub returns-in_err-node-clause-links : goal.returns-in_err-node-clause-links
returns-in_err-node-clause-links c =
    let p = err_from_is_err_and c.from_residual.result c.from_residual.ensures.1 in
    rw p.1 tt

pub returns-in_err-lay_up_to-clause-missing : goal.returns-in_err-lay_up_to-clause-missing
returns-in_err-lay_up_to-clause-missing c =
    let p = err_from_is_err_and c.from_residual-in_err-lay_up_to.result c.from_residual-in_err-lay_up_to.ensures.1 in
    rw (p.1, p.2) (inl c.in_err-lay_up_to.ensures.refused)

pub returns-in_err-lay_up_to-clause-links : goal.returns-in_err-lay_up_to-clause-links
returns-in_err-lay_up_to-clause-links c =
    let p = err_from_is_err_and c.from_residual-in_err-lay_up_to.result c.from_residual-in_err-lay_up_to.ensures.1 in
    rw p.1 tt

pub returns-in_err-node-clause-missing : goal.returns-in_err-node-clause-missing
returns-in_err-node-clause-missing c =
    let ids : c.way_nodes-ids.result.now ≡ (way_at c.args.tables.now.draft.ways c.args.way).content =
    c.way_nodes-ids.ensures.value _ (slice_get-get_or c.args.tables.now.draft.ways c.args.way no_way c.requires.in_range) in
    let id : c.id_at.result ≡ get_or (way_at c.args.tables.now.draft.ways c.args.way).content c.ids.place (pos 0) =
    c.id_at.ensures.value ∙ ap (λ (xs : List ℤ). get_or xs c.ids.place (pos 0)) ids in
    let within : c.ids.place < length (way_at c.args.tables.now.draft.ways c.args.way).content =
    subst (λ (xs : List ℤ). c.ids.place < length xs) ids c.ids-test.true in
    let fits : SFits w64 c.id_at.result = search rules in
    let h = simp (to_z-of_z, fits) at c.in_err-node.ensures.exact in
    let here = missing-here c.args.tables.now.draft.nodes (way_at c.args.tables.now.draft.ways c.args.way).content c.ids.place within
    (ap (λ i. place_of_id i c.args.tables.now.draft.nodes) (sym id) ∙ h.0) in
    let p = err_from_is_err_and c.from_residual.result c.from_residual.ensures.1 in
    rw (p.1, p.2)
    (inr (ap (option_map (MissingNode (way_at c.args.tables.now.draft.ways c.args.way).id)) (sym c.ids.invariant.none ∙ here)
    ∙ ap (λ i. Some (MissingNode (way_at c.args.tables.now.draft.ways c.args.way).id i)) (sym id) ∙ ap Some (sym h.1)))

pub ids-preserved : goal.ids-preserved
ids-preserved c =
    let ids : c.way_nodes-ids.result.now ≡ (way_at c.args.tables.now.draft.ways c.args.way).content =
    c.way_nodes-ids.ensures.value _ (slice_get-get_or c.args.tables.now.draft.ways c.args.way no_way c.requires.in_range) in
    let id : c.id_at.result ≡ get_or (way_at c.args.tables.now.draft.ways c.args.way).content c.ids.place (pos 0) =
    c.id_at.ensures.value ∙ ap (λ (xs : List ℤ). get_or xs c.ids.place (pos 0)) ids in
    let within : c.ids.place < length (way_at c.args.tables.now.draft.ways c.args.way).content =
    subst (λ (xs : List ℤ). c.ids.place < length xs) ids c.ids-test.true in
    let fits : SFits w64 c.id_at.result = search rules in
    let h = simp (to_z-of_z, fits) at c.in_ok-node.ensures.exact in
    let here = ap (λ i. place_of_id i c.args.tables.now.draft.nodes) (sym id) ∙ h.0 in
    let lays = c.in_ok-lay_up_to.ensures.links in
    let back : c.ids.place + 1 - 1 ≡ c.ids.place = omega arith in
    record {
      none = sym (missing-step c.args.tables.now.draft.nodes (way_at c.args.tables.now.draft.ways c.args.way).content c.ids.place
          c.in_ok-node.node within here)
          ∙ c.ids.invariant.none;
      last = λ some. rw back here;
      sound = lays.sound;
      links = links-step c.args.tables.now.draft.nodes c.args.order.now.places.items c.args.order.now.numbers.items c.requires.distinct
          c.requires.order
          c.args.way (way_at c.args.tables.now.draft.ways c.args.way).content c.ids.place c.ids.last c.in_ok-node.node _ _ _ within
          c.ids.invariant.last here
          (rw (← c.as_slice.ensures.value) lays.links) c.ids.invariant.links;
    }

pub returns-clause-missing : goal.returns-clause-missing
returns-clause-missing c =
    let ids : c.way_nodes-ids.result.now ≡ (way_at c.args.tables.now.draft.ways c.args.way).content =
    c.way_nodes-ids.ensures.value _ (slice_get-get_or c.args.tables.now.draft.ways c.args.way no_way c.requires.in_range) in
    let past : length (way_at c.args.tables.now.draft.ways c.args.way).content ≤ c.ids.place =
    subst (λ (xs : List ℤ). length xs ≤ c.ids.place) ids c.ids-test.false in
    ap (option_map (MissingNode (way_at c.args.tables.now.draft.ways c.args.way).id))
    (sym c.ids.invariant.none ∙ missing-end c.args.tables.now.draft.nodes (way_at c.args.tables.now.draft.ways c.args.way).content
    c.ids.place past)

pub returns-clause-links : goal.returns-clause-links
returns-clause-links c =
    let ids : c.way_nodes-ids.result.now ≡ (way_at c.args.tables.now.draft.ways c.args.way).content =
    c.way_nodes-ids.ensures.value _ (slice_get-get_or c.args.tables.now.draft.ways c.args.way no_way c.requires.in_range) in
    let past : length (way_at c.args.tables.now.draft.ways c.args.way).content ≤ c.ids.place =
    subst (λ (xs : List ℤ). length xs ≤ c.ids.place) ids c.ids-test.false in
    let none = links_left-end (picked c.args.tables.now.draft.nodes c.args.order.now.places.items) c.args.way
    (way_at c.args.tables.now.draft.ways c.args.way).content c.ids.place past in
    record {
      sound = c.ids.invariant.sound;
      links = sym (append-nil (links_now c.ids.laid)) ∙ ap (λ ls. links_now c.ids.laid ++ ls) (sym none) ∙ c.ids.invariant.links;
    }
