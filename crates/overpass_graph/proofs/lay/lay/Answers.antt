use Rattle.std.proofs.Common.{◌≡◌, ℕ, ℤ, ◌+◌, ◌<◌, ◌≤◌, List, ◌++◌, length, drop, Option, Some, None, option_map, refl, sym, ap, subst, ◌∙◌, add-one, append_assoc}
use Rattle.std.proofs.lemmas.List.{append-nil, drop_more, drop_all}
use Rattle.std.proofs.lemmas.Result.{err_from_is_err_and}
use Rattle.geo_int.specs.Place.{Place}
use Rattle.map_tables.specs.Kept.{Kept}
use Rattle.map_tables.specs.declared.error.MapError.TheVariants.{MissingNode}
use Rattle.overpass_graph.specs.declared.link.Link.{Link}
use Rattle.overpass_graph.specs.Links.{first_missing, links_from, links_of_way, missing_fault, missing_in, missing_or}
use Rattle.overpass_graph.specs.Maps.{way_at, no_way}
use Rattle.overpass_graph.specs.Orders.{picked}
use Rattle.overpass_graph.specs.Pairs.{links_now}
use Rattle.overpass_graph.proofs.LayLemmas.{way-missing}
use Rattle.overpass_graph.proofs.lay.lay.Goals as goal

-- a way whose nodes are all there leaves the missing ones to the ways behind it
none-step : (nodes : List (Kept Place)) (ways : List (Kept (List ℤ))) (w : ℕ) → w < length ways →
    option_map (MissingNode (way_at ways w).id) (missing_in nodes (way_at ways w).content) ≡ None →
    first_missing nodes (drop w ways) ≡ first_missing nodes (drop (w + 1) ways)
none-step nodes ways w below none =
    ap (first_missing nodes) (drop_more ways w no_way below) ∙ by_node (missing_in nodes (way_at ways w).content) none
  where
    by_node : (o : Option ℤ) → option_map (MissingNode (way_at ways w).id) o ≡ None →
        missing_or (way_at ways w).id o (first_missing nodes (drop (w + 1) ways)) ≡ first_missing nodes (drop (w + 1) ways)
    by_node None none = refl
    by_node (Some id) none = cc

-- what is laid and what is left stay all links together
ways-step : (nodes : List (Kept Place)) (ways : List (Kept (List ℤ))) (w : ℕ) (old new whole : List Link) → w < length ways →
    new ≡ old ++ links_of_way nodes w (way_at ways w).content → old ++ links_from nodes w (drop w ways) ≡ whole →
    new ++ links_from nodes (w + 1) (drop (w + 1) ways) ≡ whole
ways-step nodes ways w old new whole below laid left =
    let step : links_from nodes w (drop w ways) ≡
    links_of_way nodes w (way_at ways w).content ++ links_from nodes (w + 1) (drop (w + 1) ways) =
    ap (links_from nodes w) (drop_more ways w no_way below)
    ∙ ap (λ n. links_of_way nodes w (way_at ways w).content ++ links_from nodes n (drop (w + 1) ways)) (sym (add-one w)) in
    ap (λ ls. ls ++ links_from nodes (w + 1) (drop (w + 1) ways)) laid
    ∙ append_assoc old (links_of_way nodes w (way_at ways w).content) (links_from nodes (w + 1) (drop (w + 1) ways))
    ∙ ap (λ ls. old ++ ls) (sym step) ∙ left

pub ways-init : goal.ways-init
ways-init c = record {
  none = refl;
  sound = c.new-laid.ensures.sound (length c.args.tables.now.draft.nodes);
  links = ap (λ ls. ls ++ links_from (picked c.args.tables.now.draft.nodes c.args.order.now.places.items) 0 c.args.tables.now.draft.ways)
      c.new-laid.ensures.value;
}

pub lay_way-requires-clause-distinct : goal.lay_way-requires-clause-distinct
lay_way-requires-clause-distinct c = c.requires.distinct

pub lay_way-requires-clause-order : goal.lay_way-requires-clause-order
lay_way-requires-clause-order c = c.requires.order

pub lay_way-requires-clause-in_range : goal.lay_way-requires-clause-in_range
lay_way-requires-clause-in_range c = subst (λ n. c.ways.way < n) c.ways-way-end.ensures.value c.ways-test.true

pub lay_way-requires-clause-sound : goal.lay_way-requires-clause-sound
lay_way-requires-clause-sound c = c.ways.invariant.sound

pub returns-in_err-lay_way-clause-missing : goal.returns-in_err-lay_way-clause-missing
returns-in_err-lay_way-clause-missing c =
    let p = err_from_is_err_and c.from_residual.result c.from_residual.ensures.1 in
    rw (p.1, p.2) (way-missing c.args.tables.now.draft.nodes c.args.tables.now.draft.ways c.ways.way _
    (subst (λ n. c.ways.way < n) c.ways-way-end.ensures.value c.ways-test.true) c.ways.invariant.none
    c.in_err-lay_way.ensures.missing)

pub returns-in_err-lay_way-clause-sound : goal.returns-in_err-lay_way-clause-sound
returns-in_err-lay_way-clause-sound c =
    let p = err_from_is_err_and c.from_residual.result c.from_residual.ensures.1 in
    rw p.1 tt

pub returns-in_err-lay_way-clause-links : goal.returns-in_err-lay_way-clause-links
returns-in_err-lay_way-clause-links c =
    let p = err_from_is_err_and c.from_residual.result c.from_residual.ensures.1 in
    rw p.1 tt

pub ways-preserved : goal.ways-preserved
ways-preserved c =
    let lays = c.in_ok-lay_way.ensures.links in
    let below : c.ways.way < length c.args.tables.now.draft.ways =
    subst (λ n. c.ways.way < n) c.ways-way-end.ensures.value c.ways-test.true in
    record {
      none = sym (none-step c.args.tables.now.draft.nodes c.args.tables.now.draft.ways c.ways.way below c.in_ok-lay_way.ensures.missing)
          ∙ c.ways.invariant.none;
      sound = lays.sound;
      links = ways-step (picked c.args.tables.now.draft.nodes c.args.order.now.places.items) c.args.tables.now.draft.ways c.ways.way _ _ _
          below lays.links c.ways.invariant.links;
    }

pub returns-clause-missing : goal.returns-clause-missing
returns-clause-missing c =
    let past : length c.args.tables.now.draft.ways ≤ c.ways.way =
    subst (λ n. n ≤ c.ways.way) c.ways-way-end.ensures.value c.ways-test.false in
    ap missing_fault
    (sym c.ways.invariant.none ∙ ap (first_missing c.args.tables.now.draft.nodes) (drop_all c.ways.way c.args.tables.now.draft.ways past))

pub returns-clause-sound : goal.returns-clause-sound
returns-clause-sound c = c.ways.invariant.sound

pub returns-clause-links : goal.returns-clause-links
returns-clause-links c =
    let past : length c.args.tables.now.draft.ways ≤ c.ways.way =
    subst (λ n. n ≤ c.ways.way) c.ways-way-end.ensures.value c.ways-test.false in
    sym (append-nil (links_now c.ways.laid))
    ∙ ap
    (λ ws. links_now c.ways.laid ++
    links_from (picked c.args.tables.now.draft.nodes c.args.order.now.places.items) c.ways.way ws)
    (sym (drop_all c.ways.way c.args.tables.now.draft.ways past))
    ∙ c.ways.invariant.links
