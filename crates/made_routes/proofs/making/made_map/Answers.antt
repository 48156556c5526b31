use Rattle.std.proofs.Common.{◌≡◌, ℕ, List, [], ◌++◌, length, ap, ◌∙◌, subst, arith, length-append}
use Rattle.grid_map.proofs.CallerLemmas.{text_from-begin, text_from-piece, text_from-whole}
use Rattle.grid_map.specs.MapText.{overpass_text, text_from}
use Rattle.made_routes.proofs.MapLengthLemmas.{overpass_text-short}
use Rattle.made_routes.proofs.MapLemmas.{only-memory-before, only-memory-behind}
use Rattle.made_routes.proofs.making.made_map.Goals as goal
use Rattle.overpass_graph.specs.Builder.{IsMapOfText}

pub pieces-init : goal.pieces-init
pieces-init c =
    record {
      within = omega arith;
      room = omega (arith, c.in_ok-piece.ensures.exact);
      bytes = [];
      stands = c.new-builder.ensures.value;
      counted = c.new-builder.ensures.fed;
      whole = text_from-begin c.args.grid.now;
    }

pub feed-requires : goal.feed-requires
feed-requires c =
    let made : c.append_parts-next.new.piece.items ++
    text_from c.args.grid.now c.append_parts-next.result ≡ text_from c.args.grid.now c.pieces.next =
    c.append_parts-next.ensures.value ∙ ap (λ (l : List ℕ). l ++ text_from c.args.grid.now c.pieces.next) c.clear.ensures.items in
    let whole =
    text_from-piece c.args.grid.now c.pieces.next c.append_parts-next.result c.pieces.invariant.bytes c.append_parts-next.new.piece.items
    (overpass_text c.args.grid.now) made c.pieces.invariant.whole in
    record {
      few = omega (
        arith,
        c.pieces.invariant.counted,
        ap length c.as_slice.ensures.value,
        ap length whole,
        length-append (c.pieces.invariant.bytes ++ c.append_parts-next.new.piece.items)
            (text_from c.args.grid.now c.append_parts-next.result),
        length-append c.pieces.invariant.bytes c.append_parts-next.new.piece.items,
        overpass_text-short c.args.grid.now c.segments-segments.ensures.lawful,
      );
    }

pub no_memory-requires : goal.no_memory-requires
no_memory-requires c =
    let known = c.grids_are_maps.ensures.exact c.args.grid.now c.segments-segments.ensures.lawful in
    let made : c.append_parts-next.new.piece.items ++
    text_from c.args.grid.now c.append_parts-next.result ≡ text_from c.args.grid.now c.pieces.next =
    c.append_parts-next.ensures.value ∙ ap (λ (l : List ℕ). l ++ text_from c.args.grid.now c.pieces.next) c.clear.ensures.items in
    let whole =
    text_from-piece c.args.grid.now c.pieces.next c.append_parts-next.result c.pieces.invariant.bytes c.append_parts-next.new.piece.items
    (overpass_text c.args.grid.now) made c.pieces.invariant.whole in
    record {
      only = only-memory-before c.args.grid.now known (c.pieces.invariant.bytes ++ c.as_slice.result.now)
          (text_from c.args.grid.now c.append_parts-next.result) c.in-Err.error
          (ap (λ (l : List ℕ). (c.pieces.invariant.bytes ++ l) ++ text_from c.args.grid.now c.append_parts-next.result)
          c.as_slice.ensures.value ∙ whole)
          (c.in-Err.ensures.exact c.pieces.invariant.bytes c.pieces.invariant.stands);
    }

pub pieces-preserved : goal.pieces-preserved
pieces-preserved c =
    let made : c.append_parts-next.new.piece.items ++
    text_from c.args.grid.now c.append_parts-next.result ≡ text_from c.args.grid.now c.pieces.next =
    c.append_parts-next.ensures.value ∙ ap (λ (l : List ℕ). l ++ text_from c.args.grid.now c.pieces.next) c.clear.ensures.items in
    record {
      within = c.append_parts-next.ensures.within;
      room = omega (arith, c.pieces.invariant.room, c.clear.ensures.capacity, c.append_parts-next.ensures.kept);
      bytes = c.pieces.invariant.bytes ++ c.as_slice.result.now;
      stands = c.in-Ok.ensures.value c.pieces.invariant.bytes c.pieces.invariant.stands;
      counted = omega (
        arith,
        c.in-Ok.ensures.fed,
        c.pieces.invariant.counted,
        length-append c.pieces.invariant.bytes c.as_slice.result.now,
      );
      whole = ap (λ (l : List ℕ). (c.pieces.invariant.bytes ++ l) ++ text_from c.args.grid.now c.append_parts-next.result)
          c.as_slice.ensures.value
          ∙ text_from-piece c.args.grid.now c.pieces.next c.append_parts-next.result c.pieces.invariant.bytes
          c.append_parts-next.new.piece.items
          (overpass_text c.args.grid.now) made c.pieces.invariant.whole;
    }

pub returns-in-Ok-finish : goal.returns-in-Ok-finish
returns-in-Ok-finish c =
    let known = c.grids_are_maps.ensures.exact c.args.grid.now c.segments-segments.ensures.lawful in
    let all =
    text_from-whole c.args.grid.now c.pieces.next c.pieces.invariant.bytes (overpass_text c.args.grid.now)
    (omega (arith, c.pieces-test.false, c.map_parts.ensures.exact)) c.pieces.invariant.whole in
    let is : IsMapOfText (overpass_text c.args.grid.now) c.in-Ok-finish.map =
    subst (λ (t : List ℕ). IsMapOfText t c.in-Ok-finish.map) all
    (c.in-Ok-finish.ensures.exact c.pieces.invariant.bytes c.pieces.invariant.stands) in
    record { exact = is; value = known.map c.in-Ok-finish.map is }

pub no_memory-requires-in-Err-finish : goal.no_memory-requires-in-Err-finish
no_memory-requires-in-Err-finish c =
    let known = c.grids_are_maps.ensures.exact c.args.grid.now c.segments-segments.ensures.lawful in
    let all =
    text_from-whole c.args.grid.now c.pieces.next c.pieces.invariant.bytes (overpass_text c.args.grid.now)
    (omega (arith, c.pieces-test.false, c.map_parts.ensures.exact)) c.pieces.invariant.whole in
    record {
      only = only-memory-behind c.args.grid.now known c.pieces.invariant.bytes c.in-Err-finish.error all
          (c.in-Err-finish.ensures.exact c.pieces.invariant.bytes c.pieces.invariant.stands);
    }
