use Rattle.std.proofs.Common.{ℕ, ◌≡◌, List, [], ◌++◌, arith, ap, ◌∙◌, subst}
use Rattle.edge_io.proofs.SinkLemmas.{Grows-none}
use Rattle.edge_io.specs.Sink.{BreaksOff, Grows}
use Rattle.grid_map.specs.MapText.{overpass_text, text_from}
use Rattle.grid_map.proofs.CallerLemmas.{text_from-begin, text_from-piece, text_from-whole}
use Rattle.route_run.proofs.SendLemmas.{Grows-then, BreaksOff-then}
use Rattle.route_run.proofs.sending.send_map.Goals as goal

pub pieces-init : goal.pieces-init
pieces-init g c =
    record {
      within = omega arith;
      room = c.requires.room;
      sent = [];
      grows = Grows-none (g.O.Sink.seen c.args.out.now);
      whole = text_from-begin c.args.grid.now;
    }

pub returns-in-Err : goal.returns-in-Err
returns-in-Err g c =
    let made : c.append_parts-next.new.piece.items ++
    text_from c.args.grid.now c.append_parts-next.result ≡ text_from c.args.grid.now c.pieces.next =
    c.append_parts-next.ensures.value ∙ ap (λ (l : List ℕ). l ++ text_from c.args.grid.now c.pieces.next) c.clear.ensures.items in
    record {
      ends = BreaksOff-then (g.O.Sink.seen c.args.out.now) (g.O.Sink.seen c.pieces.out) (g.O.Sink.seen c.send_all.new.out)
          c.pieces.invariant.sent
          c.append_parts-next.new.piece.items (text_from c.args.grid.now c.append_parts-next.result) (overpass_text c.args.grid.now)
          c.pieces.invariant.grows
          (subst (BreaksOff (g.O.Sink.seen c.pieces.out) (g.O.Sink.seen c.send_all.new.out)) c.as_slice.ensures.value c.in-Err.ensures.kept)
          (ap (λ (l : List ℕ). c.pieces.invariant.sent ++ l) made ∙ c.pieces.invariant.whole);
    }

pub pieces-preserved : goal.pieces-preserved
pieces-preserved g c =
    let made : c.append_parts-next.new.piece.items ++
    text_from c.args.grid.now c.append_parts-next.result ≡ text_from c.args.grid.now c.pieces.next =
    c.append_parts-next.ensures.value ∙ ap (λ (l : List ℕ). l ++ text_from c.args.grid.now c.pieces.next) c.clear.ensures.items in
    record {
      within = c.append_parts-next.ensures.within;
      room = omega (arith, c.pieces.invariant.room, c.clear.ensures.capacity, c.append_parts-next.ensures.kept);
      sent = c.pieces.invariant.sent ++ c.append_parts-next.new.piece.items;
      grows = Grows-then (g.O.Sink.seen c.args.out.now) (g.O.Sink.seen c.pieces.out) (g.O.Sink.seen c.send_all.new.out)
          c.pieces.invariant.sent
          c.append_parts-next.new.piece.items c.pieces.invariant.grows
          (subst (Grows (g.O.Sink.seen c.pieces.out) (g.O.Sink.seen c.send_all.new.out)) c.as_slice.ensures.value c.in-Ok.ensures.value);
      whole = text_from-piece c.args.grid.now c.pieces.next c.append_parts-next.result c.pieces.invariant.sent
          c.append_parts-next.new.piece.items
          (overpass_text c.args.grid.now) made c.pieces.invariant.whole;
    }

pub returns : goal.returns
returns g c =
    record {
      ends = subst (Grows (g.O.Sink.seen c.args.out.now) (g.O.Sink.seen c.pieces.out))
          (text_from-whole c.args.grid.now c.pieces.next c.pieces.invariant.sent (overpass_text c.args.grid.now)
          (omega (arith, c.pieces-test.false, c.map_parts.ensures.exact)) c.pieces.invariant.whole)
          c.pieces.invariant.grows;
    }
