use Rattle.std.proofs.Common.{sym, arith}
use Rattle.std.proofs.lemmas.List.{length-take-le, take_all}
use Rattle.hall.specs.Sends.{most_piece}
use Rattle.hall.proofs.pieces.first.Goals as goal

pub slice_bounds-result-end : goal.slice_bounds-result-end
slice_bounds-result-end c = sym (length-take-le most_piece c.args.rest.now (omega (arith, c.if-rest-gt-MOST_PIECE.true)))

pub returns-else-rest-gt-MOST_PIECE : goal.returns-else-rest-gt-MOST_PIECE
returns-else-rest-gt-MOST_PIECE c = record {
  value = sym (take_all most_piece c.args.rest.now (omega (arith, c.if-rest-gt-MOST_PIECE.false)));
}
