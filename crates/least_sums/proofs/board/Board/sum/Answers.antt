use Rattle.std.proofs.Common.{◌<◌, length, arith}
use Rattle.std.proofs.lemmas.List.{get_or-map, length-map}
use Rattle.least_sums.proofs.board.Board.sum.Goals as goal

pub get-requires : goal.get-requires
get-requires g c =
    let long = length-map c.args.self.now.sums g.N.Amount.number in
    record { in_range = omega (arith, long, c.requires.in_range) }

pub returns : goal.returns
returns g c =
    let number = g.N.Amount.number in
    let sums = c.args.self.now.sums in
    let within : c.args.node < length sums = omega (arith, length-map sums number, c.requires.in_range) in
    let wide = c.wide.ensures.value in
    let got = c.get.ensures.value in
    let here = get_or-map number sums c.args.node c.get.result 0 within in
    record { value = cc }
