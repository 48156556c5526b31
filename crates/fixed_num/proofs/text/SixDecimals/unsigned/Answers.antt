use Rattle.std.proofs.Common.{◌≡◌, ◌/◌, ◌%◌, ◌∷◌, ◌++◌}
use Rattle.std.specs.Fmt.{decimal}
use Rattle.fixed_num.specs.Text.{last_digits}
use Rattle.fixed_num.proofs.PrintLemmas.{length-unsigned}
use Rattle.fixed_num.proofs.text.SixDecimals.unsigned.Goals as goal

pub returns : goal.returns
returns c =
    let whole : c.prepend_number.new.self ≡ decimal (c.args.size / 1000000) ++ 46 ∷ last_digits 6 (c.args.size % 1000000) = cc in
    record { value = whole; fits = length-unsigned c.args.size c.prepend_number.new.self c.ranges.size.fits whole }
