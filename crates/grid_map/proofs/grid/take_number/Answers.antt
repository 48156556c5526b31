use Rattle.std.proofs.Common.{◌≡◌, true, false, length, ap, arith}
use Rattle.std.proofs.lemmas.Grind.{common_steps}
use Rattle.grid_map.specs.Plan.{is_there}
use Rattle.grid_map.proofs.NumberLemmas.{length-numbers_below, numbers_below-there, numbers_below-not_there, place_of-there, place_of-none}
use Rattle.grid_map.proofs.grid.take_number.Goals as goal

pub returns-then-not-is_there-clause-numbers : goal.returns-then-not-is_there-clause-numbers
returns-then-not-is_there-clause-numbers c =
    let not_there : is_there c.args.plan c.args.k ≡ false = grind (arith, common_steps) in
    let same = numbers_below-not_there c.args.plan c.args.k not_there in
    cc

pub returns-then-not-is_there-clause-places : goal.returns-then-not-is_there-clause-places
returns-then-not-is_there-clause-places c =
    let not_there : is_there c.args.plan c.args.k ≡ false = grind (arith, common_steps) in
    let none = place_of-none c.args.plan c.args.k not_there in
    cc (c.in_ok-push.ensures.items)

pub overflow_cast-len : goal.overflow_cast-len
overflow_cast-len c = omega (arith, c.args.numbers.now.ok.0, ap length c.requires.before, length-numbers_below c.args.plan c.args.k)

pub returns-clause-numbers : goal.returns-clause-numbers
returns-clause-numbers c =
    let there : is_there c.args.plan c.args.k ≡ true = grind (arith, common_steps) in
    let more = numbers_below-there c.args.plan c.args.k there in
    cc (c.in_ok-push-3.ensures.items)

pub returns-clause-places : goal.returns-clause-places
returns-clause-places c =
    let there : is_there c.args.plan c.args.k ≡ true = grind (arith, common_steps) in
    let place = place_of-there c.args.plan c.args.k there in
    cc (c.in_ok-push-2.ensures.items)
