use Rattle.std.proofs.Common.{rules, arith}
use Rattle.geo_int.specs.Spot.{place_of}
use Rattle.geo_int.proofs.ArrowLemmas.{length_between-is, arrow_between-long, arrow_between-short, measured_between}
use Rattle.geo_int.proofs.arrows.arrow.Goals as goal

pub returns-then-found-gt100000000-clause-exact : goal.returns-then-found-gt100000000-clause-exact
returns-then-found-gt100000000-clause-exact c =
    let is = measured_between (place_of c.args.a) (place_of c.args.b) c.east.result c.north.result c.measured-found.result
    (search rules) (search rules) c.east.ensures.exact c.north.ensures.exact c.measured-found.ensures.exact in
    arrow_between-long _ _ (omega (arith, length_between-is _ _ _ is))

pub returns-then-found-gt100000000-clause-refused : goal.returns-then-found-gt100000000-clause-refused
returns-then-found-gt100000000-clause-refused c =
    let is = measured_between (place_of c.args.a) (place_of c.args.b) c.east.result c.north.result c.measured-found.result
    (search rules) (search rules) c.east.ensures.exact c.north.ensures.exact c.measured-found.ensures.exact in
    (λ _. omega (arith, length_between-is _ _ _ is), λ _. cc)

pub returns-clause-exact : goal.returns-clause-exact
returns-clause-exact c =
    let is = measured_between (place_of c.args.a) (place_of c.args.b) c.east.result c.north.result c.measured-found.result
    (search rules) (search rules) c.east.ensures.exact c.north.ensures.exact c.measured-found.ensures.exact in
    arrow_between-short _ _ _ is (omega (arith, length_between-is _ _ _ is))

pub returns-clause-refused : goal.returns-clause-refused
returns-clause-refused c =
    let is = measured_between (place_of c.args.a) (place_of c.args.b) c.east.result c.north.result c.measured-found.result
    (search rules) (search rules) c.east.ensures.exact c.north.ensures.exact c.measured-found.ensures.exact in
    (λ h. absurd (cc), λ h. absurd (omega (arith, length_between-is _ _ _ is)))
