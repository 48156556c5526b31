use Rattle.std.proofs.Common.{arith}
use Rattle.std.proofs.lemmas.Bool.{ltb-true}
use Rattle.std.proofs.lemmas.List.{length-map}
use Rattle.geo_int.specs.Spot.{place_of}
use Rattle.run_cases.proofs.route.inputs.is_within.Goals as goal

pub returns-then-request-le3 : goal.returns-then-request-le3
returns-then-request-le3 c =
    let long = length-map c.args.request.now.waypoints place_of in
    record {
      found = λ labels. record {
        some = omega (arith, long, c.len.ensures.value, c.if-len-lt2.false);
        few = omega (arith, long, c.len-else-len-lt2.ensures.value, c.if-len-gt100.false);
        alternative = c.if-request-le3.true;
        labels = ltb-true c.args.request.now.labels 4294967296 labels;
        sources = record {
          few = omega (arith, c.len-2.ensures.value, c.if-len-gt0.false);
          each = λ k below. absurd (omega (arith, below, c.len-2.ensures.value, c.if-len-gt0.false));
        };
        destinations = record {
          few = omega (arith, c.len-else-len-gt0.ensures.value, c.if-len-gt0-2.false);
          each = λ k below. absurd (omega (arith, below, c.len-else-len-gt0.ensures.value, c.if-len-gt0-2.false));
        };
      };
    }
