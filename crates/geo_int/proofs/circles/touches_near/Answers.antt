use Rattle.std.proofs.Common.{◌≡◌, pos, int_le, true, false, SFits, w64, rules, sym, ap, ◌∙◌}
use Rattle.std.proofs.lemmas.Int.{to_z-of_z}
use Rattle.geo_int.specs.Circle.{foot, way_square}
use Rattle.geo_int.proofs.CircleLemmas.{way_touches-first, way_touches-second, way_touches-line}
use Rattle.geo_int.proofs.circles.touches_near.Goals as goal

pub returns-then-along-le0 : goal.returns-then-along-le0
returns-then-along-le0 c =
    let along : SFits w64 c.foot_along-along.result = search rules in
    let before : int_le c.foot_along-along.result (pos 0) ≡ true = simp to_z-of_z at c.if-along-le0.true in
    let is : int_le (foot c.args.a c.args.b) (pos 0) ≡ true = ap (λ k. int_le k (pos 0)) (sym c.foot_along-along.ensures.exact) ∙ before in
    record { exact = c.end_is_within.ensures.exact ∙ sym (way_touches-first _ _ _ is) }

pub returns-then-along-square_of_way : goal.returns-then-along-square_of_way
returns-then-along-square_of_way c =
    let along : SFits w64 c.foot_along-along.result = search rules in
    let way : SFits w64 c.square_of_way.result = search rules in
    let before : int_le c.foot_along-along.result (pos 0) ≡ false = simp to_z-of_z at c.if-along-le0.false in
    let behind : int_le c.square_of_way.result c.foot_along-along.result ≡ true = simp to_z-of_z at c.if-along-square_of_way.true in
    let first : int_le (foot c.args.a c.args.b) (pos 0) ≡ false =
    ap (λ k. int_le k (pos 0)) (sym c.foot_along-along.ensures.exact) ∙ before in
    let second : int_le (way_square c.args.a c.args.b) (foot c.args.a c.args.b) ≡ true =
    ap (λ k. int_le k (foot c.args.a c.args.b)) (sym c.square_of_way.ensures.exact)
    ∙ ap (int_le c.square_of_way.result) (sym c.foot_along-along.ensures.exact) ∙ behind in
    record { exact = c.end_is_within-then-along-square_of_way.ensures.exact ∙ sym (way_touches-second _ _ _ first second) }

pub returns-else-along-square_of_way : goal.returns-else-along-square_of_way
returns-else-along-square_of_way c =
    let along : SFits w64 c.foot_along-along.result = search rules in
    let way : SFits w64 c.square_of_way.result = search rules in
    let before : int_le c.foot_along-along.result (pos 0) ≡ false = simp to_z-of_z at c.if-along-le0.false in
    let behind : int_le c.square_of_way.result c.foot_along-along.result ≡ false = simp to_z-of_z at c.if-along-square_of_way.false in
    let first : int_le (foot c.args.a c.args.b) (pos 0) ≡ false =
    ap (λ k. int_le k (pos 0)) (sym c.foot_along-along.ensures.exact) ∙ before in
    let second : int_le (way_square c.args.a c.args.b) (foot c.args.a c.args.b) ≡ false =
    ap (λ k. int_le k (foot c.args.a c.args.b)) (sym c.square_of_way.ensures.exact)
    ∙ ap (int_le c.square_of_way.result) (sym c.foot_along-along.ensures.exact) ∙ behind in
    record { exact = c.line_is_within.ensures.exact ∙ sym (way_touches-line _ _ _ first second) }
