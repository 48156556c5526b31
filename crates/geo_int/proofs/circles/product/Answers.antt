use Rattle.std.proofs.Common.{refl, lit≤}
use Rattle.std.proofs.lemmas.Int.{to_z-of_z}
use Rattle.geo_int.proofs.ProductLemmas.{two_products}
use Rattle.geo_int.proofs.circles.product.Goals as goal

pub overflow_add-result : goal.overflow_add-result
overflow_add-result c =
    let p = two_products c.args.a.east c.args.b.east c.args.a.north c.args.b.north 600000000 600000000
    c.requires.a.east c.requires.b.east c.requires.a.north c.requires.b.north (lit≤ tt) (lit≤ tt) in
    simp (to_z-of_z, p.first, p.second, p.third, p.fourth, p.left, p.right) (p.sum)

pub returns-clause-exact : goal.returns-clause-exact
returns-clause-exact c =
    let p = two_products c.args.a.east c.args.b.east c.args.a.north c.args.b.north 600000000 600000000
    c.requires.a.east c.requires.b.east c.requires.a.north c.requires.b.north (lit≤ tt) (lit≤ tt) in
    simp (to_z-of_z, p.first, p.second, p.third, p.fourth, p.left, p.right, p.sum) (refl)

pub returns-clause-within : goal.returns-clause-within
returns-clause-within c =
    let p = two_products c.args.a.east c.args.b.east c.args.a.north c.args.b.north 600000000 600000000
    c.requires.a.east c.requires.b.east c.requires.a.north c.requires.b.north (lit≤ tt) (lit≤ tt) in
    simp (to_z-of_z, p.first, p.second, p.third, p.fourth, p.left, p.right, p.sum) (p.sum_le)

pub overflow_mul-result : goal.overflow_mul-result
overflow_mul-result c =
    let p = two_products c.args.a.east c.args.b.east c.args.a.north c.args.b.north 600000000 600000000
    c.requires.a.east c.requires.b.east c.requires.a.north c.requires.b.north (lit≤ tt) (lit≤ tt) in
    simp (to_z-of_z, p.first, p.second) (p.left)

pub overflow_mul-result-2 : goal.overflow_mul-result-2
overflow_mul-result-2 c =
    let p = two_products c.args.a.east c.args.b.east c.args.a.north c.args.b.north 600000000 600000000
    c.requires.a.east c.requires.b.east c.requires.a.north c.requires.b.north (lit≤ tt) (lit≤ tt) in
    simp (to_z-of_z, p.third, p.fourth) (p.right)
