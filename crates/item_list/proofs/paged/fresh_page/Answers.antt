use Rattle.std.proofs.Common.{◌≡◌, arith, replicate, subst}
use Rattle.item_list.proofs.paged.fresh_page.Goals as goal

pub returns : goal.returns
returns g c =
    let whole : c.places.made ≡ 1024 = omega (arith, c.places-test.false, c.places.auto.made-end) in
    record { value = subst (λ n. c.places.page.items ≡ replicate n c.args.rest) whole c.places.invariant }
