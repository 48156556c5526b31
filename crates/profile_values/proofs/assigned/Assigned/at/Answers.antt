use Rattle.std.proofs.Common.{◌≡◌, ◌∙◌, ap, sym, length, arith, slice_get, List, ℕ, ℤ}
use Rattle.profile_values.proofs.AssignedLemmas.{zip-length, zip-get}
use Rattle.profile_values.proofs.assigned.Assigned.at.Goals as goal

pub name-requires : goal.name-requires
name-requires c =
    let long : length c.args.self.now ≡ length c.self.inside.names =
    ap length (sym c.self.view_is) ∙ zip-length c.self.inside.names c.self.inside.numbers.items c.self.invariant in
    record { fits = omega (arith, long, c.requires.fits) }

pub index-requires : goal.index-requires
index-requires c =
    let long : length c.args.self.now ≡ length c.self.inside.names =
    ap length (sym c.self.view_is) ∙ zip-length c.self.inside.names c.self.inside.numbers.items c.self.invariant in
    omega (arith, long, c.requires.fits, c.self.invariant, c.self.inside.numbers.ok.0)

pub returns : goal.returns
returns c =
    let long : length c.args.self.now ≡ length c.self.inside.names =
    ap length (sym c.self.view_is) ∙ zip-length c.self.inside.names c.self.inside.numbers.items c.self.invariant in
    record {
      value =
          ap (λ (vs : List (List ℕ × ℤ)). slice_get vs c.args.place) (sym c.self.view_is)
          ∙ zip-get c.self.inside.names c.self.inside.numbers.items c.args.place c.name.result.now c.index.result.now c.name.ensures.value
          (omega (arith, long, c.requires.fits, c.self.invariant)) c.index.ensures;
    }
