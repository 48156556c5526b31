use Rattle.std.proofs.Common.{arith, sym, ◌∙◌, ap, subst, refl, pos, SFits}
use Rattle.std.specs.Int.{w64}
use Rattle.std.proofs.lemmas.Int.{ints, to_z-of_z}
use Rattle.elev_buffer.specs.Covers.{IsPair}
use Rattle.elev_buffer.proofs.CallerLemmas.{covers-test}
use Rattle.cost_model.specs.Walks.{pair_of}
use Rattle.cost_model.proofs.CallerLemmas.{held-pair}
use Rattle.cost_model.specs.Modes.{modes_before}
use Rattle.cost_model.specs.Prices.{Prices}
use Rattle.bike_space.specs.Kept.{task_of}
use Rattle.bike_space.proofs.CarryLemmas.{carried-is}
use Rattle.bike_space.proofs.KnownLemmas.{one-number, slot-there}
use Rattle.bike_space.proofs.StepLemmas.{covers-found}
use Rattle.bike_space.proofs.space.BikeSpace.is_covered.Goals as goal

pub only-requires-clause-within : goal.only-requires-clause-within
only-requires-clause-within g c =
    slot-there (task_of (g.G.TerrainOf.terrain c.args.self.now.terrain) c.args.self.now.kept) c.args.known.now c.args.link
    c.requires.known c.requires.in_range

pub covers_all-requires-clause-first : goal.covers_all-requires-clause-first
covers_all-requires-clause-first g c =
    let state = c.in-Some.state.now in
    let fits =
    c.requires.known.fits (record { cost = c.in-Some.paid; state = state })
    (record { slot = c.args.link; asked = c.in-Some.ensures.known }) in
    subst IsPair (sym c.pair.ensures.value)
    (held-pair _ (pair_of state) c.args.self.now.wakes.lawful.prices (carried-is _ state fits.valid).1)

pub returns-then-state-link : goal.returns-then-state-link
returns-then-state-link g c =
    let self = c.args.self.now in
    let terrain = g.G.TerrainOf.terrain self.terrain in
    let task = task_of terrain self.kept in
    let d : SFits w64 c.down_rate-down.result = record { sfits = c.down_rate-down.type_inv } in
    let u : SFits w64 c.up_rate-up.result = record { sfits = c.up_rate-up.type_inv } in
    let is = simp (to_z-of_z, d, u) at c.covers_all.ensures.exact in
    record {
      sound = λ h carry other same held more.
          let all =
          is.0 h (pair_of carry) (pos other) (held-pair _ (pair_of carry) self.wakes.lawful.prices held) (omega (arith, ints, more)) in
          record {
            one = record { cost = c.in-Some.paid; state = c.in-Some.state.now };
            is = record { slot = c.args.link; asked = c.in-Some.ensures.known };
            covers = sym (covers-found task.leg c.in-Some.state.now carry _ _ _ _ _ _ _ _
                (one-number _ _ (c.if-state-link.true ∙ sym same))
                (c.modes.ensures.value ∙ ap (modes_before terrain.links.facts) (g.met.G.TerrainOf.counted self.terrain))
                (c.down_rate-down.ensures.value ∙ ap (λ (p : Prices). p.down_rate) c.rates-rates.ensures.value)
                (c.up_rate-up.ensures.value ∙ ap (λ (p : Prices). p.up_rate) c.rates-rates.ensures.value)
                c.pair.ensures.value refl (sym ((covers-test _ _ _).1 all)));
          };
    }
