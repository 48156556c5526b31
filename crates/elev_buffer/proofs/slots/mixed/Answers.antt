use Rattle.std.proofs.Common.{ℕ, ℤ, w64, ◌≡◌, ◌+◌, ◌*◌, ◌%◌, ap, ◌∙◌}
use Rattle.std.proofs.lemmas.Int.{to_z-of_z}
use Rattle.elev_buffer.specs.Slots.{shared_part, slot_of}
use Rattle.elev_buffer.proofs.slots.mixed.Goals as goal

pub returns-clause-exact : goal.returns-clause-exact
unfolding slot_of
returns-clause-exact c =
    let first : c.shared_part-down.result ≡ shared_part c.args.modes.now.down c.args.pair.now.down =
    c.shared_part-down.ensures.exact ∙ ap (λ (e : ℤ). shared_part c.args.modes.now.down e) (to_z-of_z w64 c.args.pair.now.down (record { sfits = c.fits-pair.0.1 })) in
    let second : c.shared_part-up.result ≡ shared_part c.args.modes.now.up c.args.pair.now.up =
    c.shared_part-up.ensures.exact ∙ ap (λ (e : ℤ). shared_part c.args.modes.now.up e) (to_z-of_z w64 c.args.pair.now.up (record { sfits = c.fits-pair.1.0.1 })) in
    ap (λ (n : ℕ). (c.args.link + 7919 * n + 6563 * c.shared_part-up.result) % c.args.slots) first
    ∙ ap
    (λ (n : ℕ).
    (c.args.link + 7919 * shared_part c.args.modes.now.down c.args.pair.now.down + 6563 * n) % c.args.slots) second
