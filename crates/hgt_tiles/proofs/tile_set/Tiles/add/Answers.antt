use Rattle.std.proofs.Common.{◌≡◌, true, false, is_some, sym, ap, ◌∙◌, refl}
use Rattle.hgt_tiles.specs.Tiles.{relief_at}
use Rattle.hgt_tiles.specs.declared.names.Corner.{Corner}
use Rattle.hgt_tiles.proofs.TilesLemmas.{in_error, elsewhere, there, not_there}
use Rattle.hgt_tiles.proofs.tile_set.Tiles.add.Goals as goal

pub returns-then-contains_key-clause-added : goal.returns-then-contains_key-clause-added
unfolding relief_at
returns-then-contains_key-clause-added c =
    let old = c.args.self.now in
    let tile = c.args.tile in
    let is : is_some (relief_at old tile.corner) ≡ true =
    ap (λ k. is_some (relief_at old k)) (sym c.corner-corner.ensures.value) ∙ sym c.contains_key.ensures ∙ c.if-contains_key.true in
    record { this = there _ tile is; others = λ corner other. refl }

pub returns-in_err-insert-clause-kept : goal.returns-in_err-insert-clause-kept
unfolding relief_at
returns-in_err-insert-clause-kept c =
    let same : (corner : Corner) → relief_at (record { by_corner = c.insert.new.self }) corner ≡ relief_at c.args.self.now corner =
    λ corner. simp c.in_err-insert.ensures.err refl in
    in_error _ _ same

pub returns-clause-added : goal.returns-clause-added
unfolding relief_at
returns-clause-added c =
    let old = c.args.self.now in
    let tile = c.args.tile in
    let is : is_some (relief_at old tile.corner) ≡ false =
    ap (λ k. is_some (relief_at old k)) (sym c.corner-corner.ensures.value) ∙ sym c.contains_key.ensures ∙ c.if-contains_key.false in
    let changes = c.in_ok-insert.ensures.updates in
    record {
      this =
          ap (relief_at (record { by_corner = c.insert.new.self })) (sym c.corner-corner.ensures.value) ∙ changes.1 ∙ not_there _ tile is;
      others = λ corner other. changes.2 corner (elsewhere _ corner (λ e. other (e ∙ c.corner-corner.ensures.value)));
    }
