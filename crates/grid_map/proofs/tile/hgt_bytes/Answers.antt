use Rattle.std.proofs.Common.{ℕ, ◌-◌, [], refl}
use Rattle.grid_map.specs.Tile.{row_bytes}
use Rattle.grid_map.proofs.PartLemmas.{concat_range-more, hgt_bytes-whole}
use Rattle.grid_map.proofs.tile.hgt_bytes.Goals as goal

pub rows-preserved : goal.rows-preserved
rows-preserved c =
    concat_range-more (λ (place : ℕ). row_bytes c.args.seed (1200 - place)) c.rows.place []
    c.rows.bytes.items c.append_row.new.bytes.items (row_bytes c.args.seed (1200 - c.rows.place)) c.rows.invariant
    c.in_ok-append_row.ensures.exact refl

pub returns : goal.returns
returns c = record {
  exact = hgt_bytes-whole c.args.seed c.rows.place c.rows.bytes.items c.rows-test.false c.rows.auto.place-end
      c.rows.invariant;
}
