use Rattle.std.proofs.Common.{ℕ, ap}
use Rattle.grid_map.specs.Tile.{sample_bytes, sample_of}
use Rattle.grid_map.proofs.PartLemmas.{concat_range-more, row_bytes-whole}
use Rattle.grid_map.proofs.tile.append_row.Goals as goal

pub columns-preserved : goal.columns-preserved
columns-preserved c =
    concat_range-more (λ (column : ℕ). sample_bytes (sample_of c.args.seed c.args.row column)) c.columns.column c.args.bytes.now.items
    c.columns.bytes.items c.append_sample.new.bytes.items (sample_bytes c.sample.result) c.columns.invariant
    c.in_ok-append_sample.ensures.exact
    (ap sample_bytes c.sample.ensures.exact)

pub returns : goal.returns
returns c =
    record {
      exact = row_bytes-whole c.args.seed c.args.row c.columns.column c.args.bytes.now.items c.columns.bytes.items c.columns-test.false
          c.columns.auto.column-end
          c.columns.invariant;
    }
