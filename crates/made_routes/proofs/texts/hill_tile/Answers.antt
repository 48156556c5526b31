use Rattle.std.proofs.Common.{refl, ◌∙◌}
use Rattle.made_routes.proofs.TextLemmas.{tile-memory}
use Rattle.made_routes.proofs.texts.hill_tile.Goals as goal

pub no_memory_for_tile-requires : goal.no_memory_for_tile-requires
no_memory_for_tile-requires c =
    record {
      only =
          tile-memory _ _ _ _ c.args.seed refl c.tile_name.ensures.exact (c.as_slice.ensures.value ∙ c.in_ok-bytes.ensures.exact)
          c.in-Err.ensures.name.0 (λ size. (c.in-Err.ensures.size.0 size).1);
    }
