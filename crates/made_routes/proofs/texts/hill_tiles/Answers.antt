use Rattle.made_routes.proofs.TextLemmas.{first-alone}
use Rattle.made_routes.proofs.texts.hill_tiles.Goals as goal

pub returns : goal.returns
returns c =
    let alone = first-alone c.new-tiles.result c.add.new.self c.in_ok-tile.tile c.new-tiles.ensures.empty c.in_ok-add.ensures.added in
    record { exact = (c.in_ok-tile.tile, c.in_ok-tile.ensures.exact, alone) }
