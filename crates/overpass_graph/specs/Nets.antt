-- What is read of the links between nodes.
use Rattle.std.specs.Prelude.{ℕ, List, length, get_or}
use Rattle.overpass_graph.specs.declared.link.Link.{Link}
use Rattle.overpass_graph.specs.Roads.{places_below}
use Rattle.overpass_graph.specs.Maps.{no_link}
use Rattle.overpass_graph.specs.Pairs.{Net}

-- the link of a number
abbrev pub net_link : Net → ℕ → Link
net_link net link = get_or net.links link no_link

-- the links that leave a node, ascending
abbrev pub links_leaving : Net → ℕ → List ℕ
links_leaving net node = places_below (λ link. (net_link net link).from) node (length net.links)
