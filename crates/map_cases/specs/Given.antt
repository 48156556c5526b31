-- The facts of links that a case gives.
use Rattle.std.specs.Prelude.{ℕ, pos, ◌<◌, false, List, length, get_or}
use Rattle.cost_model.specs.Facts.{AreFacts, Links}
use Rattle.cost_model.specs.declared.facts.LinkFacts.{LinkFacts}
use Rattle.geo_int.specs.declared.offsets.Arrow.{Arrow}

-- no arrow
abbrev pub no_arrow : Arrow
no_arrow = record { dx = pos 0; dy = pos 0; len = 0 }

-- no facts
abbrev pub no_facts : LinkFacts
no_facts = record {
  arrow = no_arrow;
  rise = pos 0;
  costfactor = pos 0;
  turncost = pos 0;
  initialcost = pos 0;
  classifier = pos 0;
  charge = pos 0;
  granted = false;
  upfactor = pos 0;
  downfactor = pos 0;
}

-- the facts of links in a list
abbrev pub given_links : List LinkFacts → Links
given_links list = record { count = length list; facts = λ link. get_or list link no_facts }

-- the facts of each link of a list keep the bounds
abbrev pub AreGiven : List LinkFacts → Type 0
AreGiven list = (link : ℕ) → link < length list → AreFacts (get_or list link no_facts)
