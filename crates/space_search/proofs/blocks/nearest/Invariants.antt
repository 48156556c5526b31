use Rattle.std.proofs.Common.{◌<◌, length}
use Rattle.space_search.proofs.blocks.nearest.Given as goal

abbrev pub invariant-parts : goal.invariant-parts
invariant-parts g l = 0 < length l.front.items → l.best < length l.front.items
