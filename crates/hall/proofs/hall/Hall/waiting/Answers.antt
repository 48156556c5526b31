-- Whose searches wait, by what is kept of a hall.
use Rattle.std.proofs.Common.{ap}
use Rattle.hall.specs.View.{HallValue, state_of}
use Rattle.hall.proofs.hall.Hall.waiting.Goals as goal

pub returns : goal.returns
unfolding state_of
returns c = record { exact = ap (λ (v : HallValue). v.waiting) c.self.view_is }
