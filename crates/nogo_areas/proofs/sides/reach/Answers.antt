use Rattle.nogo_areas.proofs.SideLemmas.{beyond-south, beyond-north, beyond-west, beyond-east}
use Rattle.nogo_areas.proofs.sides.reach.Goals as goal

pub returns-in-South : goal.returns-in-South
returns-in-South c = rw c.in-South.is
    (record { beyond = λ distance. beyond-south c.args.circle.now c.height.result distance c.height.ensures.farther })

pub returns-in-North : goal.returns-in-North
returns-in-North c = rw c.in-North.is
    (record { beyond = λ distance. beyond-north c.args.circle.now c.height-in-North.result distance c.height-in-North.ensures.farther })

pub returns-in-West : goal.returns-in-West
returns-in-West c = rw c.in-West.is
    (record { beyond = λ distance. beyond-west c.args.circle.now c.width.result distance c.width.ensures.farther })

pub returns-in-East : goal.returns-in-East
returns-in-East c = rw c.in-East.is
    (record { beyond = λ distance. beyond-east c.args.circle.now c.width-in-East.result distance c.width-in-East.ensures.farther })
