use Rattle.made_routes.proofs.crossing.crossing.Goals as goal

pub returns : goal.returns
returns c = record { exact = c.crossing_in.ensures.exact c.in_ok-world.ensures.exact }
