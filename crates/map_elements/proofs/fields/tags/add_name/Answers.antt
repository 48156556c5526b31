use Rattle.map_elements.proofs.TagLemmas.{Holds-add}
use Rattle.map_elements.proofs.fields.tags.add_name.Goals as goal

pub returns-in-Ok-clause-holds : goal.returns-in-Ok-clause-holds
returns-in-Ok-clause-holds c = λ seen h. Holds-add c.args.names.now c.insert.new.self c.args.name seen c.in-Ok.ensures.updates.0 h
