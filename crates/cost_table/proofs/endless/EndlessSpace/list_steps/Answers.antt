use Rattle.indexmap.proofs.MapLemmas.{OnOk-map}
use Rattle.cost_table.proofs.EndlessLemmas.{known-endless, leaves-endless}
use Rattle.cost_table.proofs.endless.EndlessSpace.list_steps.Goals as goal

pub list_steps-requires-clause-known : goal.list_steps-requires-clause-known
list_steps-requires-clause-known g c = known-endless _ _ c.requires.known

pub returns : goal.returns
returns g c = record { lists = OnOk-map c.list_steps.result _ _ (leaves-endless _ _ _ _ _) c.list_steps.ensures.lists }
