use Rattle.std.proofs.Common.{ap, sym, ◌∙◌, rules}
use Rattle.std.specs.Prelude.{option_map}
use Rattle.map_elements.proofs.TagLemmas.{Tagged-few}
use Rattle.map_elements.proofs.fields.tags.read_few.Goals as goal

pub members-preserved : goal.members-preserved
members-preserved c =
    Tagged-few _ _ _ _ _ c.in-Some.member c.in-Some-name.name.now c.in-Some-text.text.now
    c.members.invariant
    c.in-Some.ensures.value
    (sym c.name.ensures.value ∙ ap (option_map (λ n. n.now)) c.in-Some-name.is)
    (search rules)
    (search rules)
    (search rules)
