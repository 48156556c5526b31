use Rattle.std.proofs.Common.{ap, sym, ◌∙◌, rules}
use Rattle.std.specs.Prelude.{option_map}
use Rattle.map_elements.proofs.TagLemmas.{Tagged-new}
use Rattle.map_elements.proofs.fields.tags.read_tags.Goals as goal

pub members-preserved : goal.members-preserved
members-preserved c =
    Tagged-new _ _ _ c.next.new.self _ _ _ c.in-Some.member c.in-Some-name.name.now c.in-Some-text.text.now
    c.members.invariant
    c.in-Some.ensures.value
    (sym c.name.ensures.value ∙ ap (option_map (λ n. n.now)) c.in-Some-name.is)
    (search rules)
    (c.in_ok-is_new.ensures.holds c.members.invariant.names c.members.invariant.holds)
    (search rules)
    (search rules)
