use Rattle.std.proofs.Common.{◌∙◌, ◌∷◌, ◌++◌, [], ap, arith, length, sym}
use Rattle.std.proofs.lemmas.List.{nil_from_length}
use Rattle.map_tables.specs.Rows.{tags_in}
use Rattle.map_tables.proofs.TagLemmas.{tags_in-last, tags_in-past, KeepsOthers-append}
use Rattle.map_tables.proofs.tag_lists.TagLists.add.Goals as goal
use Rattle.map_tables.proofs.tag_lists.TagLists.add.Goals.{in-Ok, in-Err}

pub returns-then-len-eq0-clause-value : goal.returns-then-len-eq0-clause-value
returns-then-len-eq0-clause-value c =
    tags_in-past c.args.self.now c.args.place 4294967295 (omega (arith, c.self.invariant, ap length c.self.view_is))
    ∙ sym (nil_from_length c.args.tags (sym c.len.ensures.value ∙ c.if-len-eq0.true))

pub returns-clause-value : goal.returns-clause-value
returns-clause-value c = elim c.match-push.branch [
  | in-Ok w ↦ rw w.result-is (ap (λ lists. tags_in lists c.args.place c.in_ok-list.list) w.in-Ok.ensures.items
      ∙ ap (tags_in (c.self.inside.lists.items ++ (c.args.place, c.args.tags) ∷ []) c.args.place)
      (c.in_ok-list.ensures.exact.0 ∙ c.len-behind.ensures ∙ c.self.inside.lists.ok.0)
      ∙ tags_in-last c.self.inside.lists.items c.args.place c.args.tags)
  | in-Err w ↦ rw w.result-is tt
]

pub returns-clause-others : goal.returns-clause-others
returns-clause-others c = λ other list apart. elim c.match-push.branch [
  | in-Ok w ↦ ap (λ lists. tags_in lists other list) w.in-Ok.ensures.items
      ∙ KeepsOthers-append c.self.inside.lists.items c.args.place c.args.tags other list apart
      ∙ ap (λ lists. tags_in lists other list) c.self.view_is
  | in-Err w ↦ ap (λ lists. tags_in lists other list) (w.in-Err.ensures.items ∙ c.self.view_is)
]
