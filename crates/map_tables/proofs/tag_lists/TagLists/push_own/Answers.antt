use Rattle.std.proofs.Common.{◌≡◌, ◌∙◌, ◌∷◌, ◌++◌, [], ap, arith, length, set, slice_get, sym, List, ℕ}
use Rattle.std.proofs.lemmas.Option.{get_or_from_slice_get, slice_get_within}
use Rattle.map_tables.specs.Kept.{Tag}
use Rattle.map_tables.specs.Rows.{tags_in}
use Rattle.map_tables.proofs.TagLemmas.{tags_in-own, tags_in-set, KeepsOthers-set}
use Rattle.map_tables.proofs.tag_lists.TagLists.push_own.Goals as goal
use Rattle.map_tables.proofs.tag_lists.TagLists.push_own.Goals.{in-Ok, in-Err}

pub index_mut-requires : goal.index_mut-requires
index_mut-requires c =
    omega (
      arith,
      slice_get_within c.args.self.now c.args.list _ c.requires.own.is,
      ap length c.self.view_is,
      c.self.inside.lists.ok.0,
    )

pub returns-clause-value : goal.returns-clause-value
returns-clause-value c =
    let stands = ap (λ lists. slice_get lists c.args.list) c.self.view_is ∙ c.requires.own.is in
    let read : c.index_mut.result.now ≡ (c.args.place, c.requires.own.tags) = c.index_mut.ensures.value
    ∙ get_or_from_slice_get c.self.inside.lists.items c.args.list (c.args.place, c.requires.own.tags) _ stands in
    elim c.match-push.branch [
      | in-Ok w ↦ rw w.result-is
          (ap (λ n. tags_in (set c.self.inside.lists.items c.args.list (n, c.push.new.self)) c.args.place c.args.list)
          (ap (λ (p : ℕ × List Tag). p.0) read)
          ∙ tags_in-set c.self.inside.lists.items c.args.place c.args.list c.requires.own.tags c.push.new.self stands
          ∙ w.in-Ok.ensures.value
          ∙ ap (λ (tags : List Tag). tags ++ (c.args.name, c.args.value) ∷ [])
          (ap (λ (p : ℕ × List Tag). p.1) read
          ∙ sym (tags_in-own c.args.self.now c.args.place c.args.list c.requires.own.tags c.requires.own.is)))
      | in-Err w ↦ rw w.result-is tt
    ]

pub returns-clause-others : goal.returns-clause-others
returns-clause-others c = λ other list apart.
    let stands = ap (λ lists. slice_get lists c.args.list) c.self.view_is ∙ c.requires.own.is in
    let read : c.index_mut.result.now ≡ (c.args.place, c.requires.own.tags) = c.index_mut.ensures.value
    ∙ get_or_from_slice_get c.self.inside.lists.items c.args.list (c.args.place, c.requires.own.tags) _ stands in
    ap (λ n. tags_in (set c.self.inside.lists.items c.args.list (n, c.push.new.self)) other list)
    (ap (λ (p : ℕ × List Tag). p.0) read)
    ∙ KeepsOthers-set c.self.inside.lists.items c.args.place c.args.list c.requires.own.tags c.push.new.self stands other
    list apart
    ∙ ap (λ lists. tags_in lists other list) c.self.view_is
