use Rattle.std.proofs.Common.{◌≡◌, ◌<◌, ap, arith, length, refl, slice_get, Some, subst}
use Rattle.std.proofs.lemmas.Option.{slice_get_read}
use Rattle.map_tables.proofs.TagLemmas.{tags_in-past, tags_in-read, IsOwn-read}
use Rattle.map_tables.proofs.tag_lists.TagLists.is_own.Goals as goal

pub returns-then-list-len-clause-no : goal.returns-then-list-len-clause-no
returns-then-list-len-clause-no c = λ no.
    tags_in-past c.args.self.now c.args.place c.args.list
    (omega (arith, c.if-list-len.true, c.len.ensures, c.self.inside.lists.ok.0, ap length c.self.view_is))

-- the list that is read
read : (c : goal.After-index) → slice_get c.args.self.now c.args.list ≡ Some c.index.result.now
read c =
    let below : c.args.list < length c.self.inside.lists.items =
    omega (arith, c.if-list-len.false, c.len.ensures, c.self.inside.lists.ok.0) in
    subst (λ lists. slice_get lists c.args.list ≡ Some c.index.result.now) c.self.view_is
    (slice_get_read c.self.inside.lists.items _ c.args.list c.index.result.now refl below c.index.ensures)

pub returns-clause-yes : goal.returns-clause-yes
returns-clause-yes c = λ yes.
    IsOwn-read c.args.self.now c.args.place c.args.list c.index.result.now (read c) yes

pub returns-clause-no : goal.returns-clause-no
returns-clause-no c = λ no.
    tags_in-read c.args.self.now c.args.place c.args.list c.index.result.now (read c) no
