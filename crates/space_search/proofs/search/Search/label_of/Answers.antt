use Rattle.std.proofs.Common.{arith}
use Rattle.std.proofs.lemmas.Option.{slice_get_within}
use Rattle.space_search.specs.Books.{books}
use Rattle.space_search.specs.View.{held}
use Rattle.space_search.proofs.ReadLemmas.{settled-at, settled-read, ReadsGoal, goal-read, goal-shown, goal-follows}
use Rattle.space_search.proofs.search.Search.label_of.Goals as goal

pub index-requires-else-place-len : goal.index-requires-else-place-len
index-requires-else-place-len g c =
    let r = c.requires.readable in
    let found : ReadsGoal r.rules (held c.args.self.now) c.args.label =
    goal-read r.rules c.args.self.now c.args.label r.of
    (omega (arith, c.if-place-len.false, c.len.ensures, c.args.self.now.lists.settled.ok.0))
    r.within in
    omega (
      arith,
      slice_get_within c.args.self.now.lists.labels.items c.args.self.now.found found.label found.there,
      c.args.self.now.lists.labels.ok.0,
    )

pub returns-then-place-len-clause-value : goal.returns-then-place-len-clause-value
returns-then-place-len-clause-value g c =
    let r = c.requires.readable in
    settled-read r.rules c.args.self.now c.args.label c.index-then-place-len.result.now r.of
    (settled-at r.rules (books c.args.self.now.lists) c.args.label c.index.result.now c.index-then-place-len.result.now r.of.stands.reads
    (omega (arith, c.if-place-len.true, c.len.ensures, c.args.self.now.lists.settled.ok.0)) c.index.ensures
    c.index-then-place-len.ensures)

pub returns-then-place-len-clause-follows : goal.returns-then-place-len-clause-follows
returns-then-place-len-clause-follows g c rules of =
    of.stands.reads.settled_follows c.args.label c.index-then-place-len.result.now
    (settled-at rules (books c.args.self.now.lists) c.args.label c.index.result.now c.index-then-place-len.result.now of.stands.reads
    (omega (arith, c.if-place-len.true, c.len.ensures, c.args.self.now.lists.settled.ok.0)) c.index.ensures
    c.index-then-place-len.ensures)

pub returns-else-place-len-clause-value : goal.returns-else-place-len-clause-value
returns-else-place-len-clause-value g c =
    let r = c.requires.readable in
    goal-shown r.rules c.args.self.now c.args.label c.index-else-place-len.result.now r.of
    (omega (arith, c.if-place-len.false, c.len.ensures, c.args.self.now.lists.settled.ok.0)) r.within
    c.index-else-place-len.ensures

pub returns-else-place-len-clause-follows : goal.returns-else-place-len-clause-follows
returns-else-place-len-clause-follows g c rules of =
    goal-follows rules c.args.self.now c.args.label c.index-else-place-len.result.now of
    (omega (arith, c.if-place-len.false, c.len.ensures, c.args.self.now.lists.settled.ok.0)) c.requires.readable.within
    c.index-else-place-len.ensures
