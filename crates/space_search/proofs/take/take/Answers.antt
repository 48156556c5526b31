use Rattle.std.proofs.Common.{◌<◌, length, refl, ap, sym, subst, ◌∙◌}
use Rattle.std.proofs.lemmas.Option.{slice_get_within}
use Rattle.space_search.specs.Books.{books}
use Rattle.space_search.proofs.NextLemmas.{later-next, next-read, valid-next}
use Rattle.space_search.proofs.OfferLemmas.{leaves-same}
use Rattle.space_search.proofs.ReachLemmas.{small-cost}
use Rattle.space_search.proofs.TakenLemmas.{below-limit, room-below, within-more, within-same, takes-empty, takes-dropped, leaves-dropped, leaves-offered, now-newest, steps-newest, within-settled, takes-settled}
use Rattle.space_search.proofs.take.take.Goals as goal

pub returns-then-goal-clause-takes : goal.returns-then-goal-clause-takes
returns-then-goal-clause-takes g c =
    let next = c.in-Some.ensures.next in
    record {
      kept = c.requires.kept;
      closed = c.requires.closed;
      within = c.requires.within;
      keeps = λ place label s. s;
      what = (
        refl,
        (
          c.index.result.now,
          next-read (g.S.Space.rules c.args.space.now) (books c.args.lists.now) c.in-Some.number next.0 c.index.result.now next.1
              c.index.ensures,
          sym c.goal.ensures.value ∙ c.if-goal.true,
        ),
      );
    }

pub is_covered-requires-clause-later : goal.is_covered-requires-clause-later
is_covered-requires-clause-later g c =
    let next = c.in-Some.ensures.next in
    later-next _ _ c.requires.kept c.in-Some.number c.index.result.now
    (next-read (g.S.Space.rules c.args.space.now) (books c.args.lists.now) c.in-Some.number next.0 c.index.result.now next.1
    c.index.ensures)

pub is_covered-requires-clause-small : goal.is_covered-requires-clause-small
is_covered-requires-clause-small g c =
    let next = c.in-Some.ensures.next in
    let read =
    next-read (g.S.Space.rules c.args.space.now) (books c.args.lists.now) c.in-Some.number next.0 c.index.result.now next.1 c.index.ensures
    in
    small-cost _ _ (c.requires.kept.follows c.in-Some.number c.index.result.now read.there).bounded
    c.requires.kept.stands.reads.few_settled

pub drop_next-requires-clause-next : goal.drop_next-requires-clause-next
drop_next-requires-clause-next g c =
    let next = c.in-Some.ensures.next in
    next-read (g.S.Space.rules c.args.space.now) (books c.args.lists.now) c.in-Some.number next.0 c.index.result.now next.1 c.index.ensures

pub returns-then-len-limit-clause-takes : goal.returns-then-len-limit-clause-takes
returns-then-len-limit-clause-takes g c =
    let next = c.in-Some.ensures.next in
    record {
      kept = c.requires.kept;
      closed = c.requires.closed;
      within = c.requires.within;
      keeps = λ place label s. s;
      what = (
        refl,
        sym c.args.lists.now.settled.ok.0 ∙ sym c.len.ensures ∙ c.if-len-limit.true,
        (
          c.in-Some.number,
          c.index.result.now,
          next-read (g.S.Space.rules c.args.space.now) (books c.args.lists.now) c.in-Some.number next.0 c.index.result.now next.1
              c.index.ensures,
          sym c.goal.ensures.value ∙ c.if-goal.false,
          c.is_covered.ensures.uncovered c.if-is_covered.false,
        ),
      );
    }

pub settle_next-requires-clause-next : goal.settle_next-requires-clause-next
settle_next-requires-clause-next g c =
    let next = c.in-Some.ensures.next in
    next-read (g.S.Space.rules c.args.space.now) (books c.args.lists.now) c.in-Some.number next.0 c.index.result.now next.1 c.index.ensures

pub settle_next-requires-clause-uncovered : goal.settle_next-requires-clause-uncovered
settle_next-requires-clause-uncovered g c = c.is_covered.ensures.uncovered c.if-is_covered.false

pub advance-requires-clause-steps : goal.advance-requires-clause-steps
advance-requires-clause-steps g c =
    steps-newest (g.S.Space.rules c.args.space.now) c.args.limit (books c.args.lists.now) c.requires.kept
    (books c.settle_next.new.lists) c.in-Some.number c.index.result.now c.in_ok-settle_next.ensures.settles

pub next-requires : goal.next-requires
next-requires g c = record { kept = c.requires.kept }

pub returns-in_default-clause-takes : goal.returns-in_default-clause-takes
returns-in_default-clause-takes g c =
    takes-empty (g.S.Space.rules c.args.space.now) c.args.limit (books c.args.lists.now) c.requires.kept c.requires.closed c.requires.within
    c.in_default.ensures.next

pub returns-in_default-clause-leaves : goal.returns-in_default-clause-leaves
returns-in_default-clause-leaves g c = leaves-same (g.S.Space.rules c.args.space.now) (books c.args.lists.now) c.requires.kept

pub returns-in_default-clause-fits : goal.returns-in_default-clause-fits
returns-in_default-clause-fits g c = c.requires.within

pub goal-requires : goal.goal-requires
goal-requires g c =
    let next = c.in-Some.ensures.next in
    record {
      valid = valid-next (g.S.Space.rules c.args.space.now) (books c.args.lists.now) c.requires.kept c.in-Some.number next.0
          c.index.result.now next.1 c.index.ensures;
    }

pub index-requires : goal.index-requires
index-requires g c =
    let next = c.in-Some.ensures.next in
    subst (λ n. c.in-Some.number < n) (sym c.args.lists.now.labels.ok.0)
    (slice_get_within c.args.lists.now.labels.items c.in-Some.number next.0 next.1.there)

pub returns-then-goal-clause-leaves : goal.returns-then-goal-clause-leaves
returns-then-goal-clause-leaves g c = leaves-same (g.S.Space.rules c.args.space.now) (books c.args.lists.now) c.requires.kept

pub returns-then-goal-clause-fits : goal.returns-then-goal-clause-fits
returns-then-goal-clause-fits g c = c.requires.within

pub is_covered-requires-clause-kept : goal.is_covered-requires-clause-kept
is_covered-requires-clause-kept g c = c.requires.kept

pub drop_next-requires-clause-kept : goal.drop_next-requires-clause-kept
drop_next-requires-clause-kept g c = c.requires.kept

pub drop_next-requires-clause-closed : goal.drop_next-requires-clause-closed
drop_next-requires-clause-closed g c = c.requires.closed

pub drop_next-requires-clause-covered : goal.drop_next-requires-clause-covered
drop_next-requires-clause-covered g c = c.is_covered.ensures.covered c.if-is_covered.true

pub returns-then-is_covered-clause-takes : goal.returns-then-is_covered-clause-takes
returns-then-is_covered-clause-takes g c =
    takes-dropped (g.S.Space.rules c.args.space.now) c.args.limit (books c.args.lists.now) c.requires.kept (books c.drop_next.new.lists)
    c.drop_next.ensures.drops c.requires.within

pub returns-then-is_covered-clause-leaves : goal.returns-then-is_covered-clause-leaves
returns-then-is_covered-clause-leaves g c =
    leaves-dropped (g.S.Space.rules c.args.space.now) c.args.limit (books c.args.lists.now) c.requires.kept (books c.drop_next.new.lists)
    c.drop_next.ensures.drops

pub returns-then-is_covered-clause-fits : goal.returns-then-is_covered-clause-fits
returns-then-is_covered-clause-fits g c =
    within-same _ _ c.args.limit (ap length c.drop_next.ensures.drops.settled) c.requires.within

pub returns-then-len-limit-clause-leaves : goal.returns-then-len-limit-clause-leaves
returns-then-len-limit-clause-leaves g c = leaves-same (g.S.Space.rules c.args.space.now) (books c.args.lists.now) c.requires.kept

pub returns-then-len-limit-clause-fits : goal.returns-then-len-limit-clause-fits
returns-then-len-limit-clause-fits g c = c.requires.within

pub settle_next-requires-clause-kept : goal.settle_next-requires-clause-kept
settle_next-requires-clause-kept g c = c.requires.kept

pub settle_next-requires-clause-closed : goal.settle_next-requires-clause-closed
settle_next-requires-clause-closed g c = c.requires.closed

pub settle_next-requires-clause-no_goal : goal.settle_next-requires-clause-no_goal
settle_next-requires-clause-no_goal g c = sym c.goal.ensures.value ∙ c.if-goal.false

pub settle_next-requires-clause-room : goal.settle_next-requires-clause-room
settle_next-requires-clause-room g c =
    room-below _ c.args.limit
    (below-limit _ _ c.args.limit (sym c.args.lists.now.settled.ok.0 ∙ sym c.len.ensures) c.if-len-limit.false c.requires.within)
    c.requires.small

pub returns-in_err-settle_next-clause-leaves : goal.returns-in_err-settle_next-clause-leaves
returns-in_err-settle_next-clause-leaves g c = c.in_err-settle_next.ensures.leaves

pub returns-in_err-settle_next-clause-fits : goal.returns-in_err-settle_next-clause-fits
returns-in_err-settle_next-clause-fits g c =
    within-more _ _ c.args.limit c.in_err-settle_next.ensures.most
    (below-limit _ _ c.args.limit (sym c.args.lists.now.settled.ok.0 ∙ sym c.len.ensures) c.if-len-limit.false c.requires.within)

pub advance-requires-clause-kept : goal.advance-requires-clause-kept
advance-requires-clause-kept g c = c.in_ok-settle_next.ensures.settles.kept

pub advance-requires-clause-starts : goal.advance-requires-clause-starts
advance-requires-clause-starts g c = c.in_ok-settle_next.ensures.settles.starts

pub advance-requires-clause-now : goal.advance-requires-clause-now
advance-requires-clause-now g c =
    now-newest (g.S.Space.rules c.args.space.now) c.args.limit (books c.args.lists.now) c.requires.kept
    (books c.settle_next.new.lists) c.in-Some.number c.index.result.now c.in_ok-settle_next.ensures.settles

pub returns-in_err-advance-clause-leaves : goal.returns-in_err-advance-clause-leaves
returns-in_err-advance-clause-leaves g c =
    leaves-offered (g.S.Space.rules c.args.space.now) c.args.limit (books c.args.lists.now) c.requires.kept
    (books c.settle_next.new.lists) c.in-Some.number c.index.result.now c.in_ok-settle_next.ensures.settles (books c.advance.new.lists)
    c.in_err-advance.ensures.leaves

pub returns-in_err-advance-clause-fits : goal.returns-in_err-advance-clause-fits
returns-in_err-advance-clause-fits g c =
    within-settled (g.S.Space.rules c.args.space.now) c.args.limit (books c.args.lists.now) c.requires.kept
    (books c.settle_next.new.lists) c.in-Some.number c.index.result.now c.in_ok-settle_next.ensures.settles
    c.advance.new.lists.settled.items
    (below-limit _ _ c.args.limit (sym c.args.lists.now.settled.ok.0 ∙ sym c.len.ensures) c.if-len-limit.false c.requires.within)
    c.in_err-advance.ensures.settled

pub returns-clause-takes : goal.returns-clause-takes
returns-clause-takes g c =
    takes-settled (g.S.Space.rules c.args.space.now) c.args.limit (books c.args.lists.now) c.requires.kept
    (books c.settle_next.new.lists) c.in-Some.number c.index.result.now c.in_ok-settle_next.ensures.settles (books c.advance.new.lists)
    (below-limit _ _ c.args.limit (sym c.args.lists.now.settled.ok.0 ∙ sym c.len.ensures) c.if-len-limit.false c.requires.within)
    c.in_ok-advance.ensures.advances

pub returns-clause-leaves : goal.returns-clause-leaves
returns-clause-leaves g c =
    leaves-offered (g.S.Space.rules c.args.space.now) c.args.limit (books c.args.lists.now) c.requires.kept
    (books c.settle_next.new.lists) c.in-Some.number c.index.result.now c.in_ok-settle_next.ensures.settles (books c.advance.new.lists)
    c.in_ok-advance.ensures.leaves

pub returns-clause-fits : goal.returns-clause-fits
returns-clause-fits g c =
    within-settled (g.S.Space.rules c.args.space.now) c.args.limit (books c.args.lists.now) c.requires.kept
    (books c.settle_next.new.lists) c.in-Some.number c.index.result.now c.in_ok-settle_next.ensures.settles
    c.advance.new.lists.settled.items
    (below-limit _ _ c.args.limit (sym c.args.lists.now.settled.ok.0 ∙ sym c.len.ensures) c.if-len-limit.false c.requires.within)
    c.in_ok-advance.ensures.settled
