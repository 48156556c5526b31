use Rattle.std.proofs.Common.{length, arith, ◌∙◌}
use Rattle.space_search.specs.Books.{books}
use Rattle.space_search.proofs.TurnLemmas.{counted-none, none-within, one-within, leaves-taken, leaves-more, keeps-more, leaves-last, counted-dropped, less-dropped, counted-settled, less-settled, turns-more, turns-goal, turns-empty, turns-spent}
use Rattle.space_search.proofs.take.take_many.Goals as goal

pub returns-in-Goal-clause-turns : goal.returns-in-Goal-clause-turns
returns-in-Goal-clause-turns g c =
    turns-goal (g.S.Space.rules c.args.space.now) (g.met.S.Space.keeps_laws c.args.space.now) c.args.limit c.args.quota
    c.turn.count (books c.args.lists.now) (books c.turn.lists) c.turn.invariant.counted _ _ c.in_ok-take.ensures.takes
    c.turn-test.true c.in-Goal.number c.len-label.result c.in-Goal.is (c.len-label.ensures ∙ c.take.new.lists.settled.ok.0)

pub returns-in-Empty-clause-turns : goal.returns-in-Empty-clause-turns
returns-in-Empty-clause-turns g c =
    turns-empty (g.S.Space.rules c.args.space.now) (g.met.S.Space.keeps_laws c.args.space.now) c.args.limit c.args.quota
    c.turn.count (books c.args.lists.now) (books c.turn.lists) c.turn.invariant.counted _ _ c.in_ok-take.ensures.takes
    c.turn-test.true c.in-Empty.is

pub returns-in-Spent-clause-turns : goal.returns-in-Spent-clause-turns
returns-in-Spent-clause-turns g c =
    turns-spent (g.S.Space.rules c.args.space.now) (g.met.S.Space.keeps_laws c.args.space.now) c.args.limit c.args.quota
    c.turn.count (books c.args.lists.now) (books c.turn.lists) c.turn.invariant.counted _ _ c.in_ok-take.ensures.takes
    c.turn-test.true c.in-Spent.is

pub returns-clause-turns : goal.returns-clause-turns
returns-clause-turns g c =
    turns-more (g.S.Space.rules c.args.space.now) (g.met.S.Space.keeps_laws c.args.space.now) c.args.limit c.args.quota
    c.turn.count (books c.args.lists.now) (books c.turn.lists) c.turn.invariant.counted c.turn.invariant.kept
    c.turn.invariant.closed (omega arith)

pub turn-init : goal.turn-init
turn-init g c =
    record {
      kept = c.requires.kept;
      closed = c.requires.closed;
      bounds = c.requires.bounds;
      within = c.requires.within;
      keeps = λ place label s. s;
      counted = counted-none (length c.args.lists.now.settled.items);
      quota = none-within c.args.quota;
    }

pub take-requires-clause-kept : goal.take-requires-clause-kept
take-requires-clause-kept g c = c.turn.invariant.kept

pub take-requires-clause-closed : goal.take-requires-clause-closed
take-requires-clause-closed g c = c.turn.invariant.closed

pub take-requires-clause-small : goal.take-requires-clause-small
take-requires-clause-small g c = c.requires.small

pub take-requires-clause-within : goal.take-requires-clause-within
take-requires-clause-within g c = c.turn.invariant.within

pub returns-in_err-take-clause-leaves : goal.returns-in_err-take-clause-leaves
returns-in_err-take-clause-leaves g c =
    leaves-more (g.S.Space.rules c.args.space.now) (books c.args.lists.now) (books c.turn.lists) c.turn.invariant.keeps
    (books c.take.new.lists) c.in_err-take.ensures.leaves

pub returns-in_err-take-clause-fits : goal.returns-in_err-take-clause-fits
returns-in_err-take-clause-fits g c = c.in_err-take.ensures.fits

pub turn-smaller-in-Dropped : goal.turn-smaller-in-Dropped
turn-smaller-in-Dropped g c =
    less-dropped (g.S.Space.rules c.args.space.now) c.args.limit (books c.turn.lists) (books c.take.new.lists) _
    c.in_ok-take.ensures.takes c.in-Dropped.is

pub turn-preserved-in-Dropped : goal.turn-preserved-in-Dropped
turn-preserved-in-Dropped g c =
    let takes = c.in_ok-take.ensures.takes in
    record {
      kept = takes.kept;
      closed = takes.closed;
      bounds = c.in_ok-take.ensures.bounds;
      within = takes.within;
      keeps =
          keeps-more (g.S.Space.rules c.args.space.now) (books c.args.lists.now) (books c.turn.lists) c.turn.invariant.keeps
          (books c.take.new.lists) c.args.limit _ takes;
      counted =
          counted-dropped (g.S.Space.rules c.args.space.now) c.args.limit (books c.turn.lists) (books c.take.new.lists) _ takes
          (length c.args.lists.now.settled.items) c.turn.count c.in-Dropped.is c.turn.invariant.counted;
      quota = c.turn.invariant.quota;
    }

pub turn-smaller : goal.turn-smaller
turn-smaller g c =
    less-settled (g.S.Space.rules c.args.space.now) c.args.limit (books c.turn.lists) (books c.take.new.lists) _
    c.in_ok-take.ensures.takes c.in-Settled.is

pub turn-preserved : goal.turn-preserved
turn-preserved g c =
    let takes = c.in_ok-take.ensures.takes in
    record {
      kept = takes.kept;
      closed = takes.closed;
      bounds = c.in_ok-take.ensures.bounds;
      within = takes.within;
      keeps =
          keeps-more (g.S.Space.rules c.args.space.now) (books c.args.lists.now) (books c.turn.lists) c.turn.invariant.keeps
          (books c.take.new.lists) c.args.limit _ takes;
      counted =
          counted-settled (g.S.Space.rules c.args.space.now) c.args.limit (books c.turn.lists) (books c.take.new.lists) _ takes
          (length c.args.lists.now.settled.items) c.turn.count c.in-Settled.is c.turn.invariant.counted;
      quota = one-within c.turn.count c.args.quota c.turn-test.true;
    }

pub returns-in-Goal-clause-leaves : goal.returns-in-Goal-clause-leaves
returns-in-Goal-clause-leaves g c =
    leaves-last (g.S.Space.rules c.args.space.now) (books c.args.lists.now) (books c.turn.lists) c.turn.invariant.keeps
    (books c.take.new.lists) c.args.limit _ c.in_ok-take.ensures.takes

pub returns-in-Goal-clause-fits : goal.returns-in-Goal-clause-fits
returns-in-Goal-clause-fits g c = c.in_ok-take.ensures.fits

pub returns-in-Empty-clause-leaves : goal.returns-in-Empty-clause-leaves
returns-in-Empty-clause-leaves g c =
    leaves-last (g.S.Space.rules c.args.space.now) (books c.args.lists.now) (books c.turn.lists) c.turn.invariant.keeps
    (books c.take.new.lists) c.args.limit _ c.in_ok-take.ensures.takes

pub returns-in-Empty-clause-fits : goal.returns-in-Empty-clause-fits
returns-in-Empty-clause-fits g c = c.in_ok-take.ensures.fits

pub returns-in-Spent-clause-leaves : goal.returns-in-Spent-clause-leaves
returns-in-Spent-clause-leaves g c =
    leaves-last (g.S.Space.rules c.args.space.now) (books c.args.lists.now) (books c.turn.lists) c.turn.invariant.keeps
    (books c.take.new.lists) c.args.limit _ c.in_ok-take.ensures.takes

pub returns-in-Spent-clause-fits : goal.returns-in-Spent-clause-fits
returns-in-Spent-clause-fits g c = c.in_ok-take.ensures.fits

pub returns-clause-leaves : goal.returns-clause-leaves
returns-clause-leaves g c =
    leaves-taken (g.S.Space.rules c.args.space.now) (books c.args.lists.now) (books c.turn.lists) c.turn.invariant.keeps
    c.turn.invariant.kept

pub returns-clause-fits : goal.returns-clause-fits
returns-clause-fits g c = c.turn.invariant.within
