use Rattle.std.proofs.Common.{arith, ◌∙◌, append-nil}
use Rattle.space_search.specs.Books.{books}
use Rattle.space_search.proofs.ChoiceLemmas.{place-below, place-within, number-within, follows-before, choices-on, choices-whole}
use Rattle.space_search.proofs.choices.choices_of.Goals as goal

pub back-init : goal.back-init
back-init g c =
    record {
      follows = c.requires.reads;
      choices = rw c.new-back.ensures.items (append-nil _);
      short = rw c.new-back.ensures.items (omega arith);
    }

pub overflow_cast-below : goal.overflow_cast-below
overflow_cast-below g c =
    let f = c.back.invariant.follows in
    omega (
      arith,
      place-below f.0 (books c.args.lists.now) f.1 c.back.below c.back.at f.2 c.back-test.true,
      c.back.auto.below-fits.fits,
    )

pub index-requires : goal.index-requires
index-requires g c =
    let f = c.back.invariant.follows in
    omega (
      arith,
      place-within f.0 (books c.args.lists.now) f.1 c.back.below c.back.at f.2 c.back-test.true,
      c.args.lists.now.settled.ok.0,
    )

pub index-at-requires : goal.index-at-requires
index-at-requires g c =
    let f = c.back.invariant.follows in
    omega (
      arith,
      number-within f.0 (books c.args.lists.now) f.1 c.back.below c.back.at f.2 c.back-test.true c.index.result.now
          c.index.ensures,
      c.args.lists.now.labels.ok.0,
    )

pub back-smaller : goal.back-smaller
back-smaller g c =
    let f = c.back.invariant.follows in
    place-below f.0 (books c.args.lists.now) f.1 c.back.below c.back.at f.2 c.back-test.true

pub back-preserved : goal.back-preserved
back-preserved g c =
    let f = c.back.invariant.follows in
    record {
      follows = (
        f.0,
        f.1,
        follows-before f.0 (books c.args.lists.now) f.1 c.back.below c.back.at f.2 c.back-test.true c.index.result.now
            c.index.ensures c.index-at.result.now c.index-at.ensures,
      );
      choices =
          choices-on f.0 (books c.args.lists.now) f.1 c.back.below c.back.at f.2 c.back-test.true c.index.result.now
          c.index.ensures c.index-at.result.now c.index-at.ensures c.back.back.items c.push.new.self.items
          c.in_ok-push.ensures.items
          ∙ c.back.invariant.choices;
      short =
          omega (
            arith,
            place-below f.0 (books c.args.lists.now) f.1 c.back.below c.back.at f.2 c.back-test.true,
            c.back.invariant.short,
            c.in_ok-push.ensures.len,
            c.push.new.self.ok.0,
            c.back.back.ok.0,
          );
    }

pub returns-clause-exact : goal.returns-clause-exact
returns-clause-exact g c =
    let f = c.back.invariant.follows in
    rw (c.from_vec.ensures.value, c.reverse.ensures.items)
    (choices-whole f.0 (books c.args.lists.now) f.1 c.back.below c.back.at f.2 c.back.back.items c.push-2.new.self.items
    (omega arith) c.in_ok-push-2.ensures.items
    ∙ c.back.invariant.choices)
