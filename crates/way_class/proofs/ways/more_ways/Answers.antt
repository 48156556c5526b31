use Rattle.std.proofs.Common.{◌≡◌, ◌<◌, ◌∙◌, suc, ap, length, refl, sym, subst, arith}
use Rattle.way_class.specs.Bound.{AreWaysBound}
use Rattle.way_class.specs.Refusals.{way_refusal}
use Rattle.way_class.specs.Stages.{ways_at}
use Rattle.way_class.proofs.PartLemmas.{first-found, or-second, way-free}
use Rattle.way_class.proofs.SpendingLemmas.{advances-none, class-more}
use Rattle.way_class.proofs.ways.more_ways.Goals as goal

pub ways-init : goal.ways-init
ways-init c =
    let first : c.len-first.result ≡ length c.args.ways.now.numbers.items =
    omega (arith, c.len-first.ensures, c.args.ways.now.numbers.ok.0) in
    record {
      held = c.requires.held;
      count = sym first;
      bound = λ subject suits is. subst (λ n. AreWaysBound subject c.args.map.now n c.args.ways.now) (sym first) is;
      advances = advances-none c.args.weight c.args.budget (length c.args.map.now.ways)
          (ways_at c.args.weight (length c.args.map.now.ways) c.args.ways.now) c.requires.within;
      same = λ all. refl;
    }

pub ways-preserved : goal.ways-preserved
ways-preserved c =
    let some : 0 < c.ways.left = omega (arith, c.if-left-eq0.false) in
    let below : length c.ways.ways.numbers.items < length c.args.map.now.ways = omega
    (arith, c.ways-count.ensures.value, c.ways-test.true, c.ways.invariant.count) in
    let before : c.len-before.result ≡ length c.ways.ways.kept.items.items =
    omega (arith, c.len-before.ensures, c.ways.ways.kept.items.ok.0) in
    let after : c.len.result ≡ length c.add_way.new.ways.kept.items.items =
    omega (arith, c.len.ensures, c.add_way.new.ways.kept.items.ok.0) in
    record {
      held = c.in_default.ensures.kept;
      count = omega (arith, c.in_default.ensures.counts, c.ways.invariant.count);
      bound = λ subject suits is.
          c.in_default.ensures.exact subject suits (c.ways.invariant.bound subject suits is);
      advances = class-more c.args.weight c.args.budget c.ways.left c.left_after-left.result
          (length c.args.map.now.ways) (length c.ways.ways.numbers.items) (length c.ways.ways.kept.items.items)
          (length c.add_way.new.ways.kept.items.items) (length c.add_way.new.ways.numbers.items)
          (ways_at c.args.weight (length c.args.map.now.ways) c.args.ways.now) c.ways.invariant.advances
          c.in_default.ensures.counts below some c.in_default.ensures.adds
          (λ same. c.left_after-left.ensures.known (after ∙ same ∙ sym before))
          (λ one. c.left_after-left.ensures.evaluated (after ∙ one ∙ ap suc (sym before)));
      same = λ all. absurd (omega (arith, c.ways.invariant.advances.grows));
    }

pub returns-in-Err-clause-exact : goal.returns-in-Err-clause-exact
returns-in-Err-clause-exact c = λ subject suits is.
    let bound : AreWaysBound subject c.args.map.now c.ways.way c.ways.ways = c.ways.invariant.bound subject suits is in
    let below : c.ways.way < length c.args.map.now.ways = omega (arith, c.ways-count.ensures.value, c.ways-test.true) in
    or-second
    (λ refused. first-found (way_refusal subject c.args.map.now) c.ways.way (length c.args.map.now.ways) _
    (λ way before. way-free subject c.args.map.now way (bound.each way before).class
    (bound.each way before).means) refused below)
    (c.in-Err.ensures.exact subject suits bound)
