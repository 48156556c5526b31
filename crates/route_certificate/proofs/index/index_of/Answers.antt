use Rattle.std.proofs.Common.{◌∙◌, ap, sym, subst, length, arith}
use Rattle.std.proofs.lemmas.List.Sorted.{length_permutation}
use Rattle.route_certificate.specs.Index.{AreRows, AreSpans, HaveRuns}
use Rattle.route_certificate.proofs.IndexLemmas.{front-whole, placed-rows, rows-moved, slot-within}
use Rattle.route_certificate.proofs.index.index_of.Goals as goal

pub spans_of-requires-clause-within : goal.spans_of-requires-clause-within
spans_of-requires-clause-within g c =
    let rules = g.S.Space.rules c.args.space.now in
    let entries = c.args.entries.now in
    let made = c.in_ok-rows.rows in
    let first = placed-rows rules entries made.items c.in_ok-rows.ensures.rows in
    let before = subst (AreRows rules entries) (sym c.deref_mut.ensures.value) first in
    let second = rows-moved rules entries c.deref_mut.result.now c.sort.new.rows c.sort.ensures.kept before in
    let long = length_permutation _ _ c.sort.ensures.kept in
    let same = ap length c.deref_mut.ensures.value in
    let mid = c.deref_mut-2.ensures.value
    ∙ front-whole made.len c.sort.new.rows _ (omega (arith, made.ok.0, long, same)) in
    let third = c.join.ensures.kept rules entries (subst (AreRows rules entries) (sym mid) second) in
    let last = front-whole made.len c.join.new.rows _ (omega (arith, made.ok.0, long, same, c.join.ensures.len, ap length mid)) in
    let are = subst (AreRows rules entries) (sym (c.as_slice.ensures.value ∙ last)) third in
    λ place row there.
    let below = slot-within rules entries c.as_slice.result.now (g.met.S.Space.keeps_laws c.args.space.now)
    c.requires.bounded are place row there in
    omega (arith, below, c.slots.ensures.value)

pub returns : goal.returns
returns g c =
    let rules = g.S.Space.rules c.args.space.now in
    let entries = c.args.entries.now in
    let made = c.in_ok-rows.rows in
    let first = placed-rows rules entries made.items c.in_ok-rows.ensures.rows in
    let before = subst (AreRows rules entries) (sym c.deref_mut.ensures.value) first in
    let second = rows-moved rules entries c.deref_mut.result.now c.sort.new.rows c.sort.ensures.kept before in
    let long = length_permutation _ _ c.sort.ensures.kept in
    let same = ap length c.deref_mut.ensures.value in
    let mid = c.deref_mut-2.ensures.value
    ∙ front-whole made.len c.sort.new.rows _ (omega (arith, made.ok.0, long, same)) in
    let third = c.join.ensures.kept rules entries (subst (AreRows rules entries) (sym mid) second) in
    let last = front-whole made.len c.join.new.rows _ (omega (arith, made.ok.0, long, same, c.join.ensures.len, ap length mid)) in
    let width = subst (λ width. AreSpans width c.as_slice.result.now (length c.as_slice.result.now) c.in_ok-spans.spans.items)
    c.slots.ensures.value c.in_ok-spans.ensures.spans in
    record {
      index = record {
        rows = subst (AreRows rules entries) (sym last) third;
        runs = subst (λ rows. HaveRuns rows 0) (sym last) c.join.ensures.runs;
        spans = subst (λ rows. AreSpans rules.slots rows (length rows) c.in_ok-spans.spans.items) c.as_slice.ensures.value
            width;
      };
    }
