use Rattle.std.proofs.Common.{◌≡◌, ◌∙◌, ◌<◌, ap, sym, subst, get_or, length, refl, false, IsTrue, arith}
use Rattle.std.proofs.lemmas.Option.{slice_get_read}
use Rattle.std.specs.List.{slice_get}
use Rattle.cost_model.specs.declared.parts.Carry.{Carry}
use Rattle.space_search.specs.declared.point.Point.{Point}
use Rattle.route_certificate.specs.Entries.{carry_of}
use Rattle.route_certificate.specs.Index.{IsLower, low_at}
use Rattle.route_certificate.proofs.EntryLemmas.{no_entry}
use Rattle.route_certificate.proofs.IndexLemmas.{entry-there, row-within}
use Rattle.route_certificate.proofs.PassedLemmas.{covered-by, passed-all, passed-row, passed-run}
use Rattle.route_certificate.proofs.index.is_covered.Goals as goal

pub bounds-entries-row : goal.bounds-entries-row
bounds-entries-row g c =
    let rows = c.args.index.now.rows in
    let row = c.index-row.result.now in
    let there = slice_get_read rows.items (length rows.items) c.rows.place row refl
    (omega (arith, c.if-place-len.true, c.len.ensures, rows.ok.0)) c.index-row.ensures in
    row-within _ c.args.entries.now rows.items c.requires.index.rows c.rows.place row there

pub covers-requires-clause-valid_a : goal.covers-requires-clause-valid_a
covers-requires-clause-valid_a g c =
    let rows = c.args.index.now.rows in
    let row = c.index-row.result.now in
    let there = slice_get_read rows.items (length rows.items) c.rows.place row refl
    (omega (arith, c.if-place-len.true, c.len.ensures, rows.ok.0)) c.index-row.ensures in
    let here = entry-there _ c.args.entries.now rows.items c.requires.index.rows c.rows.place row there in
    subst (λ (s : Carry). IsTrue ((g.S.Space.rules c.args.space.now).is_valid s)) (sym c.carry.ensures.value)
    (c.requires.bounded row.place _ here).valid

pub covers-requires-clause-small_a : goal.covers-requires-clause-small_a
covers-requires-clause-small_a g c =
    let rows = c.args.index.now.rows in
    let row = c.index-row.result.now in
    let there = slice_get_read rows.items (length rows.items) c.rows.place row refl
    (omega (arith, c.if-place-len.true, c.len.ensures, rows.ok.0)) c.index-row.ensures in
    let here = entry-there _ c.args.entries.now rows.items c.requires.index.rows c.rows.place row there in
    let small = (c.requires.bounded row.place _ here).small in
    omega (arith, small)

pub returns-then-covers : goal.returns-then-covers
returns-then-covers g c =
    let rows = c.args.index.now.rows in
    let row = c.index-row.result.now in
    let there = slice_get_read rows.items (length rows.items) c.rows.place row refl
    (omega (arith, c.if-place-len.true, c.len.ensures, rows.ok.0)) c.index-row.ensures in
    let here = entry-there _ c.args.entries.now rows.items c.requires.index.rows c.rows.place row there in
    let entry = get_or c.args.entries.now row.place no_entry in
    let covers : IsTrue ((g.S.Space.rules c.args.space.now).covers (carry_of entry) entry.cost c.args.state.now c.args.cost) =
    subst (λ (s : Carry). IsTrue ((g.S.Space.rules c.args.space.now).covers s entry.cost c.args.state.now c.args.cost))
    c.carry.ensures.value (sym c.covers.ensures.value ∙ c.if-covers.true) in
    record {
      exact = (
        (λ _. covered-by _ (g.met.S.Space.keeps_laws c.args.space.now) c.args.entries.now c.requires.bounded
            c.args.index.now.rows.items c.requires.index.rows c.args.state.now c.args.cost c.requires.valid
            row.place entry here covers),
        (λ _. refl),
      );
    }

pub rows-preserved-then-is_lower : goal.rows-preserved-then-is_lower
rows-preserved-then-is_lower g c = λ span in_span.
    let rows = c.args.index.now.rows in
    let row = c.index-row.result.now in
    let there = slice_get_read rows.items (length rows.items) c.rows.place row refl
    (omega (arith, c.if-place-len.true, c.len.ensures, rows.ok.0)) c.index-row.ensures in
    let here = entry-there _ c.args.entries.now rows.items c.requires.index.rows c.rows.place row there in
    let entry = get_or c.args.entries.now row.place no_entry in
    let differs : (g.S.Space.rules c.args.space.now).covers (carry_of entry) entry.cost c.args.state.now c.args.cost ≡ false =
    subst (λ (s : Carry). (g.S.Space.rules c.args.space.now).covers s entry.cost c.args.state.now c.args.cost ≡ false)
    c.carry.ensures.value (sym c.covers.ensures.value ∙ c.if-covers.false) in
    passed-row _ (g.met.S.Space.keeps_laws c.args.space.now) c.args.entries.now c.requires.bounded
    c.args.index.now.rows.items c.requires.index.rows c.args.state.now c.args.cost c.requires.valid
    span.first c.rows.place row entry (c.rows.invariant span in_span) there here differs

pub rows-smaller : goal.rows-smaller
rows-smaller g c =
    let rows = c.args.index.now.rows in
    let row = c.index-row.result.now in
    let there = slice_get_read rows.items (length rows.items) c.rows.place row refl
    (omega (arith, c.if-place-len.true, c.len.ensures, rows.ok.0)) c.index-row.ensures in
    let within : c.rows.place < length rows.items = omega (arith, c.if-place-len.true, c.len.ensures, rows.ok.0) in
    let after = (c.requires.index.runs c.rows.place row (omega arith) there).after in
    omega (arith, after, within)

pub rows-preserved : goal.rows-preserved
rows-preserved g c = λ span in_span.
    let rows = c.args.index.now.rows in
    let row = c.index-row.result.now in
    let there = slice_get_read rows.items (length rows.items) c.rows.place row refl
    (omega (arith, c.if-place-len.true, c.len.ensures, rows.ok.0)) c.index-row.ensures in
    passed-run _ (g.met.S.Space.keeps_laws c.args.space.now) c.args.entries.now c.requires.bounded
    c.args.index.now.rows.items c.requires.index.rows c.args.state.now c.args.cost c.requires.valid
    span.first c.rows.place row (c.rows.invariant span in_span)
    (c.requires.index.runs c.rows.place row (omega arith) there)
    (λ lower.
    let is : IsTrue c.is_lower.result = c.is_lower.ensures.exact.1
    (subst (λ (p : Point). IsLower row.low (low_at p c.args.cost)) (sym c.point-point.ensures.value) lower) in
    let never : ⊥ = cc in
    never)

pub returns-else-place-len : goal.returns-else-place-len
returns-else-place-len g c =
    let spans = c.args.index.now.spans.items in
    let laws = g.met.S.Space.keeps_laws c.args.space.now in
    let below = laws.moves.slot c.args.state.now c.requires.valid in
    let read = slice_get_read spans (length spans) c.slot.result c.index-span.result.now refl
    (omega (arith, below, c.slot.ensures.value, c.requires.index.spans.slots)) c.index-span.ensures in
    let in_span = sym (ap (slice_get spans) c.slot.ensures.value) ∙ read in
    let rows = c.args.index.now.rows in
    record {
      exact = (
        (λ never. absurd (cc)),
        (λ covered. absurd (passed-all _ (g.met.S.Space.keeps_laws c.args.space.now) c.args.entries.now c.requires.bounded
            c.args.index.now.rows.items c.requires.index.rows c.args.state.now c.args.cost c.requires.valid
            spans c.index-span.result.now c.rows.place c.requires.index.spans in_span
            (c.rows.invariant c.index-span.result.now in_span)
            (λ at within _. omega (arith, within, c.if-place-len.false, c.len.ensures, rows.ok.0)) covered)),
      );
    }

pub returns-after-rows : goal.returns-after-rows
returns-after-rows g c =
    let spans = c.args.index.now.spans.items in
    let laws = g.met.S.Space.keeps_laws c.args.space.now in
    let below = laws.moves.slot c.args.state.now c.requires.valid in
    let read = slice_get_read spans (length spans) c.slot.result c.index-span.result.now refl
    (omega (arith, below, c.slot.ensures.value, c.requires.index.spans.slots)) c.index-span.ensures in
    let in_span = sym (ap (slice_get spans) c.slot.ensures.value) ∙ read in
    record {
      exact = (
        (λ never. absurd (cc)),
        (λ covered. absurd (passed-all _ (g.met.S.Space.keeps_laws c.args.space.now) c.args.entries.now c.requires.bounded
            c.args.index.now.rows.items c.requires.index.rows c.args.state.now c.args.cost c.requires.valid
            spans c.index-span.result.now c.rows.place c.requires.index.spans in_span
            (c.rows.invariant c.index-span.result.now in_span)
            (λ at _ below. omega (arith, below, c.rows-test.false)) covered)),
      );
    }
