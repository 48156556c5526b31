use Rattle.std.proofs.Common.{[], ap, sym, length, arith}
use Rattle.std.proofs.lemmas.Option.{get_or_from_slice_get}
use Rattle.lookup_table.specs.Tag.{empty_tag}
use Rattle.lookup_table.proofs.TextLemmas.{PrintsOn-start, PrintsOn-end, PrintsOn-zero, PrintsOn-item, has_tag}
use Rattle.lookup_table.proofs.print.printed.Goals as goal
use Rattle.lookup_table.proofs.print.printed.Goals.{then-number-ne0+in_ok-append_item, else-number-ne0}

pub loop-place-init : goal.loop-place-init
loop-place-init c =
    let none = c.new-out.ensures.items in
    rw none (PrintsOn-start c.args.rows.now c.args.numbers.now c.requires.fits)

pub append_item-requires-clause-fits : goal.append_item-requires-clause-fits
append_item-requires-clause-fits c =
    let has = has_tag c.args.rows.now c.args.numbers.now c.loop-place.out.items c.loop-place.is_first c.loop-place.place
    c.loop-place.invariant c.loop-place-test.true in
    let tag = get_or_from_slice_get c.args.rows.now c.loop-place.place c.tag.result.now (empty_tag []) c.tag.ensures.value in
    omega (arith, has.fits, ap (λ t. length t.firsts) tag)

pub loop-place-preserved : goal.loop-place-preserved
loop-place-preserved c =
    elim c.if-number-ne0.branch [
      | then-number-ne0+in_ok-append_item w ↦
          let tag = get_or_from_slice_get c.args.rows.now c.loop-place.place w.tag.result.now (empty_tag []) w.tag.ensures.value in
          let out = ap (λ v. v.items) w.out-is in
          let first = w.is_first-is in
          rw (out, first)
          (PrintsOn-item c.args.rows.now c.args.numbers.now c.loop-place.out.items w.append_item.new.out.items c.loop-place.is_first
          c.loop-place.place w.tag.result.now c.loop-place.invariant c.loop-place-test.true w.if-number-ne0.true
          (sym tag) w.in_ok-append_item.ensures.value)
      | else-number-ne0 w ↦
          let out = ap (λ v. v.items) w.out-is in
          let first = w.is_first-is in
          rw (out, first)
          (PrintsOn-zero c.args.rows.now c.args.numbers.now c.loop-place.out.items c.loop-place.is_first c.loop-place.place
          c.loop-place.invariant c.loop-place-test.true w.if-number-ne0.false)
    ]

pub returns : goal.returns
returns c = record {
  value = PrintsOn-end c.args.rows.now c.args.numbers.now c.loop-place.out.items c.loop-place.is_first c.loop-place.place
      c.loop-place.invariant c.loop-place-test.false;
}
