use Rattle.std.proofs.Common.{◌≡◌, ◌∙◌, ◌-◌, ℕ, List, sym, subst, arith, length, ap, drop, replicate}
use Rattle.lookup_table.specs.Noted.{noted}
use Rattle.lookup_table.specs.Numbers.{AreNumbersOf, tag_numbers}
use Rattle.lookup_table.proofs.EncodeLemmas.{AreNumbersOf-tag_numbers, EncodesOn, EncodesOn-start, EncodesOn-step, tag_numbers-printed, whole_written}
use Rattle.lookup_table.proofs.encode.encoded.Goals as goal

pub loop-place-init : goal.loop-place-init
loop-place-init c = EncodesOn-start _ _ _
    (c.in_ok-numbers.ensures.items_if_clones_equal (λ y same. same) ∙ ap (λ n. replicate n 0) c.len.ensures.value)

pub loop-place-preserved : goal.loop-place-preserved
loop-place-preserved c =
    let tag = c.index-tags-place.result in
    let new = c.note.new.numbers in
    let new_is : new ≡ noted c.args.rows.now c.loop-place.numbers.items tag.0 tag.1 =
    c.note.ensures.value
    ∙ ap (λ ns. noted c.args.rows.now ns c.as_slice.result.now c.as_slice-in-loop-place.result.now) c.deref_mut.ensures.value
    ∙ ap (λ name. noted c.args.rows.now c.loop-place.numbers.items name c.as_slice-in-loop-place.result.now) c.as_slice.ensures.value
    ∙ ap (λ value. noted c.args.rows.now c.loop-place.numbers.items tag.0 value) c.as_slice-in-loop-place.ensures.value in
    let len : c.loop-place.numbers.len ≡ length new =
    omega (arith, c.loop-place.numbers.ok.0, c.note.auto.numbers, c.deref_mut.ensures.len) in
    subst (λ (ns : List ℕ). EncodesOn c.args.rows.now c.args.tags.now ns (c.loop-place.place - 1))
    (sym (whole_written c.loop-place.numbers.len new c.loop-place.numbers.items len))
    (EncodesOn-step c.args.rows.now c.args.tags.now c.loop-place.numbers.items new c.loop-place.place tag c.len.ensures.distinct
    c.loop-place.invariant c.loop-place-test.true c.index-tags-place.is new_is)

pub returns-clause-reread : goal.returns-clause-reread
returns-clause-reread c = λ numbers fits firsts printed.
    let front : c.loop-place.place ≡ 0 = omega arith in
    c.loop-place.invariant.numbers_are
    ∙ ap (λ n. tag_numbers c.args.rows.now (drop n c.args.tags.now)) front
    ∙ ap (tag_numbers c.args.rows.now) printed
    ∙ tag_numbers-printed c.args.rows.now numbers c.len.ensures.distinct fits firsts

pub returns-clause-fits : goal.returns-clause-fits
returns-clause-fits c =
    subst (AreNumbersOf c.args.rows.now) (sym c.loop-place.invariant.numbers_are)
    (AreNumbersOf-tag_numbers c.args.rows.now (drop c.loop-place.place c.args.tags.now) c.len.ensures.sound)
