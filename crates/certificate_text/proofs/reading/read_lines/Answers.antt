use Rattle.std.proofs.Common.{◌∙◌, ◌∷◌, ◌++◌, [], refl, sym, subst}
use Rattle.certificate_text.specs.Lines.{Head, lines_of}
use Rattle.certificate_text.specs.Texts.{IsTextOf}
use Rattle.certificate_text.proofs.ReadLemmas.{none-told, reading-fault, reading-next, reading-short, reading-whole, some-told}
use Rattle.certificate_text.proofs.reading.read_lines.Goals as goal

pub lines-preserved : goal.lines-preserved
lines-preserved c =
    let read = rw c.in-Some.is at c.in_ok-after.ensures.exact in
    reading-next c.args.map.now _ c.args.bound c.lines.number c.lines.rest.now c.lines.draft c.take_line.new.self c.lines.invariant c.in-Some.after.now
    _ read refl

pub returns-then-is_ended : goal.returns-then-is_ended
returns-then-is_ended c = record {
  exact = subst (IsTextOf c.args.map.now (lines_of c.args.map.now (Head c.args.bound ∷ []) ++ c.args.text.now)) (sym c.certificate.ensures.value)
      (reading-whole c.args.map.now _ c.args.bound c.lines.number c.lines.rest.now c.lines.draft c.lines.invariant
      (none-told c.lines.rest.now c.lines-test.ensures) (sym c.is_ended.ensures.value ∙ c.if-is_ended.true));
}

pub returns-in_default : goal.returns-in_default
returns-in_default c = record {
  exact =
      let none = rw c.in_default.is at c.in_ok-after.ensures.exact in
      reading-fault c.args.map.now _ c.args.bound c.lines.number c.lines.rest.now c.lines.draft c.take_line.new.self c.lines.invariant
      (some-told c.lines.rest.now c.lines-test.ensures) none;
}

pub returns-else-is_ended : goal.returns-else-is_ended
returns-else-is_ended c = record {
  exact = reading-short c.args.map.now _ c.args.bound c.lines.number c.lines.rest.now c.lines.draft c.lines.invariant
      (none-told c.lines.rest.now c.lines-test.ensures)
      (λ is. (
      let never : ⊥ = cc in
      never
      ));
}
