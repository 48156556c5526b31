use Rattle.std.proofs.Common.{◌∙◌, sym, ap}
use Rattle.lookup_table.specs.Line.{text_form}
use Rattle.lookup_table.proofs.LineLemmas.{line_form-utf8, line_form-other}
use Rattle.lookup_table.proofs.line.Line.read.Goals as goal

pub returns-in-Ok : goal.returns-in-Ok
returns-in-Ok c = record {
  value = c.of_text.ensures.value ∙ ap text_form c.trimmed.ensures.value
      ∙ sym (line_form-utf8 c.args.line.now c.in-Ok.ensures.cases.1);
}

pub returns-in-Err : goal.returns-in-Err
returns-in-Err c = record { value = sym (line_form-other c.args.line.now c.in-Err.ensures.cases.0) }
