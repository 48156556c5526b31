use Rattle.std.proofs.Common.{◌∙◌, sym}
use Rattle.lookup_table.proofs.LineLemmas.{dashes_form-context}
use Rattle.lookup_table.proofs.line.Line.of_dashes.Goals as goal

pub returns-in_default-after : goal.returns-in_default-after
returns-in_default-after c =
    record {
      value = c.of_context.ensures.value
          ∙ sym (dashes_form-context c.args.line.now c.in_default.ensures.value c.in_default-after.ensures.value);
    }
