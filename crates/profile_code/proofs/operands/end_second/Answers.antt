use Rattle.std.proofs.Common.{ap, ◌∙◌, ◌++◌, ◌∷◌, [], pos}
use Rattle.profile_code.specs.declared.instr.Instr.TheVariants.{Number, Jump}
use Rattle.profile_code.proofs.PatchLemmas.{close_and, close_or}
use Rattle.profile_code.proofs.operands.end_second.Goals as goal

pub returns-in_ok-put-in-And-3 : goal.returns-in_ok-put-in-And-3
returns-in_ok-put-in-And-3 c = record {
  value = λ front b put begins.
      close_and c.args.op c.args.code.now.items c.put-in-And-2.new.code.items front b c.args.start c.len.result c.in-And.is
      (c.in_ok-put-in-And-3.ensures.value
      ∙ ap (λ n. c.put-in-And.new.code.items ++ Number n ∷ []) c.truth.ensures.exact
      ∙ ap (λ l. l ++ Number (pos 0) ∷ [])
      (c.in_ok-put-in-And-2.ensures.value ∙ ap (λ l. l ++ Jump 1 ∷ []) c.in_ok-put-in-And.ensures.value))
      (c.len.ensures ∙ c.put-in-And-2.new.code.ok.0)
      (record { put = put; begins = begins });
}

pub returns-in_ok-put-in-Or : goal.returns-in_ok-put-in-Or
returns-in_ok-put-in-Or c = record {
  value = λ front b put begins.
      close_or c.args.op c.args.code.now.items c.put-in-Or.new.code.items front b c.args.start c.len-in-Or.result c.in-Or.is
      c.in_ok-put-in-Or.ensures.value
      (c.len-in-Or.ensures ∙ c.put-in-Or.new.code.ok.0)
      (record { put = put; begins = begins });
}
