use Rattle.std.proofs.Common.{◌∙◌, subst}
use Rattle.item_list.specs.Answer.{Answers}
use Rattle.route_http.specs.Seen.{asked}
use Rattle.run_files.specs.Query.{tabled_in}
use Rattle.run_files.specs.declared.status.Status.TheVariants.{NoMemory}
use Rattle.run_answers.proofs.table.tabled_query.Goals as goal

pub returns : goal.returns
returns c = record {
  exact = subst (λ text. Answers asked (tabled_in text) NoMemory c.tabled_in.result) (c.as_bytes.ensures.value ∙ c.name.ensures.exact)
      c.tabled_in.ensures.exact;
  within = c.tabled_in.ensures.within;
}
