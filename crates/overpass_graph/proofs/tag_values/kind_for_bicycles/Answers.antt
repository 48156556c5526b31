-- The kind of a restriction, by its tags.
use Rattle.std.proofs.Common.{not, sym, ap, ◌∙◌}
use Rattle.std.specs.Str.{bytes_eq}
use Rattle.overpass_graph.specs.RouteTags.{value_of}
use Rattle.overpass_graph.proofs.TagLemmas.{kind-no_type, kind-no_value, kind-other, kind-excepted, kind-held}
use Rattle.overpass_graph.proofs.tag_values.kind_for_bicycles.Goals as goal

-- there is no type
pub returns-in_default : goal.returns-in_default
returns-in_default c = record {
  value = sym (kind-no_type c.args.tags.now (ap (λ n. value_of n c.args.tags.now) (sym c.as_slice.ensures) ∙ c.in_default.ensures.value));
}

-- there is no restriction
pub returns-in_default-value_of : goal.returns-in_default-value_of
returns-in_default-value_of c = record {
  value = sym (kind-no_value c.args.tags.now c.in-Some.kind.now
      (ap (λ n. value_of n c.args.tags.now) (sym c.as_slice.ensures) ∙ c.in-Some.ensures.value)
      (ap (λ n. value_of n c.args.tags.now) (sym c.as_slice-2.ensures) ∙ c.in_default-value_of.ensures.value));
}

-- another type
pub returns-then-ne : goal.returns-then-ne
returns-then-ne c = record {
  value = sym (kind-other c.args.tags.now c.in-Some.kind.now c.in-Some-value_of.value.now
      (ap (λ n. value_of n c.args.tags.now) (sym c.as_slice.ensures) ∙ c.in-Some.ensures.value)
      (ap (λ n. value_of n c.args.tags.now) (sym c.as_slice-2.ensures) ∙ c.in-Some-value_of.ensures.value)
      c.ne.result (c.ne.ensures ∙ ap (λ n. not (bytes_eq c.in-Some.kind.now n)) c.as_slice-3.ensures) c.if-ne.true);
}

-- for others
pub returns-then-excepts_bicycles : goal.returns-then-excepts_bicycles
returns-then-excepts_bicycles c = record {
  value = sym (kind-excepted c.args.tags.now c.in-Some.kind.now c.in-Some-value_of.value.now
      (ap (λ n. value_of n c.args.tags.now) (sym c.as_slice.ensures) ∙ c.in-Some.ensures.value)
      (ap (λ n. value_of n c.args.tags.now) (sym c.as_slice-2.ensures) ∙ c.in-Some-value_of.ensures.value)
      c.ne.result (c.ne.ensures ∙ ap (λ n. not (bytes_eq c.in-Some.kind.now n)) c.as_slice-3.ensures) c.if-ne.false
      (sym c.excepts_bicycles.ensures.value ∙ c.if-excepts_bicycles.true));
}

-- for bicycles
pub returns : goal.returns
returns c = record {
  value = c.kind_of.ensures.value ∙ sym (kind-held c.args.tags.now c.in-Some.kind.now c.in-Some-value_of.value.now
      (ap (λ n. value_of n c.args.tags.now) (sym c.as_slice.ensures) ∙ c.in-Some.ensures.value)
      (ap (λ n. value_of n c.args.tags.now) (sym c.as_slice-2.ensures) ∙ c.in-Some-value_of.ensures.value)
      c.ne.result (c.ne.ensures ∙ ap (λ n. not (bytes_eq c.in-Some.kind.now n)) c.as_slice-3.ensures) c.if-ne.false
      (sym c.excepts_bicycles.ensures.value ∙ c.if-excepts_bicycles.false));
}
