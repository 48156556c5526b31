-- The front behind the name of a member.
use Rattle.std.proofs.Common.{rules, refl, subst, sym, ◌∙◌}
use Rattle.json_text.specs.Marks.{Key}
use Rattle.map_elements.specs.Front.{EndsPlain, Fits, LeadsTo}
use Rattle.map_elements.specs.declared.front.Front.TheVariants as front_
use Rattle.map_elements.proofs.FrontLemmas.{kind_leads, lat_leads, lon_leads}
use Rattle.map_elements.proofs.front.named.Goals as goal

pub returns-in-Open : goal.returns-in-Open
returns-in-Open c = record {
  value = subst (λ f. LeadsTo f front_.Kind c.args.list.now (Key c.args.text.now)) (sym c.in-Open.is)
      (kind_leads c.args.list.now c.args.text.now (sym c.len.ensures.value ∙ c.if-len-eq0.true) (search rules));
}

pub returns-in-Id : goal.returns-in-Id
returns-in-Id c = record {
  value = subst (λ f. LeadsTo f front_.Lat c.args.list.now (Key c.args.text.now)) (sym c.in-Id.is)
      (lat_leads c.args.list.now c.args.text.now (subst (λ f. Fits f c.args.list.now) c.in-Id.is c.requires.fits)
      (subst (λ xs. EndsPlain 1 xs) c.part-then-eq-3.ensures.value (c.if-ends_plain-2.ensures.value refl)) (search rules));
}

pub returns-in-Lat : goal.returns-in-Lat
returns-in-Lat c = record {
  value = subst (λ f. LeadsTo f front_.Lon c.args.list.now (Key c.args.text.now)) (sym c.in-Lat.is)
      (lon_leads c.args.list.now c.args.text.now (subst (λ f. Fits f c.args.list.now) c.in-Lat.is c.requires.fits)
      (subst (λ xs. EndsPlain 2 xs) c.part-then-eq-4.ensures.value (c.if-ends_plain-3.ensures.value refl)) (search rules));
}
