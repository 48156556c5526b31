use Rattle.std.proofs.Common.{◌∙◌, sym, subst}
use Rattle.profile_code.specs.Scratch.{HoldsGlobals}
use Rattle.way_class.proofs.StageLemmas.{classes-kept, works-both}
use Rattle.way_class.proofs.binder.Binder.advance.Goals as goal

pub returns-clause-over : goal.returns-clause-over
returns-clause-over c = record {
  fits = c.requires.over.fits;
  held = subst (λ scratch. HoldsGlobals c.args.code.now scratch) (sym c.in_ok-left-2.ensures.kept.scratch)
      c.in_ok-left.ensures.held;
  weight = (c.in_ok-left-2.ensures.works.weight ∙ c.in_ok-left.ensures.works.weight) ∙ c.requires.over.weight;
  within = c.in_ok-left-2.ensures.within;
  parts = c.in_ok-left-2.ensures.parts;
}

pub returns-clause-exact : goal.returns-clause-exact
returns-clause-exact c = λ subject suits bound.
    classes-kept subject c.args.map.now _ _ c.in_ok-left-2.ensures.kept (c.in_ok-left.ensures.exact subject suits bound)

pub returns-clause-works : goal.returns-clause-works
returns-clause-works c =
    works-both c.args.map.now c.args.budget c.in_ok-left.left c.in_ok-left-2.left _ _ _ c.in_ok-left.ensures.works
    c.in_ok-left-2.ensures.works

pub more_links-requires-clause-parts : goal.more_links-requires-clause-parts
more_links-requires-clause-parts c = c.in_ok-left.ensures.parts c.args.tiles.now c.requires.over.parts
