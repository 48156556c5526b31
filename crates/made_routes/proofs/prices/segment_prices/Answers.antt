use Rattle.std.proofs.Common.{◌≡◌, length, sym, ap, ◌∙◌, subst, arith}
use Rattle.grid_map.specs.Costs.{AreCheap}
use Rattle.made_routes.proofs.PriceLemmas.{prices-cheap, prices-count, prices-more, prices-whole}
use Rattle.made_routes.specs.Costs.{segment_prices}
use Rattle.way_class.specs.Links.{links_of, links_of-sound}
use Rattle.made_routes.proofs.prices.segment_prices.Goals as goal

pub segments-preserved : goal.segments-preserved
segments-preserved c =
    record {
      within = omega (arith, c.segments-test.true);
      costs = prices-more (links_of c.args.bound.now) c.args.which c.segments.place _ _ _ c.segments.invariant.costs
          c.in_ok-push.ensures.items
          c.link_price.ensures.exact;
    }

pub returns : goal.returns
returns c =
    let whole : c.from_vec.result ≡ segment_prices (links_of c.args.bound.now) c.args.which c.args.count =
    c.from_vec.ensures.value
    ∙ prices-whole (links_of c.args.bound.now) c.args.which c.segments.place c.args.count _ (omega (arith, c.segments-test.false))
    c.segments.invariant.within c.segments.invariant.costs in
    record {
      exact = whole;
      fits = ap length whole ∙ prices-count (links_of c.args.bound.now) c.args.which c.args.count;
      cheap = subst AreCheap (sym whole)
          (prices-cheap (links_of c.args.bound.now) (links_of-sound c.args.bound.now) c.args.which c.args.count c.requires.which
          c.requires.there);
    }
