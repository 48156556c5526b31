use Rattle.std.proofs.Common.{List, ℕ, sym, ap, ◌∙◌}
use Rattle.item_list.proofs.ListLemmas.{tail}
use Rattle.route_http.specs.Ends.{empty_line}
use Rattle.route_http.proofs.EndLemmas.{LooksOn-more}
use Rattle.route_http.proofs.ends.first_end.Goals as goal

pub places-preserved : goal.places-preserved
places-preserved c =
    LooksOn-more c.args.bytes.now c.places.at c.places-test.true c.places.invariant
    (ap (λ (l : List ℕ). empty_line l) (sym (tail c.args.bytes.now c.places.at)) ∙ sym c.empty_line.ensures.exact ∙ c.in-None.is)
