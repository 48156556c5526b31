use Rattle.std.proofs.Common.{ℕ, List, ◌++◌, arith, ap, ◌∙◌}
use Rattle.grid_map.specs.MapText.{overpass_text, text_from}
use Rattle.grid_map.proofs.PartLemmas.{text_from-end}
use Rattle.grid_map.proofs.CallerLemmas.{text_from-begin}
use Rattle.grid_map.proofs.grid.Grid.overpass_text.Goals as goal

pub parts-init : goal.parts-init
parts-init c =
    record {
      within = omega arith;
      room = omega (arith, c.in_ok-piece.ensures.exact);
      whole = ap (λ (l : List ℕ). l ++ text_from c.args.self.now 0) c.new-text.ensures.items ∙ text_from-begin c.args.self.now;
    }

pub returns : goal.returns
returns c =
    record {
      exact = text_from-end c.args.self.now c.parts.next c.parts.text.items (overpass_text c.args.self.now)
          (omega (arith, c.parts-test.false, c.map_parts.ensures.exact)) c.parts.invariant.whole;
    }
