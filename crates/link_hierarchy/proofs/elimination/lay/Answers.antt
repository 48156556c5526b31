use Rattle.std.proofs.Common.{[], ◌∷◌, ◌++◌, ◌∙◌, ap}
use Rattle.std.proofs.lemmas.List.{length-set}
use Rattle.link_hierarchy.proofs.RowLemmas.{put-other, put-same, row-read}
use Rattle.link_hierarchy.proofs.elimination.lay.Goals as goal

pub returns : goal.returns
returns c =
    let pages = c.args.rows.now.items in
    let row = row-read pages c.args.node c.index.result.now c.as_slice.result.now c.requires.in_range c.index.ensures c.as_slice.ensures.value in
    record {
      lays = record {
        counted = length-set pages c.args.node c.new.result;
        here = put-same 0 c.args.node pages c.new.result c.requires.in_range ∙ c.new.ensures.items;
        others = put-other 0 c.args.node pages c.new.result c.requires.in_range;
        laid_is = c.in_ok-extend_from_slice.ensures.items ∙ ap (λ r. c.args.laid.now.items ++ r) row;
        starts_is =
            c.in_ok-push.ensures.items
            ∙ ap (λ n. c.args.starts.now.items ++ n ∷ []) (c.len.ensures ∙ c.extend_from_slice.new.self.ok.0);
      };
    }
