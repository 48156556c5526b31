use Rattle.std.proofs.Common.{[], ◌∷◌}
use Rattle.fixed_num.specs.Text.{mil6}
use Rattle.track_reply.specs.Rows.{part_fields, separator_of}
use Rattle.track_reply.proofs.JoinLemmas.{fields-first, fields-more}
use Rattle.track_reply.proofs.rows.append_parts.Goals as goal

pub returns : goal.returns
unfolding part_fields
returns c =
    let separator = separator_of c.args.style in
    let elevation = mil6 c.args.parts.now.elevation in
    let turn = mil6 c.args.parts.now.turn in
    let node = mil6 c.args.parts.now.node in
    record {
      exact = fields-more separator (elevation ∷ turn ∷ node ∷ []) (mil6 c.args.parts.now.initial) _ _ _
          (fields-more separator (elevation ∷ turn ∷ []) node _ _ _
          (fields-more separator (elevation ∷ []) turn _ _ _
          (fields-first separator elevation _ _ c.in_ok-append_part.ensures.exact) c.in_ok-append_part-2.ensures.exact)
          c.in_ok-append_part-3.ensures.exact) c.in_ok-append_part-4.ensures.exact;
    }
