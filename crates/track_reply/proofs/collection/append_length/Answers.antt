use Rattle.std.proofs.Common.{◌++◌, codes, ap, ◌∙◌, append_assoc}
use Rattle.geo_int.specs.Texts.{metres_text}
use Rattle.track_reply.specs.GeoJson.{length_part}
use Rattle.track_reply.proofs.collection.append_length.Goals as goal

pub returns : goal.returns
unfolding length_part
returns c = record {
  exact = c.in_ok-mm3.ensures.exact ∙ ap (λ text. text ++ metres_text c.args.length) c.in_ok-extend_from_slice.ensures.items
      ∙ append_assoc c.args.out.now.items (codes "\",\"track-length\":\"") (metres_text c.args.length);
}
