use Rattle.std.proofs.Common.{List, ℕ, ◌++◌, ap, ◌∙◌, codes}
use Rattle.route_http.specs.Frames.{type_of, type_line}
use Rattle.route_http.proofs.FrameLemmas.{three_joined}
use Rattle.route_http.proofs.frames.append_type.Goals as goal

pub returns : goal.returns
unfolding type_line
returns c = record {
  exact = three_joined c.args.frame.now.items (codes "Content-Type: ") (type_of c.args.kind) (codes "; charset=utf-8\r\n")
      c.append_bytes.new.text.items c.append_bytes-2.new.text.items c.append_bytes-3.new.text.items
      c.in_ok-append_bytes.ensures.exact
      (c.in_ok-append_bytes-2.ensures.exact ∙ ap (λ (l : List ℕ). c.append_bytes.new.text.items ++ l) c.type_of.ensures.exact)
      c.in_ok-append_bytes-3.ensures.exact;
}
