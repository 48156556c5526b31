use Rattle.std.proofs.Common.{List, ℕ, ◌++◌, length, ap, ◌∙◌, codes}
use Rattle.route_http.specs.Frames.{status_line, type_line, length_line, frame_of}
use Rattle.route_http.proofs.FrameLemmas.{six_joined}
use Rattle.route_http.proofs.frames.frame.Goals as goal

pub returns : goal.returns
unfolding frame_of
returns c = record {
  exact = six_joined (status_line c.args.status) (type_line c.args.kind) (length_line (length c.args.body.now))
      (codes "Connection: close\r\n") (codes "Access-Control-Allow-Origin: *\r\n\r\n") c.args.body.now
      c.append_status.new.frame.items c.append_type.new.frame.items c.append_length.new.frame.items
      c.append_bytes.new.text.items c.append_bytes-2.new.text.items c.append_bytes-3.new.text.items
      (c.in_ok-append_status.ensures.exact ∙ ap (λ (l : List ℕ). l ++ status_line c.args.status) c.in_ok-frame.ensures.items)
      c.in_ok-append_type.ensures.exact c.in_ok-append_length.ensures.exact c.in_ok-append_bytes.ensures.exact
      c.in_ok-append_bytes-2.ensures.exact c.in_ok-append_bytes-3.ensures.exact;
}
