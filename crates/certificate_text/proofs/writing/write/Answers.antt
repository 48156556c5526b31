use Rattle.std.proofs.Common.{◌∷◌, ◌++◌, [], arith}
use Rattle.certificate_text.specs.Lines.{head_text}
use Rattle.certificate_text.proofs.WriteLemmas.{legs-more, all-written, leg-at}
use Rattle.certificate_text.proofs.writing.write.Goals as goal

pub append_leg-requires : goal.append_leg-requires
append_leg-requires c = record {
  leg = leg-at c.args.map.now c.args.certificate.now.legs.items c.legs.place c.index.result.now c.requires.legs (omega arith) c.index.ensures;
}

pub legs-preserved : goal.legs-preserved
legs-preserved c =
    legs-more c.args.map.now c.args.certificate.now.legs.items c.legs.place c.index.result.now _ (head_text c.args.certificate.now.bound ++ (10 ∷ []))
    c.legs.text.items c.append_leg.new.text.items (omega arith) c.index.ensures c.legs.invariant
    c.in_ok-append_leg.ensures.exact

pub returns : goal.returns
returns c = record {
  exact = all-written c.args.map.now c.args.certificate.now c.legs.place c.legs.text.items c.append_bytes.new.text.items
      (omega arith) c.legs.invariant c.in_ok-append_bytes.ensures.exact;
}
