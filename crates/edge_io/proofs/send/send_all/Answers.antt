use Rattle.std.proofs.Common.{arith, length-drop}
use Rattle.std.proofs.lemmas.List.{take_rest}
use Rattle.edge_io.proofs.SinkLemmas.{Grows-more}
use Rattle.edge_io.proofs.send.send_all.Goals as goal

pub sending-preserved : goal.sending-preserved
sending-preserved g c =
    let rest = simp take_rest at c.in_ok-sent.ensures in
    record {
      within = omega (arith, rest.fits.within, length-drop c.sending.sent c.args.bytes.now);
      grows = Grows-more _ _ _ _ _ _ c.sending.invariant.grows rest.value;
    }
