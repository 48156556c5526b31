use Rattle.std.proofs.Common.{sym, subst, arith}
use Rattle.link_hierarchy.specs.Limits.{Adds}
use Rattle.link_hierarchy.specs.Topologies.{IsPair, back_of, head_of, into_of, out_of, up_of}
use Rattle.link_hierarchy.proofs.TopologyLemmas.{place-in}
use Rattle.link_hierarchy.proofs.AheadLemmas.{ahead-found, ahead-skips}
use Rattle.link_hierarchy.proofs.BaseLemmas.{linked-up}
use Rattle.link_hierarchy.proofs.LowerLemmas.{lowers-out}
use Rattle.link_hierarchy.proofs.JoinLemmas.{join-up, places-linked, skip-up}
use Rattle.link_hierarchy.proofs.joining.join_up.Goals as goal

pub tail-tail-requires : goal.tail-tail-requires
tail-tail-requires c =
    record { in_range = place-in (into_of c.args.topology.now) c.nodes-nodes.ensures.lawful.into c.args._node c.args.first c.requires.first }

pub head-head-requires : goal.head-head-requires
head-head-requires c =
    record { in_range = place-in (up_of c.args.topology.now) c.nodes-nodes.ensures.lawful.out c.args._node c.args.second c.requires.second }

pub returns-then-head-tail-clause-customized : goal.returns-then-head-tail-clause-customized
returns-then-head-tail-clause-customized c =
    let at_first : IsPair (into_of c.args.topology.now) c.args._node c.tail-tail.result c.args.first =
    record { at = c.requires.first; is = sym c.tail-tail.ensures.value } in
    let at_second : IsPair (up_of c.args.topology.now) c.args._node c.head-head.result c.args.second =
    record { at = c.requires.second; is = sym c.head-head.ensures.value } in
    skip-up c.args.topology.now c.nodes-nodes.ensures.lawful c.args._arcs.now c.args._node c.args.weights.now c.args.first c.args.second
    c.tail-tail.result c.head-head.result c.args._head 0 at_first at_second c.if-head-tail.true c.requires.customized

pub returns-then-head-tail-clause-ahead : goal.returns-then-head-tail-clause-ahead
returns-then-head-tail-clause-ahead c =
    ahead-skips (up_of c.args.topology.now) c.nodes-nodes.ensures.lawful.out c.args._node
    (head_of (into_of c.args.topology.now) c.args.first) c.args.second c.args.from c.requires.ahead

pub place_of_head-place-requires-clause-joined : goal.place_of_head-place-requires-clause-joined
place_of_head-place-requires-clause-joined c =
    let at_first : IsPair (into_of c.args.topology.now) c.args._node c.tail-tail.result c.args.first =
    record { at = c.requires.first; is = sym c.tail-tail.ensures.value } in
    let at_second : IsPair (up_of c.args.topology.now) c.args._node c.head-head.result c.args.second =
    record { at = c.requires.second; is = sym c.head-head.ensures.value } in
    linked-up c.args.topology.now c.nodes-nodes.ensures.lawful c.tail-tail.result c.head-head.result
    (places-linked c.args.topology.now c.nodes-nodes.ensures.lawful c.args._arcs.now c.args._node c.args.first c.args.second
    c.tail-tail.result c.head-head.result c.requires.first c.requires.second c.tail-tail.ensures.value c.head-head.ensures.value
    (λ same. absurd (omega (arith, same, c.if-head-tail.false))))
    (omega (arith, c.if-head-tail.false))

pub place_of_head-place-requires-clause-ahead : goal.place_of_head-place-requires-clause-ahead
place_of_head-place-requires-clause-ahead c k pair =
    let at_first : IsPair (into_of c.args.topology.now) c.args._node c.tail-tail.result c.args.first =
    record { at = c.requires.first; is = sym c.tail-tail.ensures.value } in
    let at_second : IsPair (up_of c.args.topology.now) c.args._node c.head-head.result c.args.second =
    record { at = c.requires.second; is = sym c.head-head.ensures.value } in
    c.requires.ahead.ahead c.head-head.result c.args.second k (omega arith) at_second
    (subst (λ n. IsPair (up_of c.args.topology.now) n c.head-head.result k) c.tail-tail.ensures.value pair)

pub back-requires : goal.back-requires
back-requires c =
    record {
      in_range = omega (
        arith,
        place-in (into_of c.args.topology.now) c.nodes-nodes.ensures.lawful.into c.args._node c.args.first c.requires.first,
        c.requires.customized.fits.1,
      );
    }

pub out-requires : goal.out-requires
out-requires c =
    record {
      in_range = omega (
        arith,
        place-in (up_of c.args.topology.now) c.nodes-nodes.ensures.lawful.out c.args._node c.args.second c.requires.second,
        c.requires.customized.fits.0,
      );
    }

pub returns-clause-customized : goal.returns-clause-customized
returns-clause-customized c =
    let at_first : IsPair (into_of c.args.topology.now) c.args._node c.tail-tail.result c.args.first =
    record { at = c.requires.first; is = sym c.tail-tail.ensures.value } in
    let at_second : IsPair (up_of c.args.topology.now) c.args._node c.head-head.result c.args.second =
    record { at = c.requires.second; is = sym c.head-head.ensures.value } in
    let adds : Adds (back_of c.args.weights.now c.args.first) (out_of c.args.weights.now c.args.second) c.plus.result =
    subst (λ n. Adds n (out_of c.args.weights.now c.args.second) c.plus.result) c.back.ensures.value
    (subst (λ n. Adds c.back.result n c.plus.result) c.out.ensures.value c.plus.ensures.value) in
    join-up c.args.topology.now c.nodes-nodes.ensures.lawful c.args._arcs.now c.args._node c.args.weights.now c.lower_out.new.self
    c.args.first c.args.second c.tail-tail.result c.head-head.result c.plus.result c.args._head 0 at_first at_second
    (omega (arith, c.if-head-tail.false)) adds
    (lowers-out c.args.topology.now c.nodes-nodes.ensures.lawful c.args.weights.now c.lower_out.new.self c.place_of_head-place.result c.plus.result
    c.tail-tail.result c.head-head.result (omega (arith, c.if-head-tail.false)) c.place_of_head-place.ensures.is c.lower_out.ensures.lowers)
    c.requires.customized

pub returns-clause-ahead : goal.returns-clause-ahead
returns-clause-ahead c =
    let at_first : IsPair (into_of c.args.topology.now) c.args._node c.tail-tail.result c.args.first =
    record { at = c.requires.first; is = sym c.tail-tail.ensures.value } in
    let at_second : IsPair (up_of c.args.topology.now) c.args._node c.head-head.result c.args.second =
    record { at = c.requires.second; is = sym c.head-head.ensures.value } in
    ahead-found (up_of c.args.topology.now) c.nodes-nodes.ensures.lawful.out c.args._node
    (head_of (into_of c.args.topology.now) c.args.first) c.args.second c.head-head.result c.place_of_head-place.result at_second
    (subst (λ n. IsPair (up_of c.args.topology.now) n c.head-head.result c.place_of_head-place.result) c.tail-tail.ensures.value c.place_of_head-place.ensures.is)
