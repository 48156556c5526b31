use Rattle.std.proofs.Common.{sym, subst, arith}
use Rattle.link_hierarchy.specs.Limits.{Adds}
use Rattle.link_hierarchy.specs.Topologies.{IsPair, back_of, head_of, into_of, out_of, up_of}
use Rattle.link_hierarchy.proofs.TopologyLemmas.{place-in}
use Rattle.link_hierarchy.proofs.AheadLemmas.{ahead-found, ahead-skips}
use Rattle.link_hierarchy.proofs.BaseLemmas.{linked-down}
use Rattle.link_hierarchy.proofs.LowerLemmas.{lowers-back}
use Rattle.link_hierarchy.proofs.JoinLemmas.{join-down, places-linked, skip-down}
use Rattle.link_hierarchy.proofs.joining.join_down.Goals as goal

pub tail-tail-requires : goal.tail-tail-requires
tail-tail-requires c =
    record { in_range = place-in (into_of c.args.topology.now) c.nodes-nodes.ensures.lawful.into c.args._node c.args.first c.requires.first }

pub head-head-requires : goal.head-head-requires
head-head-requires c =
    record { in_range = place-in (up_of c.args.topology.now) c.nodes-nodes.ensures.lawful.out c.args._node c.args.second c.requires.second }

pub returns-then-tail-head-clause-customized : goal.returns-then-tail-head-clause-customized
returns-then-tail-head-clause-customized c =
    let at_first : IsPair (into_of c.args.topology.now) c.args._node c.tail-tail.result c.args.first =
    record { at = c.requires.first; is = sym c.tail-tail.ensures.value } in
    let at_second : IsPair (up_of c.args.topology.now) c.args._node c.head-head.result c.args.second =
    record { at = c.requires.second; is = sym c.head-head.ensures.value } in
    skip-down c.args.topology.now c.nodes-nodes.ensures.lawful c.args._arcs.now c.args._node c.args.weights.now c.args.first c.args.second
    c.tail-tail.result c.head-head.result c.args._tail 0 at_first at_second c.if-tail-head.true c.requires.customized

pub returns-then-tail-head-clause-ahead : goal.returns-then-tail-head-clause-ahead
returns-then-tail-head-clause-ahead c =
    ahead-skips (into_of c.args.topology.now) c.nodes-nodes.ensures.lawful.into c.args._node
    (head_of (up_of c.args.topology.now) c.args.second) c.args.first c.args.from c.requires.ahead

pub place_of_tail-place-requires-clause-joined : goal.place_of_tail-place-requires-clause-joined
place_of_tail-place-requires-clause-joined c =
    let at_first : IsPair (into_of c.args.topology.now) c.args._node c.tail-tail.result c.args.first =
    record { at = c.requires.first; is = sym c.tail-tail.ensures.value } in
    let at_second : IsPair (up_of c.args.topology.now) c.args._node c.head-head.result c.args.second =
    record { at = c.requires.second; is = sym c.head-head.ensures.value } in
    linked-down c.args.topology.now c.nodes-nodes.ensures.lawful c.tail-tail.result c.head-head.result
    (places-linked c.args.topology.now c.nodes-nodes.ensures.lawful c.args._arcs.now c.args._node c.args.first c.args.second
    c.tail-tail.result c.head-head.result c.requires.first c.requires.second c.tail-tail.ensures.value c.head-head.ensures.value
    (λ same. absurd (omega (arith, same, c.if-tail-head.false))))
    (omega (arith, c.if-tail-head.false))

pub place_of_tail-place-requires-clause-ahead : goal.place_of_tail-place-requires-clause-ahead
place_of_tail-place-requires-clause-ahead c k pair =
    let at_first : IsPair (into_of c.args.topology.now) c.args._node c.tail-tail.result c.args.first =
    record { at = c.requires.first; is = sym c.tail-tail.ensures.value } in
    let at_second : IsPair (up_of c.args.topology.now) c.args._node c.head-head.result c.args.second =
    record { at = c.requires.second; is = sym c.head-head.ensures.value } in
    c.requires.ahead.ahead c.tail-tail.result c.args.first k (omega arith) at_first
    (subst (λ n. IsPair (into_of c.args.topology.now) n c.tail-tail.result k) c.head-head.ensures.value pair)

pub back-requires : goal.back-requires
back-requires c =
    record {
      in_range = omega (
        arith,
        place-in (into_of c.args.topology.now) c.nodes-nodes.ensures.lawful.into c.args._node c.args.first c.requires.first,
        c.requires.customized.fits.1,
      );
    }

pub out-requires : goal.out-requires
out-requires c =
    record {
      in_range = omega (
        arith,
        place-in (up_of c.args.topology.now) c.nodes-nodes.ensures.lawful.out c.args._node c.args.second c.requires.second,
        c.requires.customized.fits.0,
      );
    }

pub returns-clause-customized : goal.returns-clause-customized
returns-clause-customized c =
    let at_first : IsPair (into_of c.args.topology.now) c.args._node c.tail-tail.result c.args.first =
    record { at = c.requires.first; is = sym c.tail-tail.ensures.value } in
    let at_second : IsPair (up_of c.args.topology.now) c.args._node c.head-head.result c.args.second =
    record { at = c.requires.second; is = sym c.head-head.ensures.value } in
    let adds : Adds (back_of c.args.weights.now c.args.first) (out_of c.args.weights.now c.args.second) c.plus.result =
    subst (λ n. Adds n (out_of c.args.weights.now c.args.second) c.plus.result) c.back.ensures.value
    (subst (λ n. Adds c.back.result n c.plus.result) c.out.ensures.value c.plus.ensures.value) in
    join-down c.args.topology.now c.nodes-nodes.ensures.lawful c.args._arcs.now c.args._node c.args.weights.now c.lower_back.new.self
    c.args.first c.args.second c.tail-tail.result c.head-head.result c.plus.result c.args._tail 0 at_first at_second
    (omega (arith, c.if-tail-head.false)) adds
    (lowers-back c.args.topology.now c.nodes-nodes.ensures.lawful c.args.weights.now c.lower_back.new.self c.place_of_tail-place.result c.plus.result
    c.tail-tail.result c.head-head.result (omega (arith, c.if-tail-head.false)) c.place_of_tail-place.ensures.is c.lower_back.ensures.lowers)
    c.requires.customized

pub returns-clause-ahead : goal.returns-clause-ahead
returns-clause-ahead c =
    let at_first : IsPair (into_of c.args.topology.now) c.args._node c.tail-tail.result c.args.first =
    record { at = c.requires.first; is = sym c.tail-tail.ensures.value } in
    let at_second : IsPair (up_of c.args.topology.now) c.args._node c.head-head.result c.args.second =
    record { at = c.requires.second; is = sym c.head-head.ensures.value } in
    ahead-found (into_of c.args.topology.now) c.nodes-nodes.ensures.lawful.into c.args._node
    (head_of (up_of c.args.topology.now) c.args.second) c.args.first c.tail-tail.result c.place_of_tail-place.result at_first
    (subst (λ n. IsPair (into_of c.args.topology.now) n c.tail-tail.result c.place_of_tail-place.result) c.head-head.ensures.value c.place_of_tail-place.ensures.is)
