use Rattle.std.proofs.Common.{List, rules, subst}
use Rattle.std.proofs.lemmas.List.Sorted.{answers_always}
use Rattle.hall.proofs.PeerFindLemmas.{Finds, searched}
use Rattle.hall.specs.declared.peer.Peer.{Peer}
use Rattle.hall.proofs.peers.place_of.Goals as goal

-- the closure gives a connection's id, and the slice has the connections of the room
pub returns : goal.returns
returns c =
    let facts = c.binary_search_by_key.ensures in
    let by_id = facts.position (λ (peer : Peer). peer.id) (answers_always _ _ _ (λ f a r g called. search rules)) in
    let finds = searched c.deref.result.now (rw c.deref.ensures.value c.requires.ascending) c.args.id _ facts.bound by_id in
    let here = subst (λ (l : List Peer). Finds l c.args.id c.binary_search_by_key.result) c.deref.ensures.value finds in
    record { found = here.found; absent = here.absent }
