use Rattle.std.proofs.Common.{◌≡◌, ◌∙◌, sym, ap, length, get_or, ◌<◌, inl, inr, arith}
use Rattle.std.proofs.lemmas.Bool.{cases_eq}
use Rattle.std.proofs.lemmas.List.{get_or_default}
use Rattle.overpass_graph.specs.Groups.{group_of}
use Rattle.overpass_graph.specs.Restrictions.{forbids_any, forbids_ways}
use Rattle.overpass_graph.specs.declared.restriction.Restriction.{Restriction}
use Rattle.overpass_graph.specs.Turns.{TurnTable}
use Rattle.overpass_graph.proofs.TurnLemmas.{group-in, group-some, group-none}
use Rattle.overpass_graph.proofs.turns.Turns.forbids.Goals as goal

pub index-restriction-requires : goal.index-restriction-requires
index-restriction-requires c =
    let group = c.group-place-items.ensures.value in
    let within : c.places.place-index < length (group_of c.self.inside.at.keys c.args.first.now.to) = rw (← group) c.places-test.true in
    let below = group-in c.self.inside.restrictions.items c.self.inside.at.keys c.args.first.now.to c.places.place-index c.self.invariant
    within in
    rw group (omega (arith, below, c.self.inside.restrictions.ok.0))

pub returns-then-forbids_ways : goal.returns-then-forbids_ways
returns-then-forbids_ways c =
    let group = c.group-place-items.ensures.value in
    let within : c.places.place-index < length (group_of c.self.inside.at.keys c.args.first.now.to) = rw (← group) c.places-test.true in
    let read : c.index-restriction.result.now ≡
    get_or c.self.inside.restrictions.items (get_or (group_of c.self.inside.at.keys c.args.first.now.to) c.places.place-index 0)
    c.index-restriction.result.now =
    rw (← group) c.index-restriction.ensures in
    let found = group-some c.self.inside.restrictions.items c.self.inside.at.keys c.args.first.now c.args.second.now c.self.invariant
    c.requires.joins
    c.places.place-index c.index-restriction.result.now within read (sym c.forbids_ways.ensures.value ∙ c.if-forbids_ways.true) in
    record { value = sym found ∙ ap (λ (t : TurnTable). forbids_any t.restrictions c.args.first.now c.args.second.now) c.self.view_is }

pub places-preserved : goal.places-preserved
places-preserved c = λ j r below read.
    elim (cases_eq j c.places.place-index) [
      | inl last ↦
          let group = c.group-place-items.ensures.value in
          let within : c.places.place-index < length (group_of c.self.inside.at.keys c.args.first.now.to) =
          rw (← group) c.places-test.true in
          let inside : get_or c.group-place-items.result.now c.places.place-index 0 < length c.self.inside.restrictions.items =
          rw group (group-in c.self.inside.restrictions.items c.self.inside.at.keys c.args.first.now.to c.places.place-index
          c.self.invariant within) in
          let here : r ≡ get_or c.self.inside.restrictions.items (get_or c.group-place-items.result.now c.places.place-index 0) r =
          read ∙ ap (λ k. get_or c.self.inside.restrictions.items (get_or c.group-place-items.result.now k 0) r) last in
          let same : r ≡ c.index-restriction.result.now =
          here ∙ get_or_default c.self.inside.restrictions.items (get_or c.group-place-items.result.now c.places.place-index 0) r
          c.index-restriction.result.now inside
          ∙ sym c.index-restriction.ensures in
          ap (λ (x : Restriction). forbids_ways x c.args.first.now.way c.args.second.now.way) same ∙ sym c.forbids_ways.ensures.value
          ∙ c.if-forbids_ways.false
      | inr earlier ↦ c.places.invariant j r (omega arith) read
    ]

pub returns : goal.returns
returns c =
    let group = c.group-place-items.ensures.value in
    let size : length c.group-place-items.result.now ≡ length (group_of c.self.inside.at.keys c.args.first.now.to) = ap length group in
    let none = group-none c.self.inside.restrictions.items c.self.inside.at.keys c.args.first.now c.args.second.now c.self.invariant
    c.requires.joins
    (λ j r within read. c.places.invariant j r (omega (arith, size, within)) (rw group read)) in
    record { value = sym none ∙ ap (λ (t : TurnTable). forbids_any t.restrictions c.args.first.now c.args.second.now) c.self.view_is }
