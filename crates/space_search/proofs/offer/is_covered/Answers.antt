use Rattle.std.proofs.Common.{◌≡◌, List, false, arith, sym, ◌∙◌, subst}
use Rattle.std.proofs.lemmas.Option.{slice_get_within}
use Rattle.std.specs.List.{Contains}
use Rattle.space_search.specs.Blocks.{members_of}
use Rattle.space_search.specs.Books.{books}
use Rattle.space_search.specs.Fronts.{member_of}
use Rattle.space_search.specs.declared.fronts.Block.{Block}
use Rattle.space_search.specs.declared.fronts.Head.TheVariants.{Empty, One, Many}
use Rattle.space_search.specs.declared.fronts.Member.{Member}
use Rattle.item_list.proofs.ListLemmas.{Contains-none}
use Rattle.space_search.proofs.FrontLemmas.{alone-here, alone-is, head-is, front-fits, front-covered, front-uncovered, number-there}
use Rattle.space_search.proofs.ManyLemmas.{many-read, many-there, many-within}
use Rattle.space_search.proofs.offer.is_covered.Goals as goal

pub index-label-requires : goal.index-label-requires
index-label-requires g c =
    let h =
    head-is (g.S.Space.rules c.args.space.now) (g.met.S.Space.keeps_laws c.args.space.now) (books c.args.lists.now) c.requires.kept
    c.args.state.now c.args.cost c.requires.later c.slot-slot.result c.slot-slot.ensures.value c.head_at.result c.head_at.ensures.value
    (One c.in-One.number) c.in-One.is in
    omega (arith, slice_get_within c.args.lists.now.labels.items c.in-One.number h.0 h.1, c.args.lists.now.labels.ok.0)

pub covers-requires-clause-valid_a : goal.covers-requires-clause-valid_a
covers-requires-clause-valid_a g c =
    let there =
    number-there (g.S.Space.rules c.args.space.now) (g.met.S.Space.keeps_laws c.args.space.now) (books c.args.lists.now) c.requires.kept
    c.args.state.now c.args.cost c.requires.later c.slot-slot.result c.slot-slot.ensures.value c.head_at.result c.head_at.ensures.value
    c.in-One.number c.in-One.is c.index-label.result.now c.index-label.ensures in
    (front-fits (g.S.Space.rules c.args.space.now) (g.met.S.Space.keeps_laws c.args.space.now) (books c.args.lists.now) c.requires.kept
    c.args.state.now c.args.cost c.requires.later c.slot-slot.result c.slot-slot.ensures.value c.head_at.result c.head_at.ensures.value
    (One c.in-One.number) c.in-One.is (member_of c.index-label.result.now)
    (alone-here c.args.lists.now.labels.items c.in-One.number c.index-label.result.now there)).valid

pub covers-requires-clause-small_a : goal.covers-requires-clause-small_a
covers-requires-clause-small_a g c =
    let there =
    number-there (g.S.Space.rules c.args.space.now) (g.met.S.Space.keeps_laws c.args.space.now) (books c.args.lists.now) c.requires.kept
    c.args.state.now c.args.cost c.requires.later c.slot-slot.result c.slot-slot.ensures.value c.head_at.result c.head_at.ensures.value
    c.in-One.number c.in-One.is c.index-label.result.now c.index-label.ensures in
    (front-fits (g.S.Space.rules c.args.space.now) (g.met.S.Space.keeps_laws c.args.space.now) (books c.args.lists.now) c.requires.kept
    c.args.state.now c.args.cost c.requires.later c.slot-slot.result c.slot-slot.ensures.value c.head_at.result c.head_at.ensures.value
    (One c.in-One.number) c.in-One.is (member_of c.index-label.result.now)
    (alone-here c.args.lists.now.labels.items c.in-One.number c.index-label.result.now there)).small

pub index-requires : goal.index-requires
index-requires g c =
    let h =
    head-is (g.S.Space.rules c.args.space.now) (g.met.S.Space.keeps_laws c.args.space.now) (books c.args.lists.now) c.requires.kept
    c.args.state.now c.args.cost c.requires.later c.slot-slot.result c.slot-slot.ensures.value c.head_at.result c.head_at.ensures.value
    (Many c.in-Many.front) c.in-Many.is in
    omega (arith, many-within c.args.lists.now.fronts.many.items c.in-Many.front h, c.args.lists.now.fronts.many.ok.0)

pub is_covered_by_front-requires-clause-each : goal.is_covered_by_front-requires-clause-each
is_covered_by_front-requires-clause-each g c one in_front =
    let h =
    head-is (g.S.Space.rules c.args.space.now) (g.met.S.Space.keeps_laws c.args.space.now) (books c.args.lists.now) c.requires.kept
    c.args.state.now c.args.cost c.requires.later c.slot-slot.result c.slot-slot.ensures.value c.head_at.result c.head_at.ensures.value
    (Many c.in-Many.front) c.in-Many.is in
    let read =
    many-read c.args.lists.now.fronts.many.items c.in-Many.front c.index.result.now
    (many-within c.args.lists.now.fronts.many.items c.in-Many.front h) c.index.ensures in
    front-fits (g.S.Space.rules c.args.space.now) (g.met.S.Space.keeps_laws c.args.space.now) (books c.args.lists.now) c.requires.kept
    c.args.state.now c.args.cost c.requires.later c.slot-slot.result c.slot-slot.ensures.value c.head_at.result c.head_at.ensures.value
    (Many c.in-Many.front) c.in-Many.is one
    (subst (λ (l : List (Block g.row.T.Denot)). Contains (members_of l) one) (sym read) in_front)

pub returns-in-Empty-clause-uncovered : goal.returns-in-Empty-clause-uncovered
returns-in-Empty-clause-uncovered g c same =
    front-uncovered (g.S.Space.rules c.args.space.now) (g.met.S.Space.keeps_laws c.args.space.now) (books c.args.lists.now) c.requires.kept
    c.args.state.now c.args.cost c.requires.later c.slot-slot.result c.slot-slot.ensures.value c.head_at.result c.head_at.ensures.value
    Empty c.in-Empty.is (λ one none. absurd (Contains-none one none))

pub returns-in-One-clause-covered : goal.returns-in-One-clause-covered
returns-in-One-clause-covered g c covers =
    let there =
    number-there (g.S.Space.rules c.args.space.now) (g.met.S.Space.keeps_laws c.args.space.now) (books c.args.lists.now) c.requires.kept
    c.args.state.now c.args.cost c.requires.later c.slot-slot.result c.slot-slot.ensures.value c.head_at.result c.head_at.ensures.value
    c.in-One.number c.in-One.is c.index-label.result.now c.index-label.ensures in
    front-covered (g.S.Space.rules c.args.space.now) (g.met.S.Space.keeps_laws c.args.space.now) (books c.args.lists.now) c.requires.kept
    c.args.state.now c.args.cost c.requires.later c.slot-slot.result c.slot-slot.ensures.value c.head_at.result c.head_at.ensures.value
    (One c.in-One.number) c.in-One.is (member_of c.index-label.result.now)
    (alone-here c.args.lists.now.labels.items c.in-One.number c.index-label.result.now there)
    (sym c.covers.ensures.value ∙ covers)

pub returns-in-One-clause-uncovered : goal.returns-in-One-clause-uncovered
returns-in-One-clause-uncovered g c uncovers =
    let there =
    number-there (g.S.Space.rules c.args.space.now) (g.met.S.Space.keeps_laws c.args.space.now) (books c.args.lists.now) c.requires.kept
    c.args.state.now c.args.cost c.requires.later c.slot-slot.result c.slot-slot.ensures.value c.head_at.result c.head_at.ensures.value
    c.in-One.number c.in-One.is c.index-label.result.now c.index-label.ensures in
    front-uncovered (g.S.Space.rules c.args.space.now) (g.met.S.Space.keeps_laws c.args.space.now) (books c.args.lists.now) c.requires.kept
    c.args.state.now c.args.cost c.requires.later c.slot-slot.result c.slot-slot.ensures.value c.head_at.result c.head_at.ensures.value
    (One c.in-One.number) c.in-One.is
    (λ one h.
    subst (λ (m : Member g.row.T.Denot). (g.S.Space.rules c.args.space.now).covers m.state m.cost c.args.state.now c.args.cost ≡ false)
    (alone-is c.args.lists.now.labels.items c.in-One.number c.index-label.result.now one there h)
    (sym c.covers.ensures.value ∙ uncovers))

pub returns-in-Many-clause-covered : goal.returns-in-Many-clause-covered
returns-in-Many-clause-covered g c covers =
    let h =
    head-is (g.S.Space.rules c.args.space.now) (g.met.S.Space.keeps_laws c.args.space.now) (books c.args.lists.now) c.requires.kept
    c.args.state.now c.args.cost c.requires.later c.slot-slot.result c.slot-slot.ensures.value c.head_at.result c.head_at.ensures.value
    (Many c.in-Many.front) c.in-Many.is in
    let read =
    many-read c.args.lists.now.fronts.many.items c.in-Many.front c.index.result.now
    (many-within c.args.lists.now.fronts.many.items c.in-Many.front h) c.index.ensures in
    let one = c.is_covered_by_front.ensures.covered covers in
    front-covered (g.S.Space.rules c.args.space.now) (g.met.S.Space.keeps_laws c.args.space.now) (books c.args.lists.now) c.requires.kept
    c.args.state.now c.args.cost c.requires.later c.slot-slot.result c.slot-slot.ensures.value c.head_at.result c.head_at.ensures.value
    (Many c.in-Many.front) c.in-Many.is one.0
    (subst (λ (l : List (Block g.row.T.Denot)). Contains (members_of l) one.0) (sym read) one.1) one.2

pub returns-in-Many-clause-uncovered : goal.returns-in-Many-clause-uncovered
returns-in-Many-clause-uncovered g c uncovers =
    let h =
    head-is (g.S.Space.rules c.args.space.now) (g.met.S.Space.keeps_laws c.args.space.now) (books c.args.lists.now) c.requires.kept
    c.args.state.now c.args.cost c.requires.later c.slot-slot.result c.slot-slot.ensures.value c.head_at.result c.head_at.ensures.value
    (Many c.in-Many.front) c.in-Many.is in
    let read =
    many-read c.args.lists.now.fronts.many.items c.in-Many.front c.index.result.now
    (many-within c.args.lists.now.fronts.many.items c.in-Many.front h) c.index.ensures in
    front-uncovered (g.S.Space.rules c.args.space.now) (g.met.S.Space.keeps_laws c.args.space.now) (books c.args.lists.now) c.requires.kept
    c.args.state.now c.args.cost c.requires.later c.slot-slot.result c.slot-slot.ensures.value c.head_at.result c.head_at.ensures.value
    (Many c.in-Many.front) c.in-Many.is
    (λ one in_front.
    c.is_covered_by_front.ensures.uncovered uncovers one
    (subst (λ (l : List (Block g.row.T.Denot)). Contains (members_of l) one) read in_front))

pub is_covered_by_front-requires-clause-floors : goal.is_covered_by_front-requires-clause-floors
is_covered_by_front-requires-clause-floors g c =
    let h =
    head-is (g.S.Space.rules c.args.space.now) (g.met.S.Space.keeps_laws c.args.space.now) (books c.args.lists.now) c.requires.kept
    c.args.state.now c.args.cost c.requires.later c.slot-slot.result c.slot-slot.ensures.value c.head_at.result c.head_at.ensures.value
    (Many c.in-Many.front) c.in-Many.is in
    c.requires.kept.index.floors c.in-Many.front c.index.result.now.items
    (many-there c.args.lists.now.fronts.many.items c.in-Many.front c.index.result.now
    (many-within c.args.lists.now.fronts.many.items c.in-Many.front h) c.index.ensures)
