use Rattle.std.proofs.Common.{refl, arith, sym, subst, List, ◌≡◌, Some}
use Rattle.std.proofs.lemmas.Option.{slice_get_read, slice_get_within}
use Rattle.std.proofs.lemmas.Result.{on_ok_weaker}
use Rattle.std.specs.List.{slice_get, Contains}
use Rattle.space_search.specs.Blocks.{members_of}
use Rattle.space_search.specs.Fronts.{heads_of, Gains}
use Rattle.space_search.specs.declared.fronts.Head.TheVariants.{One, Many}
use Rattle.space_search.specs.declared.fronts.Member.{Member}
use Rattle.space_search.specs.declared.fronts.Block.{Block}
use Rattle.space_search.proofs.BlockLemmas.{on_ok_both}
use Rattle.space_search.proofs.FrontLemmas.{head-read, alone-here}
use Rattle.space_search.proofs.JoinLemmas.{joins-alone, joins-several, below-none}
use Rattle.space_search.proofs.ManyLemmas.{many-read, many-set, many-there, many-within}
use Rattle.space_search.proofs.join.join.Goals as goal

pub index-requires : goal.index-requires
index-requires g c =
    let at : slice_get (heads_of c.args.fronts.now.heads) c.args.slot ≡ Some (One c.in-One.other) =
    head-read _ _ c.head_at.result _ c.requires.within c.head_at.ensures.value c.in-One.is in
    let h = c.requires.fronts.heads c.args.slot (One c.in-One.other) at in
    omega (arith, slice_get_within c.args.labels.now.items c.in-One.other h.0 h.1, c.args.labels.now.ok.0)

pub join_one-requires-clause-old : goal.join_one-requires-clause-old
join_one-requires-clause-old g c =
    let at : slice_get (heads_of c.args.fronts.now.heads) c.args.slot ≡ Some (One c.in-One.other) =
    head-read _ _ c.head_at.result _ c.requires.within c.head_at.ensures.value c.in-One.is in
    let h = c.requires.fronts.heads c.args.slot (One c.in-One.other) at in
    slice_get_read _ _ c.in-One.other c.index.result.now refl (slice_get_within c.args.labels.now.items c.in-One.other h.0 h.1) c.index.ensures

pub join_one-requires-clause-head : goal.join_one-requires-clause-head
join_one-requires-clause-head g c = head-read _ _ c.head_at.result _ c.requires.within c.head_at.ensures.value c.in-One.is

pub join_one-requires-clause-old_fits : goal.join_one-requires-clause-old_fits
join_one-requires-clause-old_fits g c =
    let at : slice_get (heads_of c.args.fronts.now.heads) c.args.slot ≡ Some (One c.in-One.other) =
    head-read _ _ c.head_at.result _ c.requires.within c.head_at.ensures.value c.in-One.is in
    let h = c.requires.fronts.heads c.args.slot (One c.in-One.other) at in
    let there : slice_get c.args.labels.now.items c.in-One.other ≡ Some c.index.result.now =
    slice_get_read _ _ c.in-One.other c.index.result.now refl (slice_get_within c.args.labels.now.items c.in-One.other h.0 h.1) c.index.ensures in
    c.requires.each _ (record {
      head = One c.in-One.other;
      at = at;
      among = alone-here c.args.labels.now.items c.in-One.other c.index.result.now there;
    })

pub index_mut-requires : goal.index_mut-requires
index_mut-requires g c =
    let at : slice_get (heads_of c.args.fronts.now.heads) c.args.slot ≡ Some (Many c.in-Many.front) =
    head-read _ _ c.head_at.result _ c.requires.within c.head_at.ensures.value c.in-Many.is in
    omega (
      arith,
      many-within c.args.fronts.now.many.items c.in-Many.front (c.requires.fronts.heads c.args.slot (Many c.in-Many.front) at),
      c.args.fronts.now.many.ok.0,
    )

pub join_many-requires-clause-each : goal.join_many-requires-clause-each
join_many-requires-clause-each g c one h =
    let at : slice_get (heads_of c.args.fronts.now.heads) c.args.slot ≡ Some (Many c.in-Many.front) =
    head-read _ _ c.head_at.result _ c.requires.within c.head_at.ensures.value c.in-Many.is in
    let within = many-within c.args.fronts.now.many.items c.in-Many.front (c.requires.fronts.heads c.args.slot (Many c.in-Many.front) at) in
    c.requires.each one (record {
      head = Many c.in-Many.front;
      at = at;
      among =
          subst (λ (l : List (Block g.row.T.Denot)). Contains (members_of l) one)
          (sym (many-read c.args.fronts.now.many.items c.in-Many.front c.index_mut.result.now within c.index_mut.ensures.value)) h;
    })

pub returns-in-Empty : goal.returns-in-Empty
returns-in-Empty g c =
    record {
      joins =
          on_ok_weaker c.set_head.result
          (λ value.
          joins-alone _ _ _ _ _ c.requires.fronts c.requires.floors c.args.slot c.args.number c.args.label.now (heads_of c.set_head.new.heads) c.requires.within
          c.requires.there refl
          (below-none _ _ _ _ _ c.requires.fronts c.requires.floors c.args.slot
          (head-read _ _ c.head_at.result _ c.requires.within c.head_at.ensures.value c.in-Empty.is))
          value)
          c.set_head.ensures.value;
    }

pub returns-in-Many : goal.returns-in-Many
returns-in-Many g c =
    let at : slice_get (heads_of c.args.fronts.now.heads) c.args.slot ≡ Some (Many c.in-Many.front) =
    head-read _ _ c.head_at.result _ c.requires.within c.head_at.ensures.value c.in-Many.is in
    let within = many-within c.args.fronts.now.many.items c.in-Many.front (c.requires.fronts.heads c.args.slot (Many c.in-Many.front) at) in
    record {
      joins =
          on_ok_weaker c.join_many.result
          (λ both.
          joins-several _ _ _ _ _ c.requires.fronts c.requires.floors c.args.slot c.in-Many.front c.index_mut.result.now.items
          c.join_many.new.front.items _ at
          (many-read c.args.fronts.now.many.items c.in-Many.front c.index_mut.result.now within c.index_mut.ensures.value)
          (subst
          (λ (m : Member g.row.T.Denot).
          Gains (g.S.Space.rules c.args.space.now) m (members_of c.index_mut.result.now.items) (members_of c.join_many.new.front.items))
          c.member.ensures.value both.0)
          both.1
          (many-set c.args.fronts.now.many.items _ c.in-Many.front c.join_many.new.front refl))
          (on_ok_both _ _ c.join_many.result c.join_many.ensures.gains c.join_many.ensures.floors);
    }

pub join_many-requires-clause-floors : goal.join_many-requires-clause-floors
join_many-requires-clause-floors g c =
    let at : slice_get (heads_of c.args.fronts.now.heads) c.args.slot ≡ Some (Many c.in-Many.front) =
    head-read _ _ c.head_at.result _ c.requires.within c.head_at.ensures.value c.in-Many.is in
    let within = many-within c.args.fronts.now.many.items c.in-Many.front (c.requires.fronts.heads c.args.slot (Many c.in-Many.front) at) in
    c.requires.floors c.in-Many.front c.index_mut.result.now.items
    (many-there c.args.fronts.now.many.items c.in-Many.front c.index_mut.result.now within c.index_mut.ensures.value)
