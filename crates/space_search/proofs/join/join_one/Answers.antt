use Rattle.std.proofs.Common.{refl, ◌∙◌, subst}
use Rattle.std.proofs.lemmas.Result.{on_ok_weaker}
use Rattle.space_search.specs.Blocks.{members_of, IsPair}
use Rattle.space_search.specs.Fronts.{heads_of, member_of}
use Rattle.space_search.specs.declared.fronts.Member.{Member}
use Rattle.space_search.proofs.JoinLemmas.{joins-alone, below-one, joins-pair}
use Rattle.space_search.proofs.ManyLemmas.{many-pushed, place-next}
use Rattle.space_search.proofs.join.join_one.Goals as goal

pub returns-then-supersedes-2 : goal.returns-then-supersedes-2
returns-then-supersedes-2 g c =
    record {
      joins =
          on_ok_weaker c.set_head.result
          (λ value.
          joins-alone _ _ _ _ _ c.requires.fronts c.requires.floors c.args.slot c.args.number c.args.label.now (heads_of c.set_head.new.heads) c.requires.within
          c.requires.there refl
          (below-one _ _ _ _ _ c.requires.fronts c.requires.floors c.args.slot c.args._other c.args.old.now c.requires.head c.requires.old
          (c.supersedes-then-supersedes.ensures.sound c.if-supersedes-2.true))
          value)
          c.set_head.ensures.value;
    }

pub returns : goal.returns
returns g c =
    record {
      joins =
          on_ok_weaker c.set_head-2.result
          (λ value.
          joins-pair _ _ _ _ _ c.requires.fronts c.requires.floors c.args.slot c.args._other c.in_ok-place.place c.args.old.now
          c.in_ok-front.front.items (heads_of c.set_head-2.new.heads) _ c.requires.within c.requires.head c.requires.old
          (place-next _ _ _ c.in_ok-place.ensures.exact.0 (c.len.ensures ∙ c.args.fronts.now.many.ok.0))
          (subst (λ (m : Member g.row.T.Denot). IsPair m (member_of c.args.label.now) (members_of c.in_ok-front.front.items))
          c.member.ensures.value
          (subst (λ (m : Member g.row.T.Denot). IsPair c.member.result m (members_of c.in_ok-front.front.items)) c.member-2.ensures.value
          c.in_ok-front.ensures.pair))
          c.in_ok-front.ensures.floors
          (many-pushed _ _ _ c.in-Ok.ensures.items) value)
          c.set_head-2.ensures.value;
    }
