use Rattle.std.proofs.Common.{◌≡◌, None, Some, get_or, sym, subst}
use Rattle.route_ready.specs.World.{world_of}
use Rattle.session_answers.proofs.MakingLemmas.{place-within, puts-twice, taken-is}
use Rattle.session_answers.specs.Makings.{IsProgressOf}
use Rattle.session_answers.specs.declared.makings.Making.{Making}
use Rattle.session_answers.proofs.makings.Makings.turn.Goals as goal

pub turned-making-requires : goal.turned-making-requires
turned-making-requires c =
    let stands = c.requires.stands in
    let same = taken-is c.args.self.now.slots.items c.args.k stands.1.making c.unwrap-making.result c.index_mut.result.now c.take.result
    stands.1.there c.index_mut.ensures.value c.take.ensures.value c.unwrap-making.ensures in
    record {
      sound = (stands.0, subst (λ (m : Making). IsProgressOf (world_of c.args.world.now) stands.0 m.progress) (sym same) stands.1.is);
    }

pub returns : goal.returns
returns c =
    let slots = c.args.self.now.slots.items in
    let stands = c.requires.stands in
    let same = taken-is slots c.args.k stands.1.making c.unwrap-making.result c.index_mut.result.now c.take.result
    stands.1.there c.index_mut.ensures.value c.take.ensures.value c.unwrap-making.ensures in
    record {
      turned = record {
        before = c.unwrap-making.result;
        there = subst (λ (m : Making). get_or slots c.args.k None ≡ Some m) (sym same) stands.1.there;
        after = c.turned-making.result;
        puts = puts-twice slots c.args.k c.take.new.self (Some c.turned-making.result)
            (place-within slots c.args.k stands.1.making stands.1.there);
        key_same = c.turned-making.ensures.key;
        sound = c.turned-making.ensures.sound;
        nearer = c.turned-making.ensures.nearer;
        gives = c.outcome-end.ensures.gives (world_of c.args.world.now);
      };
    }
