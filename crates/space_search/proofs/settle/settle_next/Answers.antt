use Rattle.std.proofs.Common.{refl, arith, subst}
use Rattle.space_search.specs.Books.{books}
use Rattle.space_search.specs.Fronts.{Joins, asked, member_of}
use Rattle.space_search.proofs.FrontLemmas.{asked-fits}
use Rattle.space_search.proofs.GrowLemmas.{Writes}
use Rattle.space_search.proofs.SameLemmas.{leaves-failed}
use Rattle.space_search.proofs.SettleLemmas.{settles, leaves-settled}
use Rattle.space_search.proofs.settle.settle_next.Goals as goal

pub join-requires-clause-within : goal.join-requires-clause-within
join-requires-clause-within g c =
    omega (
      arith,
      c.slot-slot.ensures.value,
      (g.met.S.Space.keeps_laws c.args.space.now).moves.slot c.args.label.now.state
          (c.requires.kept.follows c.args.number c.args.label.now c.requires.next.there).valid,
      c.requires.kept.index.slots,
    )

pub join-requires-clause-fits : goal.join-requires-clause-fits
join-requires-clause-fits g c =
    let f = c.requires.kept.follows c.args.number c.args.label.now c.requires.next.there in
    record { valid = f.valid; small = omega (arith, f.bounded, c.requires.room) }

pub join-requires-clause-each : goal.join-requires-clause-each
join-requires-clause-each g c one is =
    asked-fits (g.S.Space.rules c.args.space.now) (g.met.S.Space.keeps_laws c.args.space.now) (books c.args.lists.now)
    c.requires.kept c.slot-slot.result one is

pub returns-in-Err-clause-leaves : goal.returns-in-Err-clause-leaves
returns-in-Err-clause-leaves g c = leaves-failed _ _ _ _ _ c.requires.kept c.in-Err.ensures.items

pub returns : goal.returns
returns g c =
    let rules = g.S.Space.rules c.args.space.now in
    let laws = g.met.S.Space.keeps_laws c.args.space.now in
    let w : Writes rules (books c.args.lists.now) c.args.number c.args.label.now _ =
    record {
      leaving =
          record {
            search = c.requires.kept;
            closed = c.requires.closed;
            next = c.requires.next;
            popped = c.pop.ensures.takes _ c.requires.next.first;
          };
      no_goal = c.requires.no_goal;
      uncovered = c.requires.uncovered;
      room = c.requires.room;
      settled = _;
      heads = _;
      many = _;
      is_settled = c.in-Ok.ensures.items;
      joins =
          subst
          (λ n. Joins rules (asked c.args.lists.now.labels.items c.args.lists.now.fronts)
          (asked c.args.lists.now.labels.items c.join.new.fronts) n (member_of c.args.label.now))
          c.slot-slot.ensures.value c.in_ok-join.ensures.joins;
    } in
    record {
      settles = settles rules laws _ _ _ _ w;
      leaves = leaves-settled rules laws _ _ _ _ w;
      most = omega (arith, c.in-Ok.ensures.len, c.args.lists.now.settled.ok.0, c.push.new.self.ok.0);
    }

pub returns-in_err-join-clause-leaves : goal.returns-in_err-join-clause-leaves
returns-in_err-join-clause-leaves g c = leaves-failed _ _ _ _ _ c.requires.kept refl
