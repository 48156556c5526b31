use Rattle.std.proofs.Common.{◌≡◌, ◌∙◌, Some, None, ap, subst, sym}
use Rattle.item_list.specs.declared.turn.Turn.TheVariants.{More}
use Rattle.route_engine.specs.NearbyTexts.{first_part}
use Rattle.route_engine.specs.declared.nearby_parts.Part.{Part}
use Rattle.route_engine.proofs.NearbyWritingLemmas.{Writes, list-begins}
use Rattle.route_ready.specs.World.{world_of}
use Rattle.route_engine.proofs.nearby_text.next_list.Goals as goal

pub returns-in_ok-append_head-in-Some : goal.returns-in_ok-append_head-in-Some
returns-in_ok-append_head-in-Some c =
    let world = world_of c.args.world.now in
    let ready = c.args.ready.now in
    let told = c.args.told.now in
    let same : c.first_part.result ≡ first_part told.form = c.first_part.ensures.exact in
    let later = c.later.ensures.exact in
    record {
      steps = subst
          (Writes world ready told c.args._budget c.requires.some (record { text = c.args.text; rows = None; lists = c.args.lists }))
          (sym (later ∙ ap (λ (part : Part). record {
            spent = 1;
            turn = More (record {
              text = c.append_head.new.text;
              rows = Some (record { list = c.in-Some.list; part = part; place = 0 });
              lists = record { cost = c.args.lists.cost; number = c.args.lists.number; rest = c.next.new.self };
            });
          }) same))
          (list-begins world ready told c.args._budget c.requires.some c.args.text c.append_head.new.text c.args.lists c.next.new.self
          c.in-Some.list c.in-Some.ensures.items c.in_ok-append_head-in-Some.ensures.exact c.requires.on);
    }
