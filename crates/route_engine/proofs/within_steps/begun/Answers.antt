use Rattle.std.proofs.Common.{◌≡◌, ◌≤◌, ◌-◌, ℕ, List, Vec, length, refl, sym, ap, ◌∙◌, subst, arith}
use Rattle.std.proofs.lemmas.List.{length-map}
use Rattle.std.specs.declared.alloc.Global.{Global}
use Rattle.route_engine.specs.Jobs.{plan_of}
use Rattle.route_engine.specs.Nearby.{AreFirstNearby, lists_in}
use Rattle.route_engine.specs.NearbyAnswers.{most_for_features}
use Rattle.route_engine.specs.NearbyJobs.{work_of_nearby}
use Rattle.route_engine.specs.NearbyTexts.{nearby_to_write}
use Rattle.route_engine.specs.Sources.{quest_in}
use Rattle.route_engine.specs.Tables.{IsFromWaypoint}
use Rattle.route_engine.specs.declared.within.Nearby.{Nearby}
use Rattle.route_engine.specs.declared.within.NextList.TheVariants.{New}
use Rattle.route_engine.proofs.NearbyStepLemmas.{found-same, more-unfound}
use Rattle.route_ready.specs.World.{world_of}
use Rattle.route_engine.proofs.within_steps.begun.Goals as goal

pub source_of-requires-clause-there : goal.source_of-requires-clause-there
source_of-requires-clause-there c =
    omega (arith, c.args.lists.ok.0, c.len-number.ensures, c.len.ensures.value, c.if-number-len.false, c.requires.fit)

pub returns-then-number-len : goal.returns-then-number-len
returns-then-number-len c =
    let world = world_of c.args.world.now in
    let plan = plan_of world c.args.plan in
    let counted = c.args.lists.ok.0 in
    let same : length c.args.lists.items ≡ length plan.nodes =
    cc (counted, c.len-number.ensures, c.if-number-len.true, c.len.ensures.value) in
    let all : length (lists_in c.args.lists.items) ≡ length plan.nodes =
    length-map c.args.lists.items (λ (l : Vec (ℕ × ℕ) Global). l.items) ∙ same in
    let text : most_for_features (length world.map.nodes) (length (lists_in c.args.lists.items)) ≡
    most_for_features (length world.map.nodes) (length plan.nodes) = ap (most_for_features (length world.map.nodes)) all in
    record {
      steps = record {
        fits = omega arith;
        turn = record {
          cost = refl;
          lists = subst (λ n. AreFirstNearby plan plan.cost n (lists_in c.args.lists.items)) same c.requires.first;
        };
      };
      leaves = λ found ends.
          let is = found-same (record { cost = plan.cost; lists = c.args.lists }) found ends in
          subst (λ (f : Nearby). nearby_to_write world f ≤ work_of_nearby world
          (record { alloc = c.args.alloc; plan = c.args.plan; lists = c.args.lists; next = New }) - 0) is (omega (arith, text));
    }

pub returns-in-Ok : goal.returns-in-Ok
returns-in-Ok c =
    let plan = plan_of (world_of c.args.world.now) c.args.plan in
    let source = c.in-Ok.ensures in
    let here : c.len-number.result ≡ length c.args.lists.items = cc (c.args.lists.ok.0, c.len-number.ensures) in
    record {
      steps = record {
        fits = omega arith;
        turn = record {
          on = record {
            plan = c.requires.on;
            first = c.requires.first;
            next = record {
              there = omega (arith, here, c.len.ensures.value, c.if-number-len.false, c.requires.fit);
              on = source.on;
              from = subst (λ n. IsFromWaypoint plan n (quest_in plan.setting.terrain c.in-Ok.source)) here source.from;
              asks = source.want;
              within = omega (arith, source.fresh);
            };
          };
          same = refl;
          less = omega (arith, source.fresh);
          nearer = omega (arith, c.requires.some);
        };
      };
      leaves = λ found ends. absurd (more-unfound _ found ends);
    }
