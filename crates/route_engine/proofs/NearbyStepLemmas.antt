-- A job of what lies within a cost goes on waypoint by waypoint.
use Rattle.std.proofs.Common.{◌≡◌, inl, inr, ℕ, suc, ◌+◌, ◌-◌, ◌*◌, ◌<◌, ◌≤◌, List, [], ◌∷◌, ◌++◌, length, Option, Some, None, Result, Ok, Err, Vec, refl, ap, sym, subst, ◌∙◌, arith}
use Rattle.std.proofs.lemmas.Bool.{false≢true}
use Rattle.std.proofs.lemmas.List.{length_push}
use Rattle.std.proofs.lemmas.Nat.{mul-le}
use Rattle.std.specs.declared.alloc.Global.{Global}
use Rattle.cost_table.specs.Costs.{AreCosts, IsCostWithin, Quest}
use Rattle.cost_table.specs.Reaches.{CountsReach, cost_in, settled_of}
use Rattle.cost_table.specs.declared.reach.Reach.{Reach}
use Rattle.cost_table.specs.declared.turn.ReachTurn.{ReachTurn}
use Rattle.cost_table.specs.declared.turn.ReachTurn.TheVariants as reach
use Rattle.item_list.specs.Turns.{Says}
use Rattle.item_list.specs.declared.turn.Turn.{Turn}
use Rattle.item_list.specs.declared.turn.Turn.TheVariants.{More, Done}
use Rattle.overpass_graph.specs.Maps.{IsMap}
use Rattle.route_engine.specs.Jobs.{IsPlanOn, plan_of}
use Rattle.route_engine.specs.Listings.{AreBelow, IsListedBelow, IsListing, ListsOn}
use Rattle.route_engine.specs.Nearby.{AreFirstNearby, leg_from, lists_in}
use Rattle.route_engine.specs.NearbyAnswers.{IsNearbyFor, RefusesNearby, most_for_features, most_for_list}
use Rattle.route_engine.specs.NearbyJobs.{IsListBegun, IsListMore, IsNearbyOn, IsNextList, IsNextListing, IsWantOfMemory, TurnsNearby, counted_on, lists_left, nearby_plan, stages_left, waypoints_left, work_of_nearby}
use Rattle.route_engine.specs.Plans.{Plan}
use Rattle.route_engine.specs.Searches.{EndsSearch, StepsSearchOn}
use Rattle.route_engine.specs.Sources.{TurnsSource, quest_in}
use Rattle.route_engine.specs.Tables.{IsFromWaypoint}
use Rattle.route_engine.specs.declared.listing.Listing.{Listing}
use Rattle.route_engine.specs.declared.plan.JobPlan.{JobPlan}
use Rattle.route_engine.specs.declared.sources.Source.{Source}
use Rattle.route_engine.specs.declared.sources.SourceTurn.{SourceTurn}
use Rattle.route_engine.specs.declared.within.Nearby.{Nearby}
use Rattle.route_engine.specs.declared.within.NextList.TheVariants.{New, Searching, Listed}
use Rattle.route_engine.specs.declared.within.WithinJob.{WithinJob}
use Rattle.route_ready.specs.Worlds.{WorldValue}
use Rattle.route_ready.specs.declared.error.RouteError.{RouteError}
use Rattle.route_engine.proofs.CertificateLemmas.{leg-counted, leg-less}
use Rattle.route_engine.proofs.ListingLemmas.{listed-whole}
use Rattle.route_engine.proofs.NearbyLemmas.{nearby-listed, nearby-pushed, told-within}
use Rattle.route_engine.proofs.NearbyTextLemmas.{costly-on}

-- a job that goes on isn't at its end
pub more-unfound : (job : WithinJob) (found : Nearby) → ◌≡◌ {A = Turn WithinJob (Result Nearby RouteError)} (More job) (Done (Ok found)) → ⊥
more-unfound job found is = grind (arith, is)

-- what a job ends with is one
pub found-same : (first second : Nearby) →
    ◌≡◌ {A = Turn WithinJob (Result Nearby RouteError)} (Done (Ok first)) (Done (Ok second)) → first ≡ second
found-same first second is = grind (arith, is)

-- a search after its turn is the one from the same waypoint
pub next-same : (plan : Plan) (number : ℕ) (before : Source) (quota : ℕ) (turn : SourceTurn) →
    IsNextList plan number before → TurnsSource plan.setting.terrain before quota turn → IsNextList plan number turn.source
next-same plan number before quota turn next turns =
    let limit = next.from.limit in
    record {
      there = next.there;
      on = turns.on;
      from = subst (IsFromWaypoint plan number) (sym turns.quest) next.from;
      asks = ap (λ (q : Quest). q.want) turns.quest ∙ next.asks;
      within = omega (arith, turns.within, limit);
    }

-- ---- What a search told

module _ (world : WorldValue) (plan : JobPlan) (number : ℕ) (source : Source) (on : IsPlanOn world plan) (lawful : IsMap world.map)
    (next : IsNextList (plan_of world plan) number source)
    (are : AreCosts (quest_in (plan_of world plan).setting.terrain source) (cost_in source.reach)) where
  -- it is what lies within the cost of the waypoint
  pub told-near : (node : ℕ) → IsCostWithin (leg_from (plan_of world plan) number node) plan.cost (cost_in source.reach node)
  told-near node =
      told-within (plan_of world plan) plan.cost number (quest_in (plan_of world plan).setting.terrain source) next.from next.asks
      (cost_in source.reach) are node

  -- of nodes of the map
  pub told-below : AreBelow (cost_in source.reach) (length world.map.nodes)
  told-below node cost is =
      costly-on world.map (plan_of world plan) refl lawful on.nodes_in plan.cost number node next.there cost
      (subst (IsCostWithin (leg_from (plan_of world plan) number node) plan.cost) is (told-near node))

  -- a list of it begins
  pub listing-begins : (listing : Listing) → listing.reach ≡ source.reach → IsListing (length world.map.nodes) listing →
      IsNextListing (length world.map.nodes) (plan_of world plan) number listing
  listing-begins listing same is = record {
    there = next.there;
    on = is;
    are = subst (λ (r : Reach). (node : ℕ) → IsCostWithin (leg_from (plan_of world plan) number node) plan.cost (cost_in r node)) (sym same) told-near;
    below = subst (λ (r : Reach). AreBelow (cost_in r) (length world.map.nodes)) (sym same) told-below;
  }

-- ---- A list more

-- a whole list is the next one
pub list-more : (nodes : ℕ) (plan : Plan) (lists after : List (Vec (ℕ × ℕ) Global)) (listing : Listing) →
    AreFirstNearby plan plan.cost (length lists) (lists_in lists) → IsNextListing nodes plan (length lists) listing →
    listing.node ≡ nodes → after ≡ lists ++ listing.list ∷ [] →
    (length after ≡ suc (length lists)) × AreFirstNearby plan plan.cost (length after) (lists_in after)
list-more nodes plan lists after listing first next whole grown =
    let count : length after ≡ length lists + 1 = ap length grown ∙ length_push lists listing.list in
    let listed_is = subst (λ (n : ℕ). IsListedBelow (cost_in listing.reach) n listing.list.items) whole next.on.listed_is in
    let near = nearby-listed plan plan.cost (length lists) (cost_in listing.reach) listing.list.items next.are
    (listed-whole (cost_in listing.reach) nodes listing.list.items next.below listed_is) in
    let all = nearby-pushed plan plan.cost (length lists) lists after listing.list first near grown in
    (omega (arith, count), subst (λ (n : ℕ). AreFirstNearby plan plan.cost n (lists_in after)) (sym count) all)

-- ---- Its steps

module _ (world : WorldValue) (alloc : Global) (plan : JobPlan) (lists : Vec (Vec (ℕ × ℕ) Global) Global) (quota : ℕ)
    (on : IsPlanOn world plan)
    (first : AreFirstNearby (plan_of world plan) plan.cost (length lists.items) (lists_in lists.items)) (some : 1 ≤ quota) where
  -- how much is counted for a waypoint at most
  abbrev most : ℕ
  most = most_for_list (length world.map.nodes) plan.limit

  -- as much is counted for those that are left
  most-left : (left : ℕ) → 1 ≤ left → most ≤ left * most
  most-left left there = let more = mul-le 1 most left most there (omega arith) in omega (arith, more)

  module _ (source : Source) (turn : SourceTurn) (next : IsNextList (plan_of world plan) (length lists.items) source)
      (turns : TurnsSource (plan_of world plan).setting.terrain source quota turn) where
    -- the job before a turn of its search
    abbrev pub before : WithinJob
    before = record { alloc = alloc; plan = plan; lists = lists; next = Searching source }

    -- the job with the search after it
    abbrev pub behind : WithinJob
    behind = record { alloc = alloc; plan = plan; lists = lists; next = Searching turn.source }

    -- the job goes on so
    abbrev GoesOn : WithinJob → Type 0
    GoesOn after = StepsSearchOn (IsNearbyOn world) (nearby_plan world) (work_of_nearby world) (lists_left world) quota turn.settled
        before after

    -- no more was settled than may be
    settled-fits : settled_of source.reach + turn.settled ≤ plan.limit
    settled-fits = let limit = next.from.limit in omega (arith, turns.within, turns.settled, limit)

    -- it goes on with its search
    goes-on : turn.turn ≡ reach.More → GoesOn behind
    goes-on more =
        let limit = (quest_in (plan_of world plan).setting.terrain source).limit in
        let counts = subst (CountsReach quota limit (settled_of source.reach) (settled_of turn.source.reach)) more turns.counts in
        let left = waypoints_left world before in
        let there = next.there in
        let less = leg-counted left most (settled_of source.reach) turn.settled (omega (arith, there))
        (omega (arith, settled-fits)) in
        let same = turns.settled in
        record {
          on = record { plan = on; first = first; next = next-same (plan_of world plan) (length lists.items) source quota turn next turns };
          same = refl;
          less = omega (arith, less, same);
          nearer = omega (arith, counts, same, some);
        }

    -- it begins to list what the search told
    list-begun : (job : WithinJob) → IsListBegun world behind job → GoesOn job
    list-begun job is =
        let there = next.there in
        let many : length job.plan.nodes ≡ length plan.nodes = ap (λ (p : JobPlan). length p.nodes) is.same in
        let limit : job.plan.limit ≡ plan.limit = ap (λ (p : JobPlan). p.limit) is.same in
        let left = waypoints_left world before in
        let same_left : waypoints_left world job ≡ left = omega (arith, many, is.lists_same) in
        let counted : counted_on job.plan.limit job.next ≡ plan.limit =
        ap (counted_on job.plan.limit) is.next_is ∙ omega (arith, limit, is.begins) in
        let none : stages_left job.next ≡ 0 = ap stages_left is.next_is in
        let all : waypoints_left world job * most_for_list (length world.map.nodes) job.plan.limit ≡ left * most =
        ap (λ (n : ℕ). n * most_for_list (length world.map.nodes) job.plan.limit) same_left
        ∙ ap (λ (n : ℕ). left * most_for_list (length world.map.nodes) n) limit in
        let text : most_for_features (length world.map.nodes) (length job.plan.nodes) ≡ most_for_features (length world.map.nodes) (length plan.nodes) =
        ap (most_for_features (length world.map.nodes)) many in
        let enough = most-left left (omega (arith, there)) in
        record {
          on = is.on;
          same = ap (plan_of world) is.same;
          less = omega (arith, counted, all, text, enough, settled-fits);
          nearer = omega (arith, none, same_left, some);
        }

    -- so it goes on, or is at its end
    pub nearby-turned : (result : Turn WithinJob (Result Nearby RouteError)) → TurnsNearby world behind turn.turn result →
        Says GoesOn (EndsSearch IsNearbyFor RefusesNearby (plan_of world plan)) result
    nearby-turned result is = go turn.turn refl result is
      where
        go : (t : ReachTurn) → turn.turn ≡ t → (result : Turn WithinJob (Result Nearby RouteError)) → TurnsNearby world behind t result →
            Says GoesOn (EndsSearch IsNearbyFor RefusesNearby (plan_of world plan)) result
        go reach.More its result goes =
            subst (Says GoesOn (EndsSearch IsNearbyFor RefusesNearby (plan_of world plan))) (sym goes) (goes-on its)
        go reach.Done its (More job) goes = list-begun job goes
        go reach.Done its (Done end) goes = subst (EndsSearch IsNearbyFor RefusesNearby (plan_of world plan)) (sym goes) (inl refl)
        go reach.Budget its (More job) goes = absurd goes
        go reach.Budget its (Done end) goes = goes.0

    -- and doesn't end with what was found
    pub nearby-unfound : (result : Turn WithinJob (Result Nearby RouteError)) → TurnsNearby world behind turn.turn result →
        (found : Nearby) → result ≡ Done (Ok found) → ⊥
    nearby-unfound result is found ends = go turn.turn (subst (TurnsNearby world behind turn.turn) ends is)
      where
        go : (t : ReachTurn) → TurnsNearby world behind t (Done (Ok found)) → ⊥
        go reach.More goes = more-unfound behind found (sym goes)
        go reach.Done goes = grind (arith, goes)
        go reach.Budget goes = false≢true goes.1

    -- and no more is settled than the quota
    pub nearby-fits : turn.settled ≤ quota
    nearby-fits = go turn.turn turns.counts
      where
        limit : ℕ
        limit = (quest_in (plan_of world plan).setting.terrain source).limit

        go : (t : ReachTurn) → CountsReach quota limit (settled_of source.reach) (settled_of turn.source.reach) t → turn.settled ≤ quota
        go reach.More counts = let same = turns.settled in omega (arith, counts, same)
        go reach.Done counts = let same = turns.settled in omega (arith, counts, same)
        go reach.Budget counts = let same = turns.settled in omega (arith, counts.0, same)

  module _ (listing : Listing) (next : IsNextListing (length world.map.nodes) (plan_of world plan) (length lists.items) listing) where
    -- the job before a step of its list
    abbrev pub listed-before : WithinJob
    listed-before = record { alloc = alloc; plan = plan; lists = lists; next = Listed listing }

    -- the job goes on so behind a step that spends so much
    abbrev ListsOnAs : (spent : ℕ) → WithinJob → Type 0
    ListsOnAs spent after = StepsSearchOn (IsNearbyOn world) (nearby_plan world) (work_of_nearby world) (lists_left world) quota spent
        listed-before after

    -- it lists further
    pub lists-further : (spent : ℕ) (after : Listing) → ListsOn (length world.map.nodes) spent listing after → 1 ≤ spent → spent ≤ quota →
        ListsOnAs spent (record { alloc = alloc; plan = plan; lists = lists; next = Listed after })
    lists-further spent after is one fits =
        let there = next.there in
        let left = waypoints_left world listed-before in
        let enough = most-left left (omega (arith, there)) in
        let within = is.on.fits in
        record {
          on = record {
            plan = on;
            first = first;
            next = record {
              there = next.there;
              on = is.on;
              are = subst (λ (r : Reach). (node : ℕ) → IsCostWithin (leg_from (plan_of world plan) (length lists.items) node) plan.cost (cost_in r node))
                  (sym is.same) next.are;
              below = subst (λ (r : Reach). AreBelow (cost_in r) (length world.map.nodes)) (sym is.same) next.below;
            };
          };
          same = refl;
          less = omega (arith, is.further, within, enough);
          nearer = omega (arith, one, fits);
        }

    -- it goes on with one list more
    one-more : listing.node ≡ length world.map.nodes → (job : WithinJob) → IsListMore world plan (length lists.items) job → ListsOnAs 0 job
    one-more whole job is =
        let there = next.there in
        let many : length job.plan.nodes ≡ length plan.nodes = ap (λ (p : JobPlan). length p.nodes) is.same in
        let limit : job.plan.limit ≡ plan.limit = ap (λ (p : JobPlan). p.limit) is.same in
        let fewer : waypoints_left world listed-before ≡ suc (waypoints_left world job) = omega (arith, many, is.counted, there) in
        let less = leg-less (waypoints_left world listed-before) (waypoints_left world job) most most 0 fewer (omega arith) in
        let none : counted_on job.plan.limit job.next ≡ 0 = ap (counted_on job.plan.limit) is.none in
        let two : stages_left job.next ≡ 2 = ap stages_left is.none in
        let same : waypoints_left world job * most_for_list (length world.map.nodes) job.plan.limit ≡ waypoints_left world job * most =
        ap (λ (n : ℕ). waypoints_left world job * most_for_list (length world.map.nodes) n) limit in
        let text : most_for_features (length world.map.nodes) (length job.plan.nodes) ≡ most_for_features (length world.map.nodes) (length plan.nodes) =
        ap (most_for_features (length world.map.nodes)) many in
        record {
          on = is.on;
          same = ap (plan_of world) is.same;
          less = omega (arith, less, none, same, text, whole);
          nearer = omega (arith, fewer, two, some);
        }

    -- so it goes on, or memory runs out
    pub lists-whole : listing.node ≡ length world.map.nodes → (result : Turn WithinJob (Result Nearby RouteError)) →
        Says (IsListMore world plan (length lists.items)) IsWantOfMemory result →
        Says (ListsOnAs 0) (EndsSearch IsNearbyFor RefusesNearby (plan_of world plan)) result
    lists-whole whole (More job) is = one-more whole job is
    lists-whole whole (Done end) is = subst (EndsSearch IsNearbyFor RefusesNearby (plan_of world plan)) (sym is) (inl refl)

    -- and doesn't end with what was found
    pub lists-unfound : (result : Turn WithinJob (Result Nearby RouteError)) →
        Says (IsListMore world plan (length lists.items)) IsWantOfMemory result → (found : Nearby) → result ≡ Done (Ok found) → ⊥
    lists-unfound result is found ends = go (subst (Says (IsListMore world plan (length lists.items)) IsWantOfMemory) ends is)
      where
        go : IsWantOfMemory (Ok found) → ⊥
        go is = grind (arith, is)
