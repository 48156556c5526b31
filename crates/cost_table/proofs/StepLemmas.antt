-- One label is settled and noted, or the search is at its end.
use Rattle.std.proofs.Common.{◌≡◌, ℕ, ◌+◌, ◌<◌, ◌≤◌, Bool, true, false, List, [], ◌∷◌, length, Some, IsTrue, refl, sym, ap, ◌∙◌, subst, arith}
use Rattle.std.specs.List.{slice_get}
use Rattle.cost_model.specs.declared.parts.Carry.{Carry}
use Rattle.item_list.proofs.ListLemmas.{slice_get-append, slice_get-there}
use Rattle.space_search.specs.Searches.{IsSearchOf}
use Rattle.space_search.specs.Turns.{EndsSearch, GoesOn, IsClosedSoFar}
use Rattle.space_search.specs.View.{IsShown, KeepsPlaces, Reached, listed, view}
use Rattle.space_search.specs.declared.outcome.Outcome.{Outcome}
use Rattle.space_search.specs.declared.outcome.Outcome.TheVariants as search_
use Rattle.space_search.specs.declared.search.Search.{Search}
use Rattle.bike_space.specs.Lawful.{IsTask}
use Rattle.bike_space.specs.Tasks.{Task, rules_of}
use Rattle.bike_space.proofs.CarryLemmas.{carried-is}
use Rattle.cost_table.specs.Costs.{AreCosts, IsSpentOn, Quest}
use Rattle.cost_table.specs.Endless.{endless}
use Rattle.cost_table.specs.Found.{NotesBy, PassesBy, beyond}
use Rattle.cost_table.specs.Reaches.{CountsReach, EndsBy, IsFoundAfter, IsNoted, IsOneMore, IsUnderWay, StaysReach, StepsTo, arrival, cost_in, quest_of}
use Rattle.cost_table.specs.declared.found.Found.{Found}
use Rattle.cost_table.specs.declared.reach.Reach.{Reach}
use Rattle.cost_table.specs.declared.turn.ReachTurn.{ReachTurn}
use Rattle.cost_table.specs.declared.turn.ReachTurn.TheVariants.{More, Done, Budget}
use Rattle.cost_table.specs.declared.want.Want.{Want}
use Rattle.cost_table.specs.declared.want.Want.TheVariants.{Nodes, Within}
use Rattle.cost_table.proofs.ArriveLemmas.{IsGrown, grown-by}
use Rattle.cost_table.proofs.NoWayLemmas.{no-way-known}
use Rattle.cost_table.proofs.NoteLemmas.{IsKnown, note-known}
use Rattle.cost_table.proofs.SpentLemmas.{spent-known, spent_walks}

module _ (task : Task) (lawful : IsTask task) (unused : (link : ℕ) → task.used link ≡ false) (reach : Reach)
    (way : IsUnderWay task reach) (search : Search Carry)
    (of : IsSearchOf (endless (rules_of task)) search)
    (kept : GoesOn (endless (rules_of task)) (view reach.search) (view search)) where
  -- the reach after a turn of its search
  abbrev pub searched : Reach
  searched = record reach { search = search }

  -- what stays of it
  pub searched-stays : StaysReach task reach searched
  searched-stays = record {
    of = of;
    source = refl;
    want = refl;
    limit = refl;
    stage = refl;
    grows = omega arith;
    within = way.within;
  }

  -- one label more is settled
  pub searched-more :
      length (view search).settled ≡ length (view reach.search).settled + 1 →
      IsClosedSoFar (endless (rules_of task)) (view search) → IsOneMore task searched
  searched-more longer closed =
      let count : ℕ = length (view reach.search).settled in
      let t = slice_get-there (view search).settled count (omega (arith, longer)) in
      record {
        of = of;
        from = way.from;
        within = way.within;
        before = (view reach.search).settled;
        last = t.0;
        counted = way.counted;
        kept = kept.kept;
        grown = longer;
        there = t.1;
        closed = closed count t.0 t.0.cost (sym longer) t.1 (record { low = 0; is = refl; sum = omega arith });
        found = way.found;
      }

  -- the search is at its end
  pub searched-ends :
      (end : Outcome ℕ) (turn : ReachTurn) → EndsBy end turn → EndsSearch (endless (rules_of task)) (view search) end →
      length (view search).settled < length (view reach.search).settled + 1 →
      (turn ≡ Done) × AreCosts (quest_of task reach) (cost_in searched)
  searched-ends (search_.Found label) turn by ends few =
      let goal : IsTrue false = ends.least.goal in
      let never : ⊥ = cc in
      absurd never
  searched-ends search_.NoWay turn by ends few = (
    by,
    no-way-known task lawful unused reach.limit (view reach.search).settled (view search).settled kept.kept
        (omega (arith, few)) ends.closed reach.found reach.found.want way.found,
  )
  searched-ends search_.Budget turn by ends few = absurd by

  -- so the reach is at its end
  pub ended-steps :
      (end : Outcome ℕ) (turn : ReachTurn) → EndsBy end turn → EndsSearch (endless (rules_of task)) (view search) end →
      length (view search).settled < length (view reach.search).settled + 1 →
      StepsTo task (quest_of task reach) searched turn
  ended-steps end turn by ends few =
      let it = searched-ends end turn by ends few in
      subst (λ (t : ReachTurn). StepsTo task (quest_of task reach) searched t) (sym it.0) it.1

-- ---- A label is noted

-- whether all is found as the answer of a turn
abbrev pub turn_of : Bool → ReachTurn
turn_of false = More
turn_of true = Done

-- the last label is the one of this number
pub last-shown :
    (task : Task) (reach : Reach) (more : IsOneMore task reach) (label : ℕ) → label ≡ length more.before →
    IsShown (view reach.search) label more.last
last-shown task reach more label at =
    subst (λ (n : ℕ). IsShown (view reach.search) n more.last) (sym at)
    (slice_get-append (view reach.search).settled (listed (view reach.search).goal) (length more.before) more.last more.there)

-- and its link is one of the map
pub last-within :
    (task : Task) (reach : Reach) (more : IsOneMore task reach) → more.last.state.link < task.leg.ride.roads.links
last-within task reach more =
    (carried-is task.leg more.last.state (more.closed.ordered.each (length more.before) more.last more.there).valid).0

-- the labels before the last one, and with it
pub one-grown :
    (task : Task) (reach : Reach) (more : IsOneMore task reach) →
    IsGrown more.before (view reach.search).settled more.last
one-grown task reach more = grown-by more.before (view reach.search).settled more.last more.kept more.grown more.there

-- what a label that is noted and counted comes to
pub noted-steps :
    (task : Task) → IsTask task → ((link : ℕ) → task.used link ≡ false) → (reach : Reach) (more : IsOneMore task reach)
    (found : Found) → found.want ≡ reach.found.want → (settled : ℕ) → settled ≡ reach.settled + 1 →
    settled ≤ reach.limit → (node cost : ℕ) → node ≡ arrival task more.last →
    cost ≡ more.last.cost → (told done : Bool) → told ≡ done → NotesBy reach.found.want node cost reach.found found told →
    StepsTo task (quest_of task reach) (record reach { found = found; settled = settled }) (turn_of done)
noted-steps task lawful unused reach more found want settled one within node cost at paid told done is notes =
    let its : NotesBy reach.found.want (arrival task more.last) more.last.cost reach.found found done =
    subst (λ (d : Bool). NotesBy reach.found.want (arrival task more.last) more.last.cost reach.found found d) is
    (subst (λ (c : ℕ). NotesBy reach.found.want (arrival task more.last) c reach.found found told) paid
    (subst (λ (n : ℕ). NotesBy reach.found.want n cost reach.found found told) at notes)) in
    known-steps done
    (note-known task lawful unused reach.limit more.before (view reach.search).settled more.last
    (one-grown task reach more) more.closed reach.found found reach.found.want done more.found its)
  where
    known-steps :
        (done : Bool) → IsKnown task (quest_of task reach) found (view reach.search).settled done →
        StepsTo task (quest_of task reach) (record reach { found = found; settled = settled }) (turn_of done)
    known-steps true known = known
    known-steps false known = record {
      of = more.of;
      from = more.from;
      counted = omega (arith, one, more.counted, more.grown);
      within = within;
      found = subst
          (λ (w : Want). IsFoundAfter task
          (record { ride = task.leg.ride; source = task.leg.start; want = w; limit = reach.limit }) found
          (view reach.search).settled) (sym want) known;
    }

-- what one label more than the limit comes to
pub passed-steps :
    (task : Task) → IsTask task → ((link : ℕ) → task.used link ≡ false) → (reach : Reach) (more : IsOneMore task reach) →
    reach.settled ≡ reach.limit → (cost : ℕ) → cost ≡ more.last.cost → (turn : ReachTurn) →
    PassesBy reach.found.want cost turn → StepsTo task (quest_of task reach) reach turn
passed-steps task lawful unused reach more full cost paid turn passes =
    steps reach.found.want turn refl
    (subst (λ (c : ℕ). PassesBy reach.found.want c turn) paid passes)
  where
    -- the evidence of a spent limit
    spent : PassesBy reach.found.want more.last.cost Budget →
        (walks : List (List ℕ)) × IsSpentOn (quest_of task reach) walks
    spent by =
        let settled = (view reach.search).settled in
        let count : length settled ≡ reach.limit + 1 = omega (arith, full, more.counted, more.grown) in (
          spent_walks task lawful unused reach.limit settled count more.closed.ordered,
          spent-known task lawful unused reach.limit settled count more.closed.ordered more.before more.last
              (one-grown task reach more) more.grown more.closed reach.found reach.found.want by more.found,
        )

    steps :
        (want : Want) (turn : ReachTurn) → reach.found.want ≡ want → PassesBy reach.found.want more.last.cost turn →
        StepsTo task (quest_of task reach) reach turn
    steps (Nodes nodes) turn is by =
        let spends : turn ≡ Budget = subst (λ (w : Want). PassesBy w more.last.cost turn) is by in
        subst (λ (t : ReachTurn). StepsTo task (quest_of task reach) reach t) (sym spends)
        (spent (subst (λ (t : ReachTurn). PassesBy reach.found.want more.last.cost t) spends by))
    steps (Within most) More is by = absurd (subst (λ (w : Want). PassesBy w more.last.cost More) is by)
    steps (Within most) Done is by =
        let far : most < more.last.cost = subst (λ (w : Want). PassesBy w more.last.cost Done) is by in
        note-known task lawful unused reach.limit more.before (view reach.search).settled more.last
        (one-grown task reach more) more.closed reach.found reach.found reach.found.want true more.found
        (subst (λ (w : Want). NotesBy w (arrival task more.last) more.last.cost reach.found reach.found true) (sym is)
        (beyond far (record { costs = λ node. refl; waiting = λ node. refl })))
    steps (Within most) Budget is by = spent by

-- what is counted where one label more than the limit is looked at
pub passed-counts :
    (want : Want) (cost limit settled : ℕ) (turn : ReachTurn) → PassesBy want cost turn → settled ≡ limit →
    CountsReach 1 limit settled settled turn
passed-counts (Nodes nodes) cost limit settled turn by full =
    subst (λ (t : ReachTurn). CountsReach 1 limit settled settled t) (sym by) (omega arith, full)
passed-counts (Within most) cost limit settled More by full = absurd by
passed-counts (Within most) cost limit settled Done by full = omega arith
passed-counts (Within most) cost limit settled Budget by full = (omega arith, full)

-- what stays of a reach when its search took a turn and then its label was noted
pub noted-stays :
    (task : Task) (before reach after : Reach) → StaysReach task before reach → IsNoted reach after →
    StaysReach task before after
noted-stays task before reach after stays noted = record {
  of = subst (IsSearchOf (endless (rules_of task))) (sym noted.search) stays.of;
  source = noted.source ∙ stays.source;
  want = noted.want ∙ stays.want;
  limit = noted.limit ∙ stays.limit;
  stage = noted.stage ∙ stays.stage;
  grows = omega (arith, noted.grows, stays.grows);
  within = omega (arith, noted.within, stays.limit);
}
