-- A search on a leg begins anew, by the bound of a guide or with what still has to be paid found for all nodes.
use Rattle.std.specs.declared.alloc.Global.{Global}
use Rattle.std.specs.declared.rc.Rc.{Rc}
use Rattle.ride_bounds.specs.declared.guide.Guide.{Guide}
use Rattle.std.proofs.Common.{◌≡◌, ◌≢◌, ℕ, ◌+◌, ◌-◌, ◌<◌, ◌≤◌, Bool, true, false, ◌&&◌, List, None, Some, length, refl, ap, arith, sym, ◌∙◌, subst}
use Rattle.bike_space.specs.Kept.{Wakes, task_of}
use Rattle.bike_space.specs.Openings.{IsOpening, left_of, leg_of, near_of, used_of}
use Rattle.bike_space.specs.declared.finding.Walk.{Walk}
use Rattle.bike_space.specs.declared.opening.Opening.{Opening as Opened}
use Rattle.bike_space.specs.declared.rested.Rested.{Rested}
use Rattle.cost_model.specs.Rides.{Terrain, Leg}
use Rattle.cost_model.specs.declared.parts.Carry.{Carry}
use Rattle.guided_space.specs.Guided.{IsGuidedTo, guided_task}
use Rattle.item_list.specs.Turns.{Says, Settles}
use Rattle.item_list.specs.declared.turn.Turn.{Turn}
use Rattle.item_list.specs.declared.turn.Turn.TheVariants.{More, Done}
use Rattle.least_sums.specs.Findings.{most_found}
use Rattle.space_search.proofs.CallerLemmas.{settled-within}
use Rattle.space_search.specs.Searches.{IsSearchOf}
use Rattle.space_search.specs.View.{view}
use Rattle.space_search.specs.declared.outcome.Outcome.{Outcome}
use Rattle.space_search.specs.declared.search.Search.{Search}
use Rattle.leg_search.specs.Anew.{BeginsAnew, MayBegin}
use Rattle.leg_search.specs.Quests.{AnswersLegTurn, GoesOnAs, IsSearchOn, Quest, counted_anew, counted_of, most_counted, most_labels, quest_at, quest_in, quest_of, searched}
use Rattle.leg_search.specs.Steps.{AnswersStep, CountsLegStep, CountsStep, Step, StepsOn, counting, is_spent, stages_left, told_by, told_of}
use Rattle.leg_search.specs.declared.search.Aim.{Aim}
use Rattle.leg_search.specs.declared.search.Guiding.{Guiding}
use Rattle.leg_search.specs.declared.search.LegSearch.{LegSearch}
use Rattle.leg_search.specs.declared.search.Stage.TheVariants.{Opening, Settling, Guided}
use Rattle.leg_search.proofs.TurnLemmas.{legs-differ, quest-same, settled-counts, step-answers, step-goes}

-- a step that spends a limit settles less than its quota
pub spent-fewer : (quota settled : ℕ) (turn : Turn (Unit {0}) (Outcome Walk)) → Settles quota settled turn → is_spent turn ≡ true →
    settled < quota
spent-fewer quota settled (More more) is spent = cc
spent-fewer quota settled (Done end) is spent = is

-- ---- What it is then

-- with what still has to be paid to be found for all nodes
pub whole-begins :
    (terrain : Terrain) (kept : Rested) (aim : Aim) →
    MayBegin terrain kept aim (most_found (length terrain.map.links) + aim.limit) → aim.first ≡ false → (opening : Opened) →
    IsOpening terrain opening → leg_of terrain opening ≡ (task_of terrain kept).leg →
    used_of opening ≡ (task_of terrain kept).used → near_of opening ≡ None →
    left_of opening ≡ most_found (length terrain.map.links) →
    BeginsAnew terrain kept aim 2 (record { stage = Opening opening; aim = aim })
whole-begins terrain kept aim may later opening opens leg used near left = record {
  on = record {
    on = record {
      stage = record {
        opens = opens;
        differ = legs-differ (leg_of terrain opening) (task_of terrain kept).leg leg may.differ;
        whole = λ _. near;
      };
      counts = rw (later, left) (let within = may.within in omega (arith, within));
      links = may.links;
      small = may.small;
      guided = may.guided;
    };
    same = quest-same (leg_of terrain opening) (task_of terrain kept).leg (used_of opening) (task_of terrain kept).used aim.limit
        aim.runs leg used;
  };
  same = refl;
  fewer = rw later (omega arith);
}

-- by the bound of a guide
pub guided-begins :
    (terrain : Terrain) (aim : Aim) (it : Guiding) →
    MayBegin terrain it.kept aim (aim.limit + (most_found (length terrain.map.links) + aim.limit)) → aim.first ≡ false →
    IsSearchOf (searched aim.runs (guided_task terrain it.kept it.guide.value)) it.search →
    IsGuidedTo terrain it.guide.value it.kept.target it.bound → (view it.search).limit ≡ aim.limit →
    length (view it.search).settled ≡ 0 →
    BeginsAnew terrain it.kept aim 3 (record { stage = Guided it; aim = aim })
guided-begins terrain aim it may later of bounds limit none = record {
  on = record {
    on = record {
      stage = record {
        wakes = may.wakes;
        differ = may.differ;
        of = of;
        bounds = bounds;
        limit = limit;
        later = later;
      };
      counts = rw (later, none) (let within = may.within in omega (arith, within));
      links = may.links;
      small = may.small;
      guided = may.guided;
    };
    same = refl;
  };
  same = refl;
  fewer = omega arith;
}

-- ---- It may

-- where more may be counted, less may
pub may-fewer : (terrain : Terrain) (kept : Rested) (aim : Aim) (more less : ℕ) → less ≤ more → MayBegin terrain kept aim more →
    MayBegin terrain kept aim less
may-fewer terrain kept aim more less few may = record {
  wakes = may.wakes;
  differ = may.differ;
  links = may.links;
  small = may.small;
  guided = may.guided;
  within = let within = may.within in omega (arith, within, few);
}

-- whatever guide of the terrain there is, and whether it has begun anew
pub may-other :
    (terrain : Terrain) (kept : Rested) (aim : Aim) (more : ℕ) → MayBegin terrain kept aim more →
    MayBegin terrain kept (record aim { first = false; guide = None }) more
may-other terrain kept aim more may = record {
  wakes = may.wakes;
  differ = may.differ;
  links = may.links;
  small = may.small;
  guided = tt;
  within = may.within;
}

-- what begins with another guide, or known to be later, begins
pub begins-other :
    (terrain : Terrain) (kept : Rested) (aim : Aim) (most more : ℕ) (next : LegSearch) → most ≤ more →
    BeginsAnew terrain kept (record aim { first = false; guide = None }) most next → BeginsAnew terrain kept aim more next
begins-other terrain kept aim most more next few begins = record {
  on = begins.on;
  same = begins.same;
  fewer = let fewer = begins.fewer in omega (arith, fewer, few);
}

-- what is counted behind a beginning anew, where it is still to come
anew-first : (first : Bool) (links limit : ℕ) (kept : Rested) (search : Search Carry) → first ≡ true →
    counted_anew first links limit (Settling kept search) ≡ limit + (most_found links + limit)
anew-first true links limit kept search is = refl
anew-first false links limit kept search is = absurd (cc)

stages-first : (first : Bool) (kept : Rested) (search : Search Carry) → first ≡ true → stages_left first (Settling kept search) ≡ 3
stages-first true kept search is = refl
stages-first false kept search is = absurd (cc)

-- ---- Behind labels near the target

module _ (terrain : Terrain) (kept : Rested) (old search : Search Carry) (aim : Aim) (quota : ℕ) (step : Step)
    (on : IsSearchOn terrain (record { stage = Settling kept old; aim = aim }))
    (of : IsSearchOf (searched aim.runs (task_of terrain kept)) search)
    (limited : (view search).limit ≡ (view old).limit)
    (counts : CountsStep quota (length (view old).settled) (length (view search).settled) step)
    (first : aim.first ≡ true) where
  -- it may begin anew
  pub anew-may :
      MayBegin terrain kept (counting aim step.0) (aim.limit + (most_found (length terrain.map.links) + aim.limit))
  anew-may = record {
    wakes = on.stage.wakes;
    differ = on.stage.differ;
    links = on.links;
    small = on.small;
    guided = on.guided;
    within =
        let was = settled-counts terrain kept old search aim quota step on of limited counts in
        let behind = anew-first aim.first (length terrain.map.links) aim.limit kept search first in
        omega (arith, was, behind);
  }

  module _ (next : LegSearch) (begins : BeginsAnew terrain kept (counting aim step.0) 3 next) where
    -- and goes on with the same quest
    pub anew-as : GoesOnAs terrain (quest_at terrain aim (Settling kept old)) next
    anew-as = begins.on

    -- and counts what was settled
    pub anew-steps :
        is_spent step.1 ≡ true →
        CountsLegStep (length terrain.map.links) quota (record { stage = Settling kept old; aim = aim })
        (record { counted = step.0; turn = More next })
    anew-steps spent = record {
      goes = record {
        fits = let fewer = spent-fewer quota step.0 step.1 counts.settles spent in omega (arith, fewer);
        next = begins.same;
        nearer = let three = stages-first aim.first kept old first in let fewer = begins.fewer in omega (arith, three, fewer);
      };
      within = let most = settled-counts terrain kept old search aim quota step on of limited counts in omega (arith, most);
    }

-- ---- Labels are settled by the bound of a guide

-- as many labels as the quest says
labels-later : (first : Bool) (limit : ℕ) → first ≡ false → most_labels first limit ≡ limit
labels-later true limit later = absurd (cc)
labels-later false limit later = refl

module _ (terrain : Terrain) (was it : Guiding) (aim : Aim) (quota : ℕ) (step : Step)
    (on : IsSearchOn terrain (record { stage = Guided was; aim = aim }))
    (kept : it.kept ≡ was.kept) (guide : it.guide ≡ was.guide)
    (of : IsSearchOf (searched aim.runs (guided_task terrain was.kept was.guide.value)) it.search)
    (limited : (view it.search).limit ≡ (view was.search).limit)
    (counts : CountsStep quota (length (view was.search).settled) (length (view it.search).settled) step) where
  -- the search as it goes on
  abbrev pub next-guided : LegSearch
  next-guided = record { stage = Guided it; aim = counting aim step.0 }

  -- what was counted stays within the most
  pub guided-counts : aim.counted + step.0 + (most_labels aim.first aim.limit - length (view it.search).settled)
      + (most_found (length terrain.map.links) + aim.limit) ≤ most_counted (length terrain.map.links) aim.limit
  guided-counts =
      let before = on.counts in
      let grown = counts.in_all in
      let labels = labels-later aim.first aim.limit on.stage.later in
      let most = settled-within (searched aim.runs (guided_task terrain was.kept was.guide.value)) it.search of in
      let limit = on.stage.limit in
      omega (arith, before, grown, labels, most, limited, limit)

  -- the quest is the same
  guided-quest : quest_in (task_of terrain it.kept) aim.limit aim.runs ≡ quest_in (task_of terrain was.kept) aim.limit aim.runs
  guided-quest = ap (λ k. quest_in (task_of terrain k) aim.limit aim.runs) kept

  -- it is still a search on the leg
  pub guided-on :
      IsGuidedTo terrain was.guide.value was.kept.target it.bound → IsSearchOn terrain next-guided
  guided-on bounds = record {
    stage = record {
      wakes = subst (λ k. Wakes terrain k) (sym kept) on.stage.wakes;
      differ = subst (λ (k : Rested). k.start ≢ k.target) (sym kept) on.stage.differ;
      of = subst (λ k. IsSearchOf (searched aim.runs (guided_task terrain k it.guide.value)) it.search) (sym kept)
          (subst (λ (g : Rc Guide Global). IsSearchOf (searched aim.runs (guided_task terrain was.kept g.value)) it.search) (sym guide) of);
      bounds = subst (λ (k : Rested). IsGuidedTo terrain it.guide.value k.target it.bound) (sym kept)
          (subst (λ (g : Rc Guide Global). IsGuidedTo terrain g.value was.kept.target it.bound) (sym guide) bounds);
      limit = limited ∙ on.stage.limit;
      later = on.stage.later;
    };
    counts = guided-counts;
    links = on.links;
    small = on.small;
    guided = on.guided;
  }

  -- what the step is told as answers the quest, where it doesn't spend its limit
  pub guided-answers :
      IsGuidedTo terrain was.guide.value was.kept.target it.bound → is_spent step.1 ≡ false →
      AnswersStep (guided_task terrain was.kept was.guide.value) (view was.search).limit aim.runs step →
      AnswersLegTurn terrain (quest_at terrain aim (Guided was)) (told_of next-guided step)
  guided-answers bounds unspent answers =
      step-answers terrain next-guided (guided-on bounds) (guided_task terrain was.kept was.guide.value) guided-quest
      (view was.search).limit step.1 (λ spent. absurd (cc)) answers

  -- and counts what was settled
  pub guided-steps : 1 ≤ quota →
      CountsLegStep (length terrain.map.links) quota (record { stage = Guided was; aim = aim }) (told_of next-guided step)
  guided-steps some = record {
    goes = step-goes quota step.0 (record { stage = Guided was; aim = aim }) next-guided step.1 some refl refl counts.settles;
    within = let most = guided-counts in omega (arith, most);
  }

  -- where its limit is spent it may begin anew
  pub guided-may :
      MayBegin terrain was.kept (counting aim step.0) (most_found (length terrain.map.links) + aim.limit)
  guided-may = record {
    wakes = on.stage.wakes;
    differ = on.stage.differ;
    links = on.links;
    small = on.small;
    guided = on.guided;
    within = let most = guided-counts in omega (arith, most);
  }

  -- and counts what was settled then too
  pub guided-anew :
      (next : LegSearch) → BeginsAnew terrain was.kept (counting aim step.0) 2 next → is_spent step.1 ≡ true →
      CountsLegStep (length terrain.map.links) quota (record { stage = Guided was; aim = aim })
      (record { counted = step.0; turn = More next })
  guided-anew next begins spent = record {
    goes = record {
      fits = let fewer = spent-fewer quota step.0 step.1 counts.settles spent in omega (arith, fewer);
      next = begins.same;
      nearer = let fewer = begins.fewer in omega (arith, fewer);
    };
    within = let most = guided-counts in omega (arith, most);
  }

-- ---- Whether a search begins anew

-- where a search doesn't begin anew at a spent limit, it has
pub else-anew : (first spent : Bool) → (first && spent) ≡ false → spent ≡ true → first ≡ false
else-anew true true is yes_ = cc
else-anew true false is yes_ = cc
else-anew false spent is yes_ = refl

-- where it does, it hadn't
pub then-first : (first spent : Bool) → (first && spent) ≡ true → first ≡ true
then-first true spent is = refl
then-first false spent is = cc

-- and its limit is spent
pub then-spent : (first spent : Bool) → (first && spent) ≡ true → spent ≡ true
then-spent true spent is = is
then-spent false spent is = cc
