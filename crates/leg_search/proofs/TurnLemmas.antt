-- What a step of a search on a leg comes to, and what it counts.
use Rattle.std.proofs.Common.{◌≡◌, ◌≢◌, ℕ, ◌+◌, ◌-◌, ◌<◌, ◌≤◌, Bool, true, false, ◌&&◌, List, None, length, refl, ap, arith, sym, ◌∙◌, subst}
use Rattle.bike_space.specs.Kept.{task_of}
use Rattle.bike_space.specs.Openings.{IsOpened, IsOpening, OpensOn, left_of, leg_of, near_of, used_of}
use Rattle.bike_space.specs.Tasks.{Task}
use Rattle.bike_space.specs.declared.finding.Walk.{Walk}
use Rattle.bike_space.specs.declared.opening.Opening.{Opening as Opened}
use Rattle.bike_space.specs.declared.rested.Rested.{Rested}
use Rattle.cost_model.specs.Rides.{Terrain, Leg}
use Rattle.cost_model.specs.declared.parts.Carry.{Carry}
use Rattle.item_list.specs.Turns.{Says, Settles}
use Rattle.least_sums.specs.Findings.{most_found}
use Rattle.item_list.specs.declared.turn.Turn.{Turn}
use Rattle.item_list.specs.declared.turn.Turn.TheVariants.{More, Done}
use Rattle.ride_bounds.specs.declared.guide.Guide.{Guide}
use Rattle.space_search.proofs.CallerLemmas.{settled-within}
use Rattle.space_search.specs.Searches.{IsSearchOf}
use Rattle.space_search.specs.View.{view}
use Rattle.space_search.specs.declared.outcome.Outcome.{Outcome}
use Rattle.space_search.specs.declared.outcome.Outcome.TheVariants.{Found, NoWay, Budget}
use Rattle.space_search.specs.declared.search.Search.{Search}
use Rattle.leg_search.specs.Quests.{AnswersLegTurn, AnswersQuest, GoesOnAs, IsFoundFor, IsSearchOn, IsSpentFor, Quest, counted_anew, counted_of, most_counted, most_labels, quest_at, quest_in, quest_of, searched}
use Rattle.leg_search.specs.Steps.{AnswersEnd, AnswersStep, CountsLegStep, CountsStep, IsLimited, Step, StepsOn, counting, is_spent, spends, stages_left, told_by, told_of}
use Rattle.leg_search.specs.declared.search.Aim.{Aim}
use Rattle.leg_search.specs.declared.search.LegSearch.{LegSearch}
use Rattle.leg_search.specs.declared.search.Stage.TheVariants.{Opening, Settling}
use Rattle.leg_search.specs.declared.search.TheConstants.{FIRST_LABELS}

-- a quest is that of the leg, the used segments, the limit and the way of going
pub quest-same :
    (leg other : Leg) (used also : ℕ → Bool) (limit : ℕ) (runs : Bool) → leg ≡ other → used ≡ also →
    let Q : Leg → (ℕ → Bool) → Quest = λ l u. record { leg = l; used = u; limit = limit; runs = runs } in Q leg used ≡ Q other also
quest-same leg other used also limit runs legs useds =
    let Q : Leg → (ℕ → Bool) → Quest = λ l u. record { leg = l; used = u; limit = limit; runs = runs } in
    ap (λ l. Q l used) legs ∙ ap (λ u. Q other u) useds

-- ---- What a turn answers

-- a walk that was found is one whatever the limit is
found-for : (task : Task) (limit other : ℕ) (runs : Bool) (walk : Walk) → IsFoundFor (quest_in task limit runs) walk →
    IsFoundFor (quest_in task other runs) walk
found-for task limit other runs walk is = record { found = is.found; runs = is.runs }

-- the end of a search is that of its quest, where a limit is spent that is the quest's, and what still has to be paid was
-- found for all nodes
end-answers :
    (task : Task) (own limit : ℕ) (runs : Bool) (end : Outcome Walk) → (spends end ≡ true → (own ≡ limit) × (task.radius ≡ None)) →
    AnswersEnd task own runs end → AnswersQuest (quest_in task limit runs) end
end-answers task own limit runs (Found walk) whole is = found-for task own limit runs walk is
end-answers task own limit runs NoWay whole is = is
end-answers task own limit runs Budget whole is =
    let all = whole refl in
    subst (λ n. (walks : List (List ℕ)) × IsSpentFor (quest_in task n runs) walks) all.0 (is all.1)

-- what labels that were settled come to
pub step-answers :
    (terrain : Terrain) (next : LegSearch) → IsSearchOn terrain next → (task : Task) → quest_of terrain next
    ≡ quest_in task next.aim.limit next.aim.runs → (own : ℕ) (turn : Turn (Unit {0}) (Outcome Walk)) →
    (is_spent turn ≡ true → (own ≡ next.aim.limit) × (task.radius ≡ None)) →
    Says (λ _. Unit {0}) (AnswersEnd task own next.aim.runs) turn →
    Says (GoesOnAs terrain (quest_in task next.aim.limit next.aim.runs)) (AnswersQuest (quest_in task next.aim.limit next.aim.runs))
    (told_by next turn)
step-answers terrain next on task same own (More more) whole is = record { on = on; same = same }
step-answers terrain next on task same own (Done end) whole is =
    end-answers task own next.aim.limit next.aim.runs end whole is

-- ---- What is counted

-- the labels of a search are no more than may be settled before it begins anew, or behind that
labels-most : (first : Bool) (limit own : ℕ) → (first ≡ true → own ≤ FIRST_LABELS) → (first ≡ false → own ≡ limit) →
    own ≤ most_labels first limit
labels-most true limit own few all = few refl
labels-most false limit own few all = omega (arith, all refl)

-- a step goes on within its quota, or ends below it
pub step-goes :
    (quota counted : ℕ) (before next : LegSearch) (turn : Turn (Unit {0}) (Outcome Walk)) → 1 ≤ quota →
    counted_of next ≡ counted_of before + counted →
    stages_left next.aim.first next.stage ≡ stages_left before.aim.first before.stage → Settles quota counted turn →
    Says (StepsOn quota counted before) (λ _. counted < quota) (told_by next turn)
step-goes quota counted before next (More more) some counts same is =
    record { fits = omega (arith, is); next = counts; nearer = omega (arith, same, is, some) }
step-goes quota counted before next (Done end) some counts same is = is

-- labels are settled in fewer stages than are left while what still has to be paid is found
stages-fall : (first : Bool) (opening : Opened) (kept : Rested) (search : Search Carry) →
    stages_left first (Settling kept search) < stages_left first (Opening opening)
stages-fall true opening kept search = omega arith
stages-fall false opening kept search = omega arith

module _ (terrain : Terrain) (kept : Rested) (old search : Search Carry) (aim : Aim) (quota : ℕ) (step : Step)
    (on : IsSearchOn terrain (record { stage = Settling kept old; aim = aim }))
    (of : IsSearchOf (searched aim.runs (task_of terrain kept)) search)
    (limited : (view search).limit ≡ (view old).limit)
    (counts : CountsStep quota (length (view old).settled) (length (view search).settled) step) where
  abbrev pub task : Task
  task = task_of terrain kept

  abbrev pub before : LegSearch
  before = record { stage = Settling kept old; aim = aim }

  -- the search as it goes on
  abbrev pub next : LegSearch
  next = record { stage = Settling kept search; aim = counting aim step.0 }

  settled-few : length (view search).settled ≤ most_labels aim.first aim.limit
  settled-few =
      let most = settled-within (searched aim.runs task) search of in
      let labels = labels-most aim.first aim.limit (view old).limit on.stage.few on.stage.limit in
      omega (arith, most, limited, labels)

  -- what was counted stays within the most
  pub settled-counts : aim.counted + step.0 +
      (most_labels aim.first aim.limit - length (view search).settled)
      + counted_anew aim.first (length terrain.map.links) aim.limit (Settling kept search)
      ≤ most_counted (length terrain.map.links) aim.limit
  settled-counts =
      let was = on.counts in
      let grown = counts.in_all in
      let few = settled-few in
      omega (arith, was, grown, few)

  -- so it is still a search on the leg
  settled-on : IsSearchOn terrain next
  settled-on = record {
    stage = record {
      wakes = on.stage.wakes;
      differ = on.stage.differ;
      of = of;
      few = λ first. omega (arith, limited, on.stage.few first);
      limit = λ later. limited ∙ on.stage.limit later;
      whole = on.stage.whole;
      within = omega (arith, limited, on.stage.within);
    };
    counts = settled-counts;
    links = on.links;
    small = on.small;
    guided = on.guided;
  }

  -- what the step is told as answers the quest
  pub settled-answers :
      (is_spent step.1 ≡ true → aim.first ≡ false) → AnswersStep task (view old).limit aim.runs step →
      AnswersLegTurn terrain (quest_at terrain aim (Settling kept old)) (told_of next step)
  settled-answers later answers =
      step-answers terrain next settled-on task refl (view old).limit step.1
      (λ spent. (on.stage.limit (later spent), on.stage.whole (later spent))) answers

  -- and counts what was settled
  pub settled-steps : 1 ≤ quota → CountsLegStep (length terrain.map.links) quota before (told_of next step)
  settled-steps some = record {
    goes = step-goes quota step.0 before next step.1 some refl refl counts.settles;
    within = let most = settled-counts in omega (arith, most);
  }

-- what is said over the space that was woken is said over the one that rests
pub woken : (terrain seen : Terrain) (kept other : Rested) → seen ≡ terrain → other ≡ kept → (P : Terrain → Rested → Type 0) →
    P seen other → P terrain kept
woken terrain seen kept other its same P p = subst (P terrain) same (subst (λ t. P t other) its p)

-- and by a guide that was lent
pub woken-by :
    (terrain seen : Terrain) (kept other : Rested) (guide shown : Guide) → seen ≡ terrain → other ≡ kept → shown ≡ guide →
    (P : Terrain → Rested → Guide → Type 0) → P seen other shown → P terrain kept guide
woken-by terrain seen kept other guide shown its same lent P p =
    subst (P terrain kept) lent (subst (λ k. P terrain k shown) same (subst (λ t. P t other shown) its p))

-- ---- What still has to be paid is being found

-- the nodes of a leg differ as those of the same leg
pub legs-differ : (a b : Leg) → a ≡ b → b.start ≢ b.target → a.start ≢ a.target
legs-differ a b same differ e = differ (sym (ap (λ (l : Leg). l.start) same) ∙ e ∙ ap (λ (l : Leg). l.target) same)

module _ (terrain : Terrain) (opening : Opened) (aim : Aim)
    (on : IsSearchOn terrain (record { stage = Opening opening; aim = aim })) where
  abbrev pub before-open : LegSearch
  before-open = record { stage = Opening opening; aim = aim }

  module _ (after : Opened) (opens : OpensOn terrain opening after) where
    abbrev pub next-open : LegSearch
    next-open = record { stage = Opening after; aim = counting aim 1 }

    -- a step of it goes on with the same quest
    pub opens-as : GoesOnAs terrain (quest_at terrain aim (Opening opening)) next-open
    opens-as = record {
      on = record {
        stage = record {
          opens = opens.opens;
          differ = legs-differ (leg_of terrain after) (leg_of terrain opening) opens.leg on.stage.differ;
          whole = λ later. opens.all (on.stage.whole later);
        };
        counts = let was = on.counts in let fewer = opens.fewer in omega (arith, was, fewer);
        links = on.links;
        small = on.small;
        guided = on.guided;
      };
      same = quest-same (leg_of terrain after) (leg_of terrain opening) (used_of after) (used_of opening) aim.limit aim.runs
          opens.leg opens.used;
    }

    -- and counts one
    pub opens-steps : (quota : ℕ) → 1 ≤ quota →
        CountsLegStep (length terrain.map.links) quota before-open (record { counted = 1; turn = More next-open })
    opens-steps quota some = record {
      goes = record {
        fits = some;
        next = refl;
        nearer = omega arith;
      };
      within = let was = on.counts in omega (arith, was);
    }

  module _ (kept : Rested) (opened : IsOpened terrain opening kept) (search : Search Carry)
      (of : IsSearchOf (searched aim.runs (task_of terrain kept)) search) (none : length (view search).settled ≡ 0)
      (limited : IsLimited aim (view search).limit) where
    abbrev pub next-settling : LegSearch
    next-settling = record { stage = Settling kept search; aim = counting aim 1 }

    -- at its end labels are settled for the same quest
    pub settles-as : GoesOnAs terrain (quest_at terrain aim (Opening opening)) next-settling
    settles-as = record {
      on = record {
        stage = record {
          wakes = opened.wakes;
          differ = legs-differ (task_of terrain kept).leg (leg_of terrain opening) opened.leg on.stage.differ;
          of = of;
          few = limited.few;
          limit = limited.all;
          whole = λ later. opened.whole (on.stage.whole later);
          within = limited.within;
        };
        counts = let was = on.counts in omega (arith, was, none);
        links = on.links;
        small = on.small;
        guided = on.guided;
      };
      same = quest-same (task_of terrain kept).leg (leg_of terrain opening) (task_of terrain kept).used (used_of opening) aim.limit
          aim.runs opened.leg opened.used;
    }

    pub settles-steps : (quota : ℕ) → 1 ≤ quota →
        CountsLegStep (length terrain.map.links) quota before-open (record { counted = 1; turn = More next-settling })
    settles-steps quota some = record {
      goes = record {
        fits = some;
        next = refl;
        nearer = let less = stages-fall aim.first opening kept search in omega (arith, less);
      };
      within = let was = on.counts in omega (arith, was);
    }
