-- What a search on a leg looks for, and what its turns answer, in the words of walks (this project's own
-- rule).
use Rattle.std.specs.Prelude.{◌≡◌, ◌≢◌, ℕ, ◌+◌, ◌-◌, ◌*◌, ◌<◌, ◌≤◌, ◌^◌, Bool, true, false, IsTrue, if◌then◌else◌, List, length, None}
use Rattle.bike_space.specs.Answers.{IsFound}
use Rattle.bike_space.specs.Kept.{Wakes, task_of}
use Rattle.cost_model.specs.Rides.{Terrain, Leg}
use Rattle.bike_space.specs.LegWalks.{HasNoWalk}
use Rattle.bike_space.specs.Openings.{IsOpening, left_of, leg_of, near_of, used_of}
use Rattle.bike_space.specs.Spent.{IsSpentBounded, nth_walk}
use Rattle.bike_space.specs.Tasks.{Task, rules_of}
use Rattle.bike_space.specs.declared.finding.Walk.{Walk}
use Rattle.bike_space.specs.declared.opening.Opening.{Opening as Opened}
use Rattle.bike_space.specs.declared.rested.Rested.{Rested}
use Rattle.cost_model.specs.declared.parts.Carry.{Carry}
use Rattle.item_list.specs.Turns.{Says, Settles}
use Rattle.junction_runs.specs.LegRuns.{IsListOfRuns}
use Rattle.junction_runs.specs.RunRules.{run_rules}
use Rattle.space_search.specs.Ends.{Ends}
use Rattle.space_search.specs.Rules.{Rules}
use Rattle.space_search.specs.Searches.{IsSearchOf}
use Rattle.space_search.specs.View.{view}
use Rattle.space_search.specs.declared.outcome.Outcome.{Outcome}
use Rattle.space_search.specs.declared.search.Search.{Search}
use Rattle.least_sums.specs.Findings.{most_found}
use Rattle.guided_space.specs.Guided.{IsGuidedTo, guided_task}
use Rattle.ride_bounds.specs.Guides.{IsGuided}
use Rattle.leg_search.specs.declared.search.Aim.{Aim}
use Rattle.leg_search.specs.declared.search.Guiding.{Guiding}
use Rattle.leg_search.specs.declared.search.LegSearch.{LegSearch}
use Rattle.leg_search.specs.declared.search.Stage.{Stage}
use Rattle.leg_search.specs.declared.search.Stage.TheVariants.{Opening, Settling, Guided}
use Rattle.leg_search.specs.declared.search.TheConstants.{FIRST_LABELS}
use Rattle.leg_search.specs.declared.turn.LegTurn.{LegTurn}

-- ---- What is looked for

-- a quest: a leg, the links whose segments were used, the most labels that are settled, and whether the
-- search goes from junction to junction
pub record Quest : Type 0 where
  pub leg : Leg
  pub used : ℕ → Bool
  pub limit : ℕ
  pub runs : Bool

-- a walk of the leg of least rank, with its rank, which is below 2^120; and by junction runs a list of whole
-- runs
pub record IsFoundFor (quest : Quest) (walk : Walk) : Type 0 where
  pub found : IsFound quest.leg quest.used walk
  pub runs : IsTrue quest.runs → IsListOfRuns quest.leg walk.links

-- the evidence of a spent limit; by junction runs each of its walks is a list of whole runs
pub record IsSpentFor (quest : Quest) (walks : List (List ℕ)) : Type 0 where
  pub spent : IsSpentBounded quest.leg quest.used quest.limit walks
  pub runs : IsTrue quest.runs → (k : ℕ) → k < length walks → IsListOfRuns quest.leg (nth_walk walks k)

-- ---- What a search stands for

-- the most labels that a search settles before it begins anew
abbrev pub first_labels : ℕ
first_labels = FIRST_LABELS

-- the space that is searched
abbrev pub searched : Bool → Task → Rules Carry
searched runs task = if runs then run_rules (rules_of task) else rules_of task

-- what a search on the leg of a task looks for, with so many labels at most
abbrev pub quest_in : (task : Task) (limit : ℕ) (runs : Bool) → Quest
quest_in task limit runs = record { leg = task.leg; used = task.used; limit = limit; runs = runs }

-- what a search on a leg looks for on a terrain, by its stage
abbrev pub quest_at : Terrain → Aim → Stage → Quest
quest_at terrain aim (Opening opening) = record {
  leg = leg_of terrain opening;
  used = used_of opening;
  limit = aim.limit;
  runs = aim.runs;
}
quest_at terrain aim (Settling kept search) = quest_in (task_of terrain kept) aim.limit aim.runs
quest_at terrain aim (Guided it) = quest_in (task_of terrain it.kept) aim.limit aim.runs

abbrev pub quest_of : Terrain → LegSearch → Quest
quest_of terrain s = quest_at terrain s.aim s.stage

-- ---- What it counts

-- what it has counted: the labels that it settled, and its steps of finding what still has to be paid
abbrev pub counted_of : LegSearch → ℕ
counted_of s = s.aim.counted

-- the most that a search with so many labels counts in all on a map of so many links: what still has to be paid is
-- found twice at most, and labels are settled near the target, by the bound of a guide, and by what was found for all
-- nodes
abbrev pub most_counted : (links limit : ℕ) → ℕ
most_counted links limit = 2 * most_found links + (first_labels + 2 * limit)

-- the most labels that are settled before it begins anew, or behind that
abbrev pub most_labels : Bool → ℕ → ℕ
most_labels true limit = first_labels
most_labels false limit = limit

-- what is counted at most behind the stage in which it is: before it begins anew, by the bound of a guide, or with what
-- was found for all nodes
abbrev pub counted_anew : Bool → (links limit : ℕ) → Stage → ℕ
counted_anew first links limit (Opening opening) = if first then limit + (most_found links + limit) else 0
counted_anew first links limit (Settling kept search) = if first then limit + (most_found links + limit) else 0
counted_anew first links limit (Guided it) = most_found links + limit

-- what is counted at most before it begins anew, or behind that, by its stage
abbrev pub counted_yet : (labels : ℕ) → Stage → ℕ
counted_yet labels (Opening opening) = left_of opening + labels
counted_yet labels (Settling kept search) = labels - length (view search).settled
counted_yet labels (Guided it) = labels - length (view it.search).settled

-- it has counted so little that with what may follow it stays within the most
abbrev pub CountsWithin : ℕ → LegSearch → Type 0
CountsWithin links s =
    s.aim.counted + counted_yet (most_labels s.aim.first s.aim.limit) s.stage + counted_anew s.aim.first links s.aim.limit s.stage
    ≤ most_counted links s.aim.limit

-- ---- What it is

-- what still has to be paid is being found; once the search has begun anew, for all nodes
pub record IsOpeningOn (terrain : Terrain) (aim : Aim) (opening : Opened) : Type 0 where
  pub opens : IsOpening terrain opening
  pub differ : opening.asked.start ≢ opening.asked.target
  pub whole : aim.first ≡ false → near_of opening ≡ None

-- labels are settled: before it begins anew few; after that as many as the quest says, and what still has to be
-- paid was found for all nodes
pub record IsSettling (terrain : Terrain) (aim : Aim) (kept : Rested) (search : Search Carry) : Type 0 where
  pub wakes : Wakes terrain kept
  pub differ : kept.start ≢ kept.target
  pub of : IsSearchOf (searched aim.runs (task_of terrain kept)) search
  pub few : aim.first ≡ true → (view search).limit ≤ FIRST_LABELS
  pub limit : aim.first ≡ false → (view search).limit ≡ aim.limit
  pub whole : aim.first ≡ false → (task_of terrain kept).radius ≡ None
  pub within : (view search).limit ≤ aim.limit

-- labels are settled by the bound of a guide, as many as the quest says; the search has begun anew
pub record IsGuiding (terrain : Terrain) (aim : Aim) (it : Guiding) : Type 0 where
  pub wakes : Wakes terrain it.kept
  pub differ : it.kept.start ≢ it.kept.target
  pub of : IsSearchOf (searched aim.runs (guided_task terrain it.kept it.guide.value)) it.search
  pub bounds : IsGuidedTo terrain it.guide.value it.kept.target it.bound
  pub limit : (view it.search).limit ≡ aim.limit
  pub later : aim.first ≡ false

abbrev pub IsStage : Terrain → Aim → Stage → Type 0
IsStage terrain aim (Opening opening) = IsOpeningOn terrain aim opening
IsStage terrain aim (Settling kept search) = IsSettling terrain aim kept search
IsStage terrain aim (Guided it) = IsGuiding terrain aim it

-- it is a search on a leg over these, whose nodes differ
pub record IsSearchOn (terrain : Terrain) (s : LegSearch) : Type 0 where
  pub stage : IsStage terrain s.aim s.stage
  pub counts : CountsWithin (length terrain.map.links) s
  pub links : length terrain.map.links < 2 ^ 32
  pub small : s.aim.limit < 2 ^ 32
  pub guided : IsGuided terrain s.aim.guide

-- ---- What a turn answers

-- the search goes on with the same quest
pub record GoesOnAs (terrain : Terrain) (quest : Quest) (next : LegSearch) :
    Type 0 where
  pub on : IsSearchOn terrain next
  pub same : quest_of terrain next ≡ quest

-- a walk of least rank was found; or the leg has no walk; or the limit is spent, with its evidence
abbrev pub AnswersQuest : Quest → Outcome Walk → Type 0
AnswersQuest quest =
    Ends (IsFoundFor quest) (HasNoWalk quest.leg) ((walks : List (List ℕ)) × IsSpentFor quest walks)

-- what the answer of a turn says: that the search goes on, or how it ended
abbrev pub AnswersLegTurn : (terrain : Terrain) (quest : Quest) → LegTurn →
    Type 0
AnswersLegTurn terrain quest turn =
    Says (GoesOnAs terrain quest) (AnswersQuest quest) turn.turn

-- what a turn counted, by what was counted before it: the whole quota where the search goes on, and else less; in
-- all no more than a search with so many labels counts on a map of so many links
pub record CountsLegTurn (links quota before limit : ℕ) (turn : LegTurn) : Type 0 where
  pub settles : Settles quota turn.counted turn.turn
  pub next : Says (λ next. counted_of next ≡ before + turn.counted) (λ _. Unit {0}) turn.turn
  pub within : before + turn.counted ≤ most_counted links limit
