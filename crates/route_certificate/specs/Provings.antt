-- The search for the walk of a leg with what shows it least, at rest, and what its turns answer. This project's own
-- rule.
use Rattle.std.specs.Prelude.{ℕ, ◌≡◌, ◌≢◌, ◌+◌, ◌-◌, ◌<◌, ◌≤◌, ◌^◌, false, length, None}
use Rattle.bike_space.specs.Kept.{Wakes, task_of}
use Rattle.bike_space.specs.Openings.{IsOpening, left_of, leg_of, near_of, used_of}
use Rattle.bike_space.specs.Tasks.{rules_of}
use Rattle.bike_space.specs.declared.opening.Opening.{Opening as Opened}
use Rattle.bike_space.specs.declared.rested.Rested.{Rested}
use Rattle.certificate_text.specs.declared.certificate.LowerBound.{LowerBound}
use Rattle.certificate_text.specs.declared.certificate.LowerBound.TheVariants.{Least}
use Rattle.cost_model.specs.Rides.{Leg, Terrain}
use Rattle.cost_model.specs.declared.parts.Carry.{Carry}
use Rattle.item_list.specs.Turns.{Says, Settles}
use Rattle.least_sums.specs.Findings.{most_found}
use Rattle.space_search.specs.Searches.{IsSearchOf}
use Rattle.space_search.specs.View.{view}
use Rattle.space_search.specs.declared.search.Search.{Search}
use Rattle.route_certificate.specs.Certified.{IsShown, IsWritable}
use Rattle.route_certificate.specs.Legs.{AreRests}
use Rattle.route_certificate.specs.declared.proving.Proving.{Proving}
use Rattle.route_certificate.specs.declared.proving.ProvingTurn.{ProvingTurn}
use Rattle.route_certificate.specs.declared.proving.Stage.{Stage}
use Rattle.route_certificate.specs.declared.proving.Stage.TheVariants.{Home, Opening, Settling}

-- ---- What it is

-- what still has to be paid on this leg, whose nodes differ, is being found for all nodes, where no segment is used
pub record IsOpeningFor (terrain : Terrain) (bound : LowerBound) (leg : Leg) (opening : Opened) : Type 0 where
  pub opens : IsOpening terrain opening
  pub is : leg_of terrain opening ≡ leg
  pub unused : (link : ℕ) → used_of opening link ≡ false
  pub near : near_of opening ≡ None
  pub least : bound ≡ Least
  pub differ : leg.start ≢ leg.target

-- it is a search on this leg, whose nodes differ, by a lower bound and with so many labels at most, in which no
-- segment is used
pub record IsSettlingFor (terrain : Terrain) (bound : LowerBound) (leg : Leg) (limit : ℕ) (kept : Rested)
    (search : Search Carry) : Type 0 where
  pub wakes : Wakes terrain kept
  pub is : (task_of terrain kept).leg ≡ leg
  pub unused : (link : ℕ) → (task_of terrain kept).used link ≡ false
  pub rests : AreRests bound leg (task_of terrain kept).low
  pub differ : leg.start ≢ leg.target
  pub of : IsSearchOf (rules_of (task_of terrain kept)) search
  pub limited : (view search).limit ≡ limit

-- how far the search on a leg is; where the leg's nodes are one nothing is searched
abbrev pub IsStageFor : (terrain : Terrain) (bound : LowerBound) (leg : Leg) (limit : ℕ) → Stage → Type 0
IsStageFor terrain bound leg limit Home = leg.start ≡ leg.target
IsStageFor terrain bound leg limit (Opening opening) = IsOpeningFor terrain bound leg opening
IsStageFor terrain bound leg limit (Settling kept search) = IsSettlingFor terrain bound leg limit kept search

-- ---- What it counts

-- what it has counted: the labels that it settled, and its steps of finding what still has to be paid
abbrev pub counted_of : Proving → ℕ
counted_of proving = proving.counted

-- the most that a search with so many labels counts in all on a map of so many links
abbrev pub most_proved : (links limit : ℕ) → ℕ
most_proved links limit = most_found links + limit

-- what may still be counted, by its stage
abbrev pub counted_yet : (limit : ℕ) → Stage → ℕ
counted_yet limit Home = 0
counted_yet limit (Opening opening) = left_of opening + limit
counted_yet limit (Settling kept search) = limit - length (view search).settled

-- the search on a leg, by a lower bound and with so many labels at most
pub record IsProvingFor (terrain : Terrain) (bound : LowerBound) (leg : Leg) (limit : ℕ) (proving : Proving) : Type 0 where
  pub stage : IsStageFor terrain bound leg limit proving.stage
  pub limited : proving.limit ≡ limit
  pub small : limit < 2 ^ 32
  pub counts : proving.counted + counted_yet limit proving.stage ≤ most_proved (length terrain.map.links) limit
  pub links : length terrain.map.links < 2 ^ 32

-- ---- What a turn answers

-- how often it still changes what it does
abbrev pub stages_left : Stage → ℕ
stages_left Home = 0
stages_left (Opening opening) = 1
stages_left (Settling kept search) = 0

-- a step that goes on counts no more than its quota; where it counts nothing, the search changes what it does
pub record ProvesOn (quota counted : ℕ) (before after : Proving) : Type 0 where
  pub fits : counted ≤ quota
  pub next : counted_of after ≡ counted_of before + counted
  pub nearer : stages_left after.stage < stages_left before.stage + counted

-- a step says that the search goes on, or that the leg is shown a least walk, which may be written, or has none, or
-- that the limit is spent on it; where it ends it counts less than its quota
pub record StepsProving (terrain : Terrain) (bound : LowerBound) (leg : Leg) (limit quota : ℕ) (before : Proving)
    (turn : ProvingTurn) : Type 0 where
  pub answers : Says (IsProvingFor terrain bound leg limit) (IsShown bound leg limit) turn.turn
  pub fits : Says (λ _. Unit {0}) (IsWritable terrain.map) turn.turn
  pub goes : Says (ProvesOn quota turn.counted before) (λ _. turn.counted < quota) turn.turn
  pub within : counted_of before + turn.counted ≤ most_proved (length terrain.map.links) limit

-- the same of a turn: where the search goes on it counted the whole quota, else less; in all no more than a search
-- with so many labels counts on the map
pub record TurnsProving (terrain : Terrain) (bound : LowerBound) (leg : Leg) (limit quota before : ℕ)
    (turn : ProvingTurn) : Type 0 where
  pub answers : Says (IsProvingFor terrain bound leg limit) (IsShown bound leg limit) turn.turn
  pub fits : Says (λ _. Unit {0}) (IsWritable terrain.map) turn.turn
  pub settles : Settles quota turn.counted turn.turn
  pub next : Says (λ proving. counted_of proving ≡ before + turn.counted) (λ _. Unit {0}) turn.turn
  pub within : before + turn.counted ≤ most_proved (length terrain.map.links) limit
