-- A finding of least sums that goes on in steps: what it looks for, and what a step of it comes to (this project's
-- own rule).
use Rattle.std.specs.Prelude.{◌≡◌, ℕ, suc, ◌/◌, ◌<◌, Option, None, option_map}
use Rattle.overpass_graph.specs.Roads.{Roads}
use Rattle.least_sums.specs.Prices.{Prices}
use Rattle.least_sums.specs.States.{State, IsEnded, IsOpen, state_of, work}
use Rattle.least_sums.specs.Sums.{AreBelow, AreLeastSumsUpTo, NodeSums}
use Rattle.least_sums.specs.declared.amount.TheConstants.{NARROW_FAR, WIDE_FAR}
use Rattle.least_sums.specs.declared.finding.Boards.{Boards}
use Rattle.least_sums.specs.declared.finding.Boards.TheVariants.{Narrow, Wide}
use Rattle.least_sums.specs.declared.finding.Course.{Course}
use Rattle.least_sums.specs.declared.finding.Finding.{Finding}
use Rattle.least_sums.specs.declared.near.Near.{Near}
use Rattle.least_sums.specs.declared.taking.Taken.{Taken}
use Rattle.least_sums.specs.declared.taking.Taken.TheVariants.{More, Ended}

-- ---- Entries are taken

-- where the nodes near the target aren't looked for alone, no radius ends the finding
abbrev pub EndsWhole : {A : Type 0} → Option Near → Option A → Type 0
EndsWhole near end = near ≡ None → end ≡ None

-- what taking entries came to: the finding goes on with less to do, or it is at its end
abbrev pub Takes :
    {N : Type 0} (roads : Roads) (prices : Prices) (target far : ℕ) (number : N → ℕ) (near : Option Near) (old new : State) →
    Taken N → Type 0
Takes roads prices target far number near old new (More next) =
    IsOpen roads prices target far new × (work new < work old) × EndsWhole near next
Takes roads prices target far number near old new (Ended radius) =
    IsEnded roads prices target far (option_map number radius) new × EndsWhole near radius

-- ---- A finding

-- its boards are those of a finding that goes on; by wide numbers all sums are looked for
abbrev pub AreOpen : (roads : Roads) (prices : Prices) (target : ℕ) (near : Option Near) → Boards → Type 0
AreOpen roads prices target near (Narrow board) = IsOpen roads prices target NARROW_FAR (state_of (λ n. n) board)
AreOpen roads prices target near (Wide board) =
    IsOpen roads prices target WIDE_FAR (state_of (λ n. n) board) × (near ≡ None)

-- a finding over a map and prices
pub record IsFinding (roads : Roads) (prices : Prices) (finding : Finding) : Type 0 where
  pub within : finding.course.target < roads.nodes
  pub «open» : AreOpen roads prices finding.course.target finding.course.near finding.boards

-- how many steps a finding takes at most, the last one among them
abbrev pub steps_left : Finding → ℕ
steps_left finding = suc finding.course.left

-- how many that is when it begins on a map of so many links
abbrev pub most_found : ℕ → ℕ
most_found links = suc (links / 8)

-- a step of a finding of this course goes on with the same, of which less is left; where all sums are looked for,
-- they still are
pub record FindsOn (roads : Roads) (prices : Prices) (course : Course) (after : Finding) : Type 0 where
  pub finds : IsFinding roads prices after
  pub target : after.course.target ≡ course.target
  pub all : EndsWhole course.near after.course.near
  pub fewer : after.course.left < course.left

-- what a finding of this course ends with: the least sums up to a radius; where all are looked for there is none
pub record IsFoundBy (roads : Roads) (prices : Prices) (course : Course) (found : NodeSums) : Type 0 where
  pub exact : AreLeastSumsUpTo roads prices course.target found
  pub small : AreBelow found.sums
  pub whole : EndsWhole course.near found.radius
