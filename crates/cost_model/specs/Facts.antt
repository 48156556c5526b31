-- What is known of a link before a walk takes it (this project's own rule).
use Rattle.std.specs.Prelude.{ℕ, ℤ, pos, ◌≤ℤ◌, ◌≤◌, ◌<◌, unsigned_abs}
use Rattle.geo_int.specs.Arrow.{IsArrow}
use Rattle.cost_model.specs.declared.facts.LinkFacts.{LinkFacts}

-- a cost in millionths, from 0 to 10^15
pub record IsCost (n : ℤ) : Type 0 where
  pub low : pos 0 ≤ℤ n
  pub high : n ≤ℤ pos 1000000000000000

-- the bounds on the facts of a link: an arrow as places give it, a rise within a hundred kilometres, and
-- costs; the classifier alone may be negative
pub record AreFacts (facts : LinkFacts) : Type 0 where
  pub arrow : IsArrow facts.arrow
  pub rise : unsigned_abs facts.rise ≤ 100000000000
  pub costfactor : IsCost facts.costfactor
  pub turncost : IsCost facts.turncost
  pub initialcost : IsCost facts.initialcost
  pub classifier : unsigned_abs facts.classifier ≤ 1000000000000000
  pub charge : IsCost facts.charge
  pub upfactor : IsCost facts.upfactor
  pub downfactor : IsCost facts.downfactor

-- how many links there are, and the facts of each by its number
pub record Links : Type 0 where
  pub count : ℕ
  pub facts : ℕ → LinkFacts

-- the facts of every link keep the bounds
abbrev pub AreLinks : Links → Type 0
AreLinks links = (link : ℕ) → link < links.count → AreFacts (links.facts link)
