-- A profile that is being made ready in turns: its links are bound, and then compared (this project's own rule).
use Rattle.std.specs.Prelude.{◌≡◌, ◌⊎◌, ◌<◌, ◌≤◌, ◌+◌, ◌-◌, ◌/◌, ℕ, suc, length, IfOk, None, Result, Ok, Err, MatchResult}
use Rattle.cost_model.specs.Modes.{modes_before}
use Rattle.route_ready.specs.Readiness.{Readies, Terms}
use Rattle.route_ready.specs.Refusals.{bind_error}
use Rattle.route_ready.specs.Worlds.{WorldValue}
use Rattle.route_ready.specs.declared.comparing.Comparing.{Comparing}
use Rattle.route_ready.specs.declared.error.RouteError.{RouteError}
use Rattle.route_ready.specs.declared.error.RouteError.TheVariants.{NoMemory}
use Rattle.route_ready.specs.declared.linking.KeptTerms.{KeptTerms}
use Rattle.route_ready.specs.declared.linking.Linking.{Linking}
use Rattle.route_ready.specs.declared.ready.Ready.{Ready}
use Rattle.tasks.specs.Chains.{AreOver, answers_in, left_in}
use Rattle.tasks.specs.declared.chain.Chain.{Chain}
use Rattle.way_class.specs.Facts.{Binding}
use Rattle.way_class.specs.Links.{links_of}
use Rattle.way_class.specs.Stages.{IsUnderWay, MayEnd, most_work, work_left}
use Rattle.way_class.specs.declared.bound.Bound.{Bound}
use Rattle.way_class.specs.declared.error.BindError.{BindError}

-- ---- The links are bound

-- a profile's links are being bound in a world
abbrev pub IsLinking : WorldValue → Linking → Type 0
IsLinking world l =
    IsUnderWay l.code world.table world.map world.tiles l.binder

-- what binding may end with
abbrev pub LinkingEnds : WorldValue → Linking → Result Bound BindError → Type 0
LinkingEnds world l end =
    MayEnd l.code world.table world.map world.tiles l.binder end

-- how much it may still spend
abbrev pub linking_left : WorldValue → Linking → ℕ
linking_left world l = work_left world.map l.binder

-- ---- The modes of their facts are found

-- the modes are those by the links before the next one
pub record IsComparing (c : Comparing) : Type 0 where
  pub within : c.link ≤ (links_of c.bound.value).count
  pub modes_are : c.modes ≡ modes_before (links_of c.bound.value).facts c.link

-- how many links are left
abbrev pub comparing_left : Comparing → ℕ
comparing_left c = (links_of c.bound.value).count - c.link

-- a profile is ready by what was bound and by the terms that were kept, without a guide
pub record IsMade (bound : Bound) (kept : KeptTerms) (ready : Ready) : Type 0 where
  pub bound_is : ready.bound.value ≡ bound
  pub rates_are : ready.rates ≡ kept.rates
  pub turns_are : ready.turns ≡ kept.turns
  pub bare : ready.guide ≡ None

-- it ends so, or in want of memory
abbrev pub EndsMade : Bound → KeptTerms → Result Ready RouteError → Type 0
EndsMade bound kept end = MatchResult end (IsMade bound kept) (λ e. e ≡ NoMemory)

-- ---- One after the other

-- what was bound has the facts of all links of a world
abbrev pub HasAllLinks : WorldValue → Result Bound BindError → Type 0
HasAllLinks world given = IfOk given (λ bound. (links_of bound).count ≡ length world.map.links)

-- what follows where binding ended so: a profile that is ready, or the refusal
abbrev pub FollowsBinding : KeptTerms → Result Bound BindError → Result Ready RouteError → Type 0
FollowsBinding kept (Ok bound) end = EndsMade bound kept end
FollowsBinding kept (Err e) end = end ≡ Err (bind_error e)

-- a profile is being made ready for a world
abbrev pub IsPreparing : WorldValue → Chain Linking Comparing KeptTerms → Type 0
IsPreparing world p = AreOver (IsLinking world) IsComparing (LinkingEnds world) (λ kept. HasAllLinks world) p

-- what making it ready may end with
abbrev pub PreparingEnds : WorldValue → Chain Linking Comparing KeptTerms → Result Ready RouteError → Type 0
PreparingEnds world p end =
    answers_in (LinkingEnds world) (λ c. EndsMade c.bound.value c.terms) FollowsBinding p end

-- how many turns of a budget are left
abbrev pub preparing_left : WorldValue → (budget : ℕ) → Chain Linking Comparing KeptTerms → ℕ
preparing_left world budget p =
    left_in (λ l. linking_left world l / budget) (λ c. comparing_left c / budget)
    (λ kept. length world.map.links / budget) p

-- how many a profile takes at most, whatever it is
abbrev pub most_turns : WorldValue → (budget : ℕ) → ℕ
most_turns world budget =
    suc (most_work world.map / budget + length world.map.links / budget)

-- making it ready began: it goes on over the world, for no more turns than a profile takes at most, and all that it
-- may end with are these terms, the refusal, or want of memory
pub record IsBegun (world : WorldValue) (binding : Binding) (terms : Result Terms RouteError)
    (p : Chain Linking Comparing KeptTerms) : Type 0 where
  pub over : IsPreparing world p
  pub ends : (end : Result Ready RouteError) → PreparingEnds world p end → Readies binding terms end
  pub most : (budget : ℕ) → 0 < budget → preparing_left world budget p ≤ most_turns world budget

-- making it ready begins so, gives the refusal, or reports want of memory
abbrev pub Begins :
    WorldValue → Binding → Result Terms RouteError → Result (Chain Linking Comparing KeptTerms) RouteError → Type 0
Begins world binding terms result =
    MatchResult result (IsBegun world binding terms) (λ e. (e ≡ NoMemory) ⊎ (terms ≡ Err e))
