-- Why no run that reaches a goal costs less than what waits ranks: runs go along settled labels until they
-- wait, and what waits can't reach a goal below its rank.
use Rattle.std.proofs.Common.{◌≡◌, ℕ, ◌<◌, ◌≤◌, ◌+◌, List, [], ◌∷◌, Some, None, true, refl, arith, sym, ◌∙◌, subst}
use Rattle.std.specs.Bool.{IsTrue}
use Rattle.std.specs.List.{Contains}
use Rattle.space_search.specs.Books.{Books, IsSettled, Waits, by_label, by_queue, by_bound, IsSearch, IsClosed}
use Rattle.space_search.specs.Queues.{Entry}
use Rattle.space_search.specs.Laws.{IsSpace, HasRank}
use Rattle.space_search.specs.Rules.{Rules}
use Rattle.space_search.specs.Runs.{Walks, rests, steps, IsRun, starts, Reaches, IsUnreachable}
use Rattle.space_search.specs.declared.label.Label.{Label}
use Rattle.item_list.proofs.ListLemmas.{slice_get-same, Contains-none}
use Rattle.space_search.proofs.SameLemmas.{settled-within}

-- a walk without steps stays
walks-none :
    {S : Type 0} (rules : Rules S) {state end : S} {cost total : ℕ} →
    Walks rules state cost [] end total → state ≡ end
walks-none rules rests = refl

-- the first step of a walk, and the walk from there
record FirstStep {S : Type 0} (rules : Rules S) (state : S) (cost number : ℕ) (numbers : List ℕ) (end : S) (total : ℕ) : Type 0 where
  next : S
  more : ℕ
  within : number < rules.steps state
  is : rules.step state number ≡ Some (next, more)
  rest : Walks rules next (cost + more) numbers end total

-- a walk with steps has a first one
walks-first :
    {S : Type 0} (rules : Rules S) {state end : S} {cost total number : ℕ} {numbers : List ℕ} →
    Walks rules state cost (number ∷ numbers) end total → FirstStep rules state cost number numbers end total
walks-first rules (steps {next = next} {more = more} within is rest) =
    record { next = next; more = more; within = within; is = is; rest = rest }

module _ {S : Type 0} (rules : Rules S) (laws : IsSpace rules) where
  -- from a state a goal is reached at no less than the state's rank
  pub rank-below :
      {state end : S} {cost total : ℕ} {numbers : List ℕ} →
      IsTrue (rules.is_valid state) → (low : ℕ) → rules.low state ≡ Some low →
      Walks rules state cost numbers end total → IsTrue (rules.is_goal end) → cost + low ≤ total
  rank-below {state = state} valid low is rests goal =
      let zero_low : rules.low state ≡ Some 0 = laws.bound.goal state valid goal in
      let one : Some low ≡ Some 0 = sym is ∙ zero_low in
      let none : low ≡ 0 = cc in
      omega arith
  rank-below valid low is
      (steps {state = state} {next = next} {end = end} {cost = cost} {more = more} {total = total} {number = number} {numbers = numbers}
      within step rest) goal =
      let valid_next : IsTrue (rules.is_valid next) = (laws.moves.steps state number next more valid within step).valid in
      elim (rules.low next) as (λ r. rules.low next ≡ r → cost + low ≤ total) [
        | None ↦ λ none. absurd (laws.bound.hopeless next end (cost + more) total numbers valid_next none rest goal)
        | Some after ↦ λ some.
            let then : low ≤ more + after = laws.bound.step state number next more low after valid within step is some in
            let below : cost + more + after ≤ total = rank-below valid_next after some rest goal in
            omega arith
      ] refl

  -- where a walk over valid states ends is valid
  pub walks-valid :
      {state end : S} {cost total : ℕ} {numbers : List ℕ} →
      IsTrue (rules.is_valid state) → Walks rules state cost numbers end total → IsTrue (rules.is_valid end)
  walks-valid valid rests = valid
  walks-valid valid (steps within is more) = walks-valid (laws.moves.steps _ _ _ _ valid within is).valid more

  -- the walk of a covering state that goes along with a walk of the covered one
  pub record Along (state : S) (cost : ℕ) (numbers : List ℕ) (total : ℕ) : Type 0 where
    pub end : S
    pub sum : ℕ
    pub walk : Walks rules state cost numbers end sum
    pub goal : IsTrue (rules.is_goal end)
    pub cheaper : sum ≤ total

  -- the step of a covering state that goes along with a step of the covered one
  pub record CoversStep (a : S) (ca number : ℕ) (next : S) (total : ℕ) : Type 0 where
    pub state : S
    pub cost : ℕ
    pub is : rules.step a number ≡ Some (state, cost)
    pub covers : IsTrue (rules.covers state (ca + cost) next total)

  -- each step of the covered state goes along with one of the covering
  pub step-along :
      (a b : S) (ca cb : ℕ) → IsTrue (rules.is_valid a) → IsTrue (rules.is_valid b) → IsTrue (rules.covers a ca b cb) →
      (number : ℕ) (next : S) (cost : ℕ) → number < rules.steps b → rules.step b number ≡ Some (next, cost) →
      CoversStep a ca number next (cb + cost)
  step-along a b ca cb va vb h number next cost below is =
      elim (rules.step a number) as (λ r. rules.step a number ≡ r → CoversStep a ca number next (cb + cost)) [
        | None ↦ λ none.
            let same = laws.alike.permitted a b ca cb va vb h number below in
            let never : ⊥ = cc in
            absurd never
        | Some found ↦ λ some.
            record {
              state = found.0;
              cost = found.1;
              is = some;
              covers = laws.kept a b ca cb va vb h number below found.0 next found.1 cost some is;
            }
      ] refl

  -- and so does each walk to a goal
  pub along :
      {state end : S} {cost total : ℕ} {numbers : List ℕ} →
      (over : S) (price : ℕ) → IsTrue (rules.is_valid over) → IsTrue (rules.is_valid state) →
      IsTrue (rules.covers over price state cost) →
      Walks rules state cost numbers end total → IsTrue (rules.is_goal end) → Along over price numbers total
  along {state = state} {cost = cost} over price valid_over valid covers rests goal =
      record {
        end = over;
        sum = price;
        walk = rests;
        goal = laws.alike.goal over state price cost valid_over valid covers ∙ goal;
        cheaper = laws.covering.cheaper over state price cost valid_over valid covers;
      }
  along over price valid_over valid covers
      (steps {state = state} {next = next} {cost = cost} {more = more} {number = number} within is rest) goal =
      let same : rules.steps over ≡ rules.steps state = laws.alike.steps over state price cost valid_over valid covers in
      let c : CoversStep over price number next (cost + more) =
      step-along over state price cost valid_over valid covers number next more within is in
      let inside : number < rules.steps over = omega (arith, same) in
      let valid_next : IsTrue (rules.is_valid next) = (laws.moves.steps state number next more valid within is).valid in
      let valid_c : IsTrue (rules.is_valid c.state) = (laws.moves.steps over number c.state c.cost valid_over inside c.is).valid in
      let a : Along c.state (price + c.cost) _ _ = along c.state (price + c.cost) valid_c valid_next c.covers rest goal in
      record { end = a.end; sum = a.sum; walk = steps inside c.is a.walk; goal = a.goal; cheaper = a.cheaper }

module _ {S : Type 0} (rules : Rules S) (laws : IsSpace rules) (kept : Books S)
    (search : IsSearch rules kept) (closed : IsClosed rules kept)
    (least : ℕ) (low : (entry : Entry) → Contains kept.queue entry → least ≤ entry.0.0) where
  -- the state of a settled label is valid
  settled-valid : (place : ℕ) (label : Label S) → IsSettled kept place label → IsTrue (rules.is_valid label.state)
  settled-valid place label s = (search.stands.reads.settled_follows place label s).valid

  -- what waits ranks at least as high as the least entry
  pub waits-high : (state : S) (cost : ℕ) → Waits kept state cost → (rank : ℕ) × HasRank rules state cost rank × (least ≤ rank)
  waits-high state cost w =
      let q = search.queued w.entry w.queued in
      let same : q.0 ≡ w.label = slice_get-same kept.labels w.entry.0.1 q.0 w.label q.1 w.there in
      let mine : HasRank rules w.label.state w.label.cost w.entry.0.0 =
      subst (λ (k : Label S). HasRank rules k.state k.cost w.entry.0.0) same q.2 in
      let at_state : HasRank rules state w.label.cost w.entry.0.0 =
      subst (λ s. HasRank rules s w.label.cost w.entry.0.0) w.state_is mine in (
        w.entry.0.0,
        subst (λ c. HasRank rules state c w.entry.0.0) w.cost_is at_state,
        low w.entry w.queued,
      )

  -- from what is taken care of no goal is reached below the least entry
  waits-below :
      (state end : S) (cost total : ℕ) (numbers : List ℕ) → IsTrue (rules.is_valid state) → Waits kept state cost →
      Walks rules state cost numbers end total → IsTrue (rules.is_goal end) → least ≤ total
  waits-below state end cost total numbers valid w walk goal =
      let h = waits-high state cost w in
      let r : HasRank rules state cost h.0 = h.1 in
      let below : cost + r.low ≤ total = rank-below rules laws valid r.low r.is walk goal in
      omega (arith, h.2, r.sum)

  -- from a settled label no goal is reached below the least entry
  settled-below :
      (numbers : List ℕ) (place : ℕ) (label : Label S) (end : S) (total : ℕ) → IsSettled kept place label →
      Walks rules label.state label.cost numbers end total → IsTrue (rules.is_goal end) → least ≤ total
  settled-below [] place label end total s walk goal =
      let none = search.stands.no_goal place label s in
      let same : label.state ≡ end = walks-none rules walk in
      let some : rules.is_goal label.state ≡ true = subst (λ t. rules.is_goal t ≡ true) (sym same) goal in
      let never : ⊥ = cc in
      absurd never
  settled-below (number ∷ numbers) place label end total s walk goal =
      let f : FirstStep rules label.state label.cost number numbers end total = walks-first rules walk in
      let valid_next : IsTrue (rules.is_valid f.next) =
      (laws.moves.steps label.state number f.next f.more (settled-valid place label s) f.within f.is).valid in
      elim (closed.steps place label (settled-within kept place label s) s number f.next f.more f.within f.is) [
        | by_label c ↦
            let a : Along rules laws c.label.state c.label.cost numbers total =
            along rules laws c.label.state c.label.cost (settled-valid c.place c.label c.settled) valid_next c.covers f.rest goal in
            omega (arith, settled-below numbers c.place c.label a.end a.sum c.settled a.walk a.goal, a.cheaper)
        | by_queue w ↦ waits-below f.next end (label.cost + f.more) total numbers valid_next w f.rest goal
        | by_bound none ↦
            absurd (laws.bound.hopeless f.next end (label.cost + f.more) total numbers valid_next none f.rest goal)
      ]

  -- no run reaches a goal below the least entry
  run-below : {end : S} {choices : List ℕ} {cost : ℕ} → IsRun rules choices end cost → IsTrue (rules.is_goal end) → least ≤ cost
  run-below {end} {choices} {cost} (starts {state = state} {cost = first} {number = number} {numbers = numbers} within is walk) goal =
      let valid : IsTrue (rules.is_valid state) = (laws.moves.starts number state first within is).valid in
      elim (closed.starts number state first within is) [
        | by_label c ↦
            let a : Along rules laws c.label.state c.label.cost numbers cost =
            along rules laws c.label.state c.label.cost (settled-valid c.place c.label c.settled) valid c.covers walk goal in
            omega (arith, settled-below numbers c.place c.label a.end a.sum c.settled a.walk a.goal, a.cheaper)
        | by_queue w ↦ waits-below state end first cost numbers valid w walk goal
        | by_bound none ↦ absurd (laws.bound.hopeless state end first cost numbers valid none walk goal)
      ]

  -- no run that reaches a goal costs less than the least entry ranks
  pub none-below : (choices : List ℕ) (cost : ℕ) → Reaches rules choices cost → least ≤ cost
  none-below choices cost reaches = run-below reaches.run reaches.goal

-- where nothing waits, no run reaches a goal
pub no_way :
    {S : Type 0} (rules : Rules S) (laws : IsSpace rules) (kept : Books S) (search : IsSearch rules kept)
    (closed : IsClosed rules kept) → kept.queue ≡ [] → IsUnreachable rules
no_way rules laws kept search closed empty choices cost reaches =
    let too_much : cost + 1 ≤ cost =
    none-below rules laws kept search closed (cost + 1)
    (λ entry h. absurd (Contains-none entry (subst (λ q. Contains q entry) empty h))) choices cost reaches in
    omega (arith, too_much)
