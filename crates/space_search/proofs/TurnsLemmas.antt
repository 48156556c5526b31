-- What the calls of a search say, from its phase.
use Rattle.std.proofs.Common.{◌≡◌, ℕ, ◌<◌, ◌≤◌, ◌+◌, ◌*◌, ◌^◌, ◌⊎◌, inl, inr, List, [], ◌++◌, length, Option, Some, refl, ap, arith, sym, ◌∙◌, subst}
use Rattle.std.proofs.lemmas.Option.{slice_get_within}
use Rattle.std.specs.List.{slice_get}
use Rattle.item_list.proofs.SaysLemmas.{says-map}
use Rattle.item_list.specs.Turns.{Says, Settles}
use Rattle.item_list.specs.declared.turn.Turn.{Turn}
use Rattle.item_list.specs.declared.turn.Turn.TheVariants.{More, Done}
use Rattle.space_search.specs.Books.{Books, books, Reads, Leaves}
use Rattle.space_search.specs.Laws.{IsSpace}
use Rattle.space_search.specs.Limits.{HasFewPerCell, IsUnspent, IsUnspentTurn}
use Rattle.space_search.specs.Rules.{Rules}
use Rattle.space_search.specs.Runs.{IsRun, IsLeastRun}
use Rattle.space_search.specs.Searches.{IsPhase, IsReadable, IsSearchOf, Turns, held_after}
use Rattle.space_search.specs.Turns.{EndsFound, EndsSearch, GoesOn, IsClosedSoFar}
use Rattle.space_search.specs.View.{Reached, View, Held, held, view, view_of, shown_from, pick, settled_of, listed, labels_of, IsShown, phase_after}
use Rattle.space_search.specs.declared.lists.Lists.{Lists}
use Rattle.space_search.specs.declared.outcome.Outcome.{Outcome}
use Rattle.space_search.specs.declared.outcome.Outcome.TheVariants.{Found, NoWay, Budget}
use Rattle.space_search.specs.declared.phase.Phase.{Phase}
use Rattle.space_search.specs.declared.phase.Phase.TheVariants.{New, Running, Ended, Failed}
use Rattle.space_search.specs.declared.search.Search.{Search}
use Rattle.space_search.specs.declared.step.Steps.{Steps}
use Rattle.space_search.proofs.LimitLemmas.{never-spent}
use Rattle.item_list.proofs.ListLemmas.{slice_get-pushed}
use Rattle.space_search.proofs.OrderLemmas.{in-order}
use Rattle.space_search.proofs.ShownLemmas.{shown-count, places-kept}

-- what a part of a turn leaves goes on from what was shown before it
pub goes-on :
    {S : Type 0} (rules : Rules S) (before after : Held S) → Reads rules before.kept → Leaves rules before.kept after.kept →
    after.limit ≡ before.limit → length after.kept.settled ≤ after.limit → GoesOn rules (view_of before) (view_of after)
goes-on rules before after reads leaves limit within =
    record {
      limit = limit;
      within = omega (arith, shown-count rules after.kept leaves.stands.reads);
      kept = places-kept rules before.kept after.kept reads leaves.stands.reads leaves.keeps;
      ordered = in-order rules after.kept leaves.stands;
    }

-- and so does a search that stays
pub goes-same : {S : Type 0} (rules : Rules S) (search : Search S) → IsSearchOf rules search → GoesOn rules (view search) (view search)
goes-same rules search of =
    goes-on rules (held search) (held search) of.stands.reads
    (record { stands = of.stands; keeps = λ place label s. s }) refl of.within

-- what a search in this phase is
pub phase-is :
    {S : Type 0} (rules : Rules S) (search : Search S) (phase : Phase) → IsSearchOf rules search → search.phase ≡ phase →
    IsPhase rules (held search) phase
phase-is rules search phase of is = subst (λ p. IsPhase rules (held search) p) is of.is_phase

-- a search that is new or goes on isn't at its end
pub not-ended :
    {A : Type 0} (phase : Phase) → (phase ≡ New) ⊎ (phase ≡ Running) → (end : Outcome ℕ) → phase ≡ Ended end → A
not-ended phase (inl new) end is = cc
not-ended phase (inr running) end is = cc

-- and met no want of memory
pub not-failed : {A : Type 0} (phase : Phase) → (phase ≡ New) ⊎ (phase ≡ Running) → phase ≡ Failed → A
not-failed phase (inl new) is = cc
not-failed phase (inr running) is = cc

-- a search is at one end
pub one-end : (phase : Phase) (first second : Outcome ℕ) → phase ≡ Ended first → phase ≡ Ended second → first ≡ second
one-end phase first second is other = cc

-- a turn that settles nothing settles fewer labels than its quota
pub below-quota : (settled quota : ℕ) → 1 ≤ quota → settled < settled + quota
below-quota settled quota some = omega arith

-- where nothing is settled the limit is kept
pub none-settled : (settled limit : ℕ) → settled ≡ 0 → settled ≤ limit
none-settled settled limit none = omega arith

-- after want of memory a search still is one
pub of-failed :
    {S : Type 0} (rules : Rules S) (before : Books S) (search : Search S) → search.limit < 2 ^ 32 →
    length search.lists.settled.items ≤ search.limit → Leaves rules before (books search.lists) → search.phase ≡ Failed →
    IsSearchOf rules search
of-failed rules before search small within leaves is =
    record {
      small = small;
      within = within;
      stands = leaves.stands;
      is_phase = subst (λ p. IsPhase rules (held search) p) (sym is) tt;
    }

module _ {S : Type 0} (rules : Rules S) (quota : ℕ) (before : Books S) (lists : Lists S) (limit found : ℕ) where
  -- what a turn said of its end holds of what the search shows
  pub ends-turned :
      (turn : Turn (Unit {0}) (Outcome ℕ)) (phase : Phase) → phase ≡ phase_after turn →
      Turns rules quota before (held_after limit (books lists) (turn, found)) turn →
      Says (λ _. IsClosedSoFar rules (view_of (record { limit = limit; kept = books lists; found = found; phase = phase })))
      (EndsSearch rules (view_of (record { limit = limit; kept = books lists; found = found; phase = phase }))) turn
  ends-turned turn phase is turns =
      subst
      (λ (p : Phase).
      Says (λ _. IsClosedSoFar rules (view_of (record { limit = limit; kept = books lists; found = found; phase = p })))
      (EndsSearch rules (view_of (record { limit = limit; kept = books lists; found = found; phase = p }))) turn)
      (sym is) turns.ends

  module _ (steps : Steps S) (small : limit < 2 ^ 32) (within : length lists.settled.items ≤ limit) where
    -- what holds of a search's phase after a turn
    phase-turned :
        (turn : Turn (Unit {0}) (Outcome ℕ)) → Turns rules quota before (held_after limit (books lists) (turn, found)) turn →
        IsPhase rules (held_after limit (books lists) (turn, found)) (phase_after turn)
    phase-turned (More next) turns = (turns.kept, turns.closed)
    phase-turned (Done end) turns = (turns.ends, turns.goal)

    -- after a turn a search still is one
    pub of-turned :
        (turn : Turn (Unit {0}) (Outcome ℕ)) (phase : Phase) → phase ≡ phase_after turn →
        Turns rules quota before (held_after limit (books lists) (turn, found)) turn →
        IsSearchOf rules (record { lists = lists; steps = steps; limit = limit; found = found; phase = phase })
    of-turned turn phase is turns =
        subst
        (λ (p : Phase). IsSearchOf rules (record { lists = lists; steps = steps; limit = limit; found = found; phase = p }))
        (sym is)
        (record { small = small; within = within; stands = turns.kept.stands; is_phase = phase-turned turn turns })

-- what is between a search and its last part of a turn
pub record Between {S : Type 0} (rules : Rules S) (before after : Search S) : Type 0 where
  pub leaves : Leaves rules (books before.lists) (books after.lists)
  pub limit : after.limit ≡ before.limit
  pub settled : after.lists.settled.items ≡ before.lists.settled.items

-- nothing is between where only the phase changes
pub between-same :
    {S : Type 0} (rules : Rules S) (search : Search S) (phase : Phase) → IsSearchOf rules search →
    Between rules search (record search { phase = phase })
between-same rules search phase of =
    record { leaves = record { stands = of.stands; keeps = λ place label s. s }; limit = refl; settled = refl }

-- the whole goes on from what was shown first
pub goes-through :
    {S : Type 0} (rules : Rules S) (before between : Search S) (after : Held S) → IsSearchOf rules before → Between rules before between →
    Leaves rules (books between.lists) after.kept → after.limit ≡ between.limit → length after.kept.settled ≤ after.limit →
    GoesOn rules (view before) (view_of after)
goes-through rules before between after of first leaves limit within =
    goes-on rules (held before) after of.stands.reads
    (record { stands = leaves.stands; keeps = λ place label s. leaves.keeps place label (first.leaves.keeps place label s) })
    (limit ∙ first.limit) within

-- and settled as many labels as the last part did
pub counts-through :
    {S : Type 0} (rules : Rules S) (before between : Search S) (after : Held S) (quota : ℕ) (turn : Turn (Unit {0}) (Outcome ℕ)) →
    IsSearchOf rules before →
    Between rules before between → Turns rules quota (books between.lists) after turn →
    Settles (length (view before).settled + quota) (length (settled_of after.kept)) turn
counts-through rules before between after quota turn of first turns =
    subst (λ n. Settles (n + quota) (length (settled_of after.kept)) turn)
    (ap length first.settled ∙ sym (shown-count rules (books before.lists) of.stands.reads))
    (subst (λ n. Settles (length between.lists.settled.items + quota) n turn)
    (sym (shown-count rules after.kept turns.kept.stands.reads)) turns.counts)

module _ {S : Type 0} (rules : Rules S) (search : Search S) (of : IsSearchOf rules search) (number : ℕ)
    (e : EndsFound rules (view search) number) where
  -- the goal that was found can be read
  goal-there : IsShown (view search) number e.goal
  goal-there =
      subst (λ n. slice_get (labels_of (view search)) n ≡ Some e.goal) (sym e.numbered)
      (subst (λ (g : Option (Reached S)). slice_get ((view search).settled ++ listed g) (length (view search).settled) ≡ Some e.goal)
      (sym e.there) (slice_get-pushed (view search).settled e.goal))

  -- so its number is one that can be read
  pub found-readable : IsReadable search number
  found-readable =
      record { rules = rules; of = of; within = slice_get_within (labels_of (view search)) number e.goal goal-there }

  -- a search that found a goal shows a least run to it
  pub least-run :
      (choices : List ℕ) (cost : ℕ) → ((one : Reached S) → IsShown (view search) number one → choices ≡ one.choices) →
      ((one : Reached S) → IsShown (view search) number one → cost ≡ one.cost) →
      IsLeastRun rules choices cost × (length choices ≤ (view search).limit + 1)
  least-run choices cost choices_are cost_is =
      let cost_same : e.goal.cost ≡ cost = sym (cost_is e.goal goal-there) in
      let choices_same : e.goal.choices ≡ choices = sym (choices_are e.goal goal-there) in (
        record {
          reaches =
              record {
                end = e.goal.state;
                run =
                    subst (λ c. IsRun rules choices e.goal.state c) cost_same
                    (subst (λ c. IsRun rules c e.goal.state e.goal.cost) choices_same e.least.run.run);
                goal = e.least.goal;
              };
          least = λ others other reaches. subst (λ c. c ≤ other) cost_same (e.least.least others other reaches);
        },
        subst (λ (c : List ℕ). length c ≤ (view search).limit + 1) choices_same (
            omega (arith, e.least.run.short, e.numbered, of.within, shown-count rules (books search.lists) of.stands.reads)
            ),
      )

-- the goal that a search ended with can be read
pub readable-found :
    {S : Type 0} (search : Search S) (end : Outcome ℕ) (label : ℕ) → end ≡ Found label →
    ((rules : Rules S) × IsSearchOf rules search × EndsSearch rules (view search) end) → IsReadable search label
readable-found search end label is ends =
    found-readable ends.0 search ends.1 label (subst (EndsSearch ends.0 (view search)) is ends.2)

-- where no cell can keep more than the limit divides into, a search doesn't end with a spent limit
pub unspent :
    {S : Type 0} (rules : Rules S) (laws : IsSpace rules) (most : ℕ) (view : View S) (end : Outcome ℕ) →
    HasFewPerCell rules most → rules.cells * most ≤ view.limit → EndsSearch rules view end → IsUnspent end
unspent rules laws most view (Found label) few enough ends = tt
unspent rules laws most view NoWay few enough ends = tt
unspent rules laws most view Budget few enough ends =
    never-spent rules laws most view.limit _ few enough ends.spent

-- nor does a turn
pub unspent-turn :
    {S : Type 0} (rules : Rules S) (laws : IsSpace rules) (most : ℕ) (view : View S) (turn : Turn (Unit {0}) (Outcome ℕ)) →
    HasFewPerCell rules most → rules.cells * most ≤ view.limit → Says (λ _. IsClosedSoFar rules view) (EndsSearch rules view) turn →
    IsUnspentTurn turn
unspent-turn rules laws most view turn few enough =
    says-map {wider_more = λ _. Unit {0}} (λ next said. tt) (λ end said. unspent rules laws most view end few enough said) turn

-- what the end of a search said still holds
pub ends-again :
    {S : Type 0} (rules : Rules S) (search : Search S) (end : Outcome ℕ) → IsSearchOf rules search → search.phase ≡ Ended end →
    IsPhase rules (held search) (Ended end)
ends-again {S} rules search end of phase =
    subst (λ p. IsPhase rules (held search) p) phase of.is_phase

-- lists in which nothing stands show no label
pub none-shown : {S : Type 0} (kept : Books S) → kept.settled ≡ [] → settled_of kept ≡ []
unfolding settled_of
none-shown kept none = ap (λ s. shown_from [] (pick kept.labels s)) none
