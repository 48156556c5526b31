-- What was taken care of still is when labels are offered and when the next one leaves the queue.
use Rattle.std.proofs.Common.{◌≡◌, ℕ, ◌<◌, ◌+◌, inl, inr, List, ◌∷◌, get_or, length, Some, ap, arith, sym, ◌∙◌, subst}
use Rattle.std.specs.List.{Contains, slice_get}
use Rattle.std.proofs.lemmas.Option.{slice_get-get_or}
use Rattle.std.specs.List.Sorted.{IsPermutation}
use Rattle.std.proofs.lemmas.List.Sorted.{Contains-permutation, IsPermutation-sym}
use Rattle.space_search.specs.Books.{Books, IsLabel, IsSettled, IsCovered, IsAccounted, by_label, by_queue, by_bound, HasStarts, HasSteps, HasStepsBelow, IsSearch, IsClosed, Extends, KeepsLabels, Leaves}
use Rattle.space_search.specs.Queues.{Entry}
use Rattle.space_search.specs.Rules.{Rules}
use Rattle.space_search.specs.declared.label.Label.{Label}
use Rattle.space_search.specs.declared.step.Step.{Step}
use Rattle.item_list.proofs.ListLemmas.{slice_get-same, Contains-cons_cases, Contains-rest}
use Rattle.item_list.proofs.TestLemmas.{below-next}
use Rattle.space_search.proofs.SameLemmas.{settled-unique, settled-within, keeps-back}
use Rattle.std.proofs.lemmas.Bool.{cases_eq}

-- two such changes make one
pub extends-trans : {S : Type 0} (a b c : Books S) → Extends a b → Extends b c → Extends a c
extends-trans a b c p q =
    record {
      labels = λ n l h. q.labels n l (p.labels n l h);
      queue = λ e h. q.queue e (p.queue e h);
      settled = q.settled ∙ p.settled;
    }

-- before the first of the listed steps none is to be taken care of
pub none-offered :
    {S : Type 0} (rules : Rules S) (kept : Books S) (label : Label S) (items : List (Step S)) (place : ℕ) (one : Step S) →
    place < 0 → slice_get items place ≡ Some one → IsAccounted rules kept one.state (label.cost + one.cost)
none-offered rules kept label items place one below is = absurd (omega (arith, below))

-- what was taken care of still is where everything stays
module _ {S : Type 0} (rules : Rules S) (before after : Books S) (more : Extends before after) where
  -- each settled label keeps its place
  to-settled : KeepsLabels before after
  to-settled place label s =
      record { number = s.number; at = rw more.settled s.at; there = more.labels s.number label s.there }

  -- and what is taken care of still is
  pub accounted-extended : (state : S) (cost : ℕ) → IsAccounted rules before state cost → IsAccounted rules after state cost
  accounted-extended state cost (by_label c) =
      by_label (record { place = c.place; label = c.label; settled = to-settled c.place c.label c.settled; covers = c.covers })
  accounted-extended state cost (by_queue w) =
      by_queue (
      record {
        label = w.label;
        entry = w.entry;
        queued = more.queue w.entry w.queued;
        there = more.labels w.entry.0.1 w.label w.there;
        state_is = w.state_is;
        cost_is = w.cost_is;
      }
      )
  accounted-extended state cost (by_bound none) = by_bound none

  -- one more of the listed steps is taken care of
  pub offered-more :
      (items : List (Step S)) (cost index : ℕ) (last : Step S) →
      ((place : ℕ) (one : Step S) → place < index → slice_get items place ≡ Some one →
      IsAccounted rules before one.state (cost + one.cost)) →
      index < length items → last ≡ get_or items index last →
      IsAccounted rules after last.state (cost + last.cost) →
      (place : ℕ) (one : Step S) → place < index + 1 → slice_get items place ≡ Some one →
      IsAccounted rules after one.state (cost + one.cost)
  offered-more items cost index last done within at this place one below is =
      elim (below-next place index below) [
        | inl earlier ↦ accounted-extended one.state (cost + one.cost) (done place one earlier is)
        | inr here ↦
            let found : slice_get items index ≡ Some last =
            slice_get-get_or items index last within ∙ ap Some (sym at) in
            let same : Some one ≡ Some last = sym is ∙ ap (slice_get items) here ∙ found in
            let one-is : last ≡ one = cc in
            subst (λ (k : Step S). IsAccounted rules after k.state (cost + k.cost)) one-is this
      ]

  -- one more start is taken care of
  pub has_starts-more :
      (upto : ℕ) → HasStarts rules before upto →
      ((state : S) (cost : ℕ) → rules.start upto ≡ Some (state, cost) → IsAccounted rules after state cost) →
      HasStarts rules after (upto + 1)
  has_starts-more upto done this number state cost below is =
      elim (below-next number upto below) [
        | inl earlier ↦ accounted-extended state cost (done number state cost earlier is)
        | inr at ↦ this state cost (subst (λ n. rules.start n ≡ Some (state, cost)) at is)
      ]

  -- once all steps of the newest settled label are offered, everything is taken care of
  pub closed-advanced :
      (place : ℕ) (label : Label S) → IsSearch rules before → IsSettled before place label →
      length before.settled ≡ place + 1 →
      HasStarts rules before rules.starts → HasStepsBelow rules before place →
      HasSteps rules after label (rules.steps label.state) → IsClosed rules after
  closed-advanced place label search now counted starts below steps =
      record {
        starts = λ n s c h is. accounted-extended s c (starts n s c h is);
        steps = λ p l inside s.
            let old : IsSettled before p l = keeps-back rules before after more.labels search.stands more.settled p l s in
            elim (cases_eq p place) [
              | inl at ↦
                  let one : label ≡ l =
                  settled-unique before p label l (subst (λ k. IsSettled before k label) (sym at) now) old in
                  subst (λ (k : Label S). HasSteps rules after k (rules.steps k.state)) one steps
              | inr other ↦
                  let early : p < place = omega (arith, settled-within before p l old) in
                  (λ i st c h step. accounted-extended st (l.cost + c) (below p l early old i st c h step))
            ];
      }

-- the next label left the queue, and it is covered now
pub record PopsCovered {S : Type 0} (rules : Rules S) (kept after : Books S) (number : ℕ) (label : Label S) (top : Entry) : Type 0 where
  pub popped : IsPermutation kept.queue (top ∷ after.queue)
  pub is : top.0.1 ≡ number
  pub there : IsLabel kept number label
  pub same_labels : after.labels ≡ kept.labels
  pub grows : KeepsLabels kept after
  pub covered : IsCovered rules after label.state label.cost

module _ {S : Type 0} (rules : Rules S) (kept after : Books S) (number : ℕ) (label : Label S) (top : Entry)
    (p : PopsCovered rules kept after number label top) where
  -- what was taken care of still is, once the label of the top entry is covered
  pub accounted-popped : (state : S) (cost : ℕ) → IsAccounted rules kept state cost → IsAccounted rules after state cost
  accounted-popped state cost (by_label c) =
      by_label (record { place = c.place; label = c.label; settled = p.grows c.place c.label c.settled; covers = c.covers })
  accounted-popped state cost (by_bound none) = by_bound none
  accounted-popped state cost (by_queue w) =
      elim (
      Contains-cons_cases top after.queue w.entry
      (Contains-permutation kept.queue (top ∷ after.queue) w.entry p.popped w.queued)
      ) [
        | inl first ↦
            let number_is : number ≡ w.entry.0.1 = sym p.is ∙ ap (λ (e : Entry). e.0.1) first in
            let same : label ≡ w.label =
            slice_get-same kept.labels w.entry.0.1 label w.label
            (subst (λ k. IsLabel kept k label) number_is p.there) w.there in
            let state_is : label.state ≡ state = ap (λ (l : Label S). l.state) same ∙ w.state_is in
            let cost_is : label.cost ≡ cost = ap (λ (l : Label S). l.cost) same ∙ w.cost_is in
            by_label (
            subst (λ c. IsCovered rules after state c) cost_is
            (subst (λ s. IsCovered rules after s label.cost) state_is p.covered)
            )
        | inr later ↦
            by_queue (
            record {
              label = w.label;
              entry = w.entry;
              queued = later;
              there = rw p.same_labels w.there;
              state_is = w.state_is;
              cost_is = w.cost_is;
            }
            )
      ]

-- an entry that is left was there before
pub left-queued :
    (queue : List Entry) (top : Entry) (rest : List Entry) → IsPermutation queue (top ∷ rest) → (entry : Entry) → Contains rest entry →
    Contains queue entry
left-queued queue top rest popped entry h =
    Contains-permutation (top ∷ rest) queue entry (IsPermutation-sym _ _ popped) (Contains-rest top rest entry h)

-- a settled label is one where everything stays
pub settled-extended : {S : Type 0} (rules : Rules S) (before after : Books S) → Extends before after → KeepsLabels before after
settled-extended rules before after more = to-settled rules before after more

-- what a part of a turn leaves goes on from what the part before it kept
pub leaves-extended :
    {S : Type 0} (rules : Rules S) (before between after : Books S) → Extends before between → Leaves rules between after →
    Leaves rules before after
leaves-extended rules before between after more leaves =
    record {
      stands = leaves.stands;
      keeps = λ place label s. leaves.keeps place label (to-settled rules before between more place label s);
    }
