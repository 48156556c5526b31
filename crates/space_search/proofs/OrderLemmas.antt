-- The settled labels that a search shows are in order, and so they are with the next label.
use Rattle.std.proofs.Common.{◌≡◌, ℕ, ◌≤◌, ◌+◌, inl, inr, List, [], ◌∷◌, ◌++◌, length, Some, false, arith, sym, subst}
use Rattle.std.proofs.lemmas.Option.{slice_get_within}
use Rattle.std.specs.List.{slice_get}
use Rattle.space_search.specs.Books.{Books, Stands}
use Rattle.space_search.specs.Laws.{HasRank}
use Rattle.space_search.specs.Rules.{Rules}
use Rattle.space_search.specs.Turns.{IsPassed, AreInOrder}
use Rattle.space_search.specs.View.{Reached, settled_of}
use Rattle.space_search.proofs.DropLemmas.{rank-unique}
use Rattle.item_list.proofs.ListLemmas.{slice_get-push_cases}
use Rattle.space_search.proofs.RunLemmas.{run-to}
use Rattle.space_search.proofs.ShownLemmas.{Settled, settled-shown}

-- the settled labels are in order
pub in-order : {S : Type 0} (rules : Rules S) (kept : Books S) → Stands rules kept → AreInOrder rules (settled_of kept)
in-order {S} rules kept stands =
    record {
      each = λ place shown at.
          let s : Settled kept place shown = settled-shown rules kept stands.reads place shown at in
          let f = stands.reads.settled_follows place s.label s.settled in
          let r = stands.rising.ranked place s.label s.settled in
          subst (λ k. IsPassed rules (place + 1) k) s.is
          (
          record {
            valid = f.valid;
            run = run-to rules kept stands.reads place s.label f;
            no_goal = stands.no_goal place s.label s.settled;
            rank = r.0;
            ranked = r.1;
          }
          );
      rising = λ first second a b low high up p q ra rb.
          let s : Settled kept first a = settled-shown rules kept stands.reads first a p in
          let t : Settled kept second b = settled-shown rules kept stands.reads second b q in
          stands.rising.rising first second s.label t.label low high up s.settled t.settled
          (subst (λ (k : Reached S). HasRank rules k.state k.cost low) (sym s.is) ra)
          (subst (λ (k : Reached S). HasRank rules k.state k.cost high) (sym t.is) rb);
      apart = λ first second a b up p q.
          let s : Settled kept first a = settled-shown rules kept stands.reads first a p in
          let t : Settled kept second b = settled-shown rules kept stands.reads second b q in
          subst (λ (k : Reached S). rules.covers a.state a.cost k.state k.cost ≡ false) t.is
          (subst (λ (k : Reached S). rules.covers k.state k.cost t.label.state t.label.cost ≡ false) s.is
          (stands.rising.apart first second s.label t.label up s.settled t.settled));
    }

-- one more label ranks no less than any of these, and none of them covers it
pub record ComesAfter {S : Type 0} (rules : Rules S) (labels : List (Reached S)) (last : Reached S) : Type 0 where
  pub passed : IsPassed rules (length labels + 1) last
  pub under :
      (place : ℕ) (label : Reached S) (low : ℕ) → slice_get labels place ≡ Some label → HasRank rules label.state label.cost low →
      low ≤ passed.rank
  pub uncovered :
      (place : ℕ) (label : Reached S) → slice_get labels place ≡ Some label →
      rules.covers label.state label.cost last.state last.cost ≡ false

-- labels in order stay so with such a one
pub order-more :
    {S : Type 0} (rules : Rules S) (labels : List (Reached S)) (last : Reached S) → AreInOrder rules labels →
    ComesAfter rules labels last → AreInOrder rules (labels ++ last ∷ [])
order-more {S} rules labels last ordered c =
    record {
      each = λ place label at.
          elim (slice_get-push_cases labels last place label at) [
            | inl old ↦ ordered.each place label old
            | inr (end, same) ↦
                subst (λ k. IsPassed rules (place + 1) k) same (subst (λ p. IsPassed rules (p + 1) last) (sym end) c.passed)
          ];
      rising = λ first second a b low high up p q ra rb.
          elim (slice_get-push_cases labels last second b q) [
            | inl old_b ↦
                elim (slice_get-push_cases labels last first a p) [
                  | inl old_a ↦ ordered.rising first second a b low high up old_a old_b ra rb
                  | inr (end, same) ↦ absurd (omega (arith, slice_get_within labels second b old_b))
                ]
            | inr (end_b, same_b) ↦
                let high_is : high ≡ c.passed.rank =
                rank-unique rules last.state last.cost high c.passed.rank
                (subst (λ (k : Reached S). HasRank rules k.state k.cost high) (sym same_b) rb) c.passed.ranked in
                elim (slice_get-push_cases labels last first a p) [
                  | inl old_a ↦ omega (arith, c.under first a low old_a ra, high_is)
                  | inr (end_a, same_a) ↦
                      let low_is : low ≡ c.passed.rank =
                      rank-unique rules last.state last.cost low c.passed.rank
                      (subst (λ (k : Reached S). HasRank rules k.state k.cost low) (sym same_a) ra) c.passed.ranked in
                      omega (arith, low_is, high_is)
                ]
          ];
      apart = λ first second a b up p q.
          elim (slice_get-push_cases labels last second b q) [
            | inl old_b ↦
                elim (slice_get-push_cases labels last first a p) [
                  | inl old_a ↦ ordered.apart first second a b up old_a old_b
                  | inr (end, same) ↦ absurd (omega (arith, slice_get_within labels second b old_b))
                ]
            | inr (end_b, same_b) ↦
                elim (slice_get-push_cases labels last first a p) [
                  | inl old_a ↦
                      subst (λ (k : Reached S). rules.covers a.state a.cost k.state k.cost ≡ false) same_b (c.uncovered first a old_a)
                  | inr (end_a, same_a) ↦ absurd (omega arith)
                ]
          ];
    }
