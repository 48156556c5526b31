-- The choices that a search shows of a label are a run to it.
use Rattle.std.proofs.Common.{◌≡◌, ℕ, zero, suc, ◌<◌, ◌≤◌, ◌+◌, List, [], ◌∷◌, ◌++◌, length, Some, ap, arith, sym, subst, length-append}
use Rattle.space_search.specs.Books.{Books, IsSettled, Follows, CameFrom, from_start, from_label, Reads}
use Rattle.space_search.specs.Rules.{Rules}
use Rattle.space_search.specs.Runs.{Walks, rests, steps, IsRun, starts}
use Rattle.space_search.specs.Turns.{IsRunTo}
use Rattle.space_search.specs.View.{reached, choices_in, choices_before, settled_of}
use Rattle.space_search.specs.declared.label.Label.{Label}
use Rattle.space_search.proofs.ShownLemmas.{shown-settled}

-- a walk with one step more
walks-more :
    {S : Type 0} (rules : Rules S) {state end next : S} {cost total more number : ℕ} {numbers : List ℕ} →
    Walks rules state cost numbers end total → number < rules.steps end → rules.step end number ≡ Some (next, more) →
    Walks rules state cost (numbers ++ number ∷ []) next (total + more)
walks-more rules rests within is = steps within is rests
walks-more rules (steps inside step rest) within is = steps inside step (walks-more rules rest within is)

-- a run with one step more
run-more :
    {S : Type 0} (rules : Rules S) {end next : S} {total more number : ℕ} {choices : List ℕ} →
    IsRun rules choices end total → number < rules.steps end → rules.step end number ≡ Some (next, more) →
    IsRun rules (choices ++ number ∷ []) next (total + more)
run-more rules (starts inside start walk) within is = starts inside start (walks-more rules walk within is)

module _ {S : Type 0} (rules : Rules S) (kept : Books S) (reads : Reads rules kept) where
  -- a label without a parent has its own choice alone
  pub choices-start : (label : Label S) → label.parent ≡ 0 → choices_before (settled_of kept) label.parent ≡ []
  choices-start label none = ap (λ n. choices_before (settled_of kept) n) none

  -- any other has its parent's choices before its own
  pub choices-parent :
      (label parent : Label S) (place : ℕ) → label.parent ≡ place + 1 → IsSettled kept place parent →
      choices_before (settled_of kept) label.parent ≡ (reached (settled_of kept) parent).choices
  choices-parent label parent place named settled =
      let is : label.parent ≡ suc place = omega arith in
      subst (λ n. choices_before (settled_of kept) n ≡ (reached (settled_of kept) parent).choices) (sym is)
      (ap choices_in (shown-settled rules kept reads place parent settled))

  -- a run to a label goes on from a run to its parent
  run-from :
      (below : ℕ) (label : Label S) → CameFrom rules kept below label →
      ((place : ℕ) (parent : Label S) → place < below → IsSettled kept place parent →
      IsRunTo rules (place + 1) (reached (settled_of kept) parent)) →
      IsRunTo rules (below + 1) (reached (settled_of kept) label)
  run-from below label (from_start none within is) earlier =
      let before : choices_before (settled_of kept) label.parent ≡ [] = choices-start label none in
      record {
        run = subst (λ c. IsRun rules (c ++ label.choice ∷ []) label.state label.cost) (sym before) (starts within is rests);
        short = subst (λ (c : List ℕ). length (c ++ label.choice ∷ []) ≤ below + 1) (sym before) (omega arith);
      }
  run-from below label (from_label place parent cost named inside settled within is sum) earlier =
      let old : IsRunTo rules (place + 1) (reached (settled_of kept) parent) = earlier place parent inside settled in
      let before = choices-parent label parent place named settled in
      record {
        run =
            subst (λ c. IsRun rules (c ++ label.choice ∷ []) label.state label.cost) (sym before)
            (subst (λ c. IsRun rules ((reached (settled_of kept) parent).choices ++ label.choice ∷ []) label.state c) (sym sum)
            (run-more rules old.run within is));
        short =
            subst (λ (c : List ℕ). length (c ++ label.choice ∷ []) ≤ below + 1) (sym before)
            (omega (arith, length-append (reached (settled_of kept) parent).choices (label.choice ∷ []), old.short));
      }

  -- so it goes back to a start, in no more steps than the place says
  run-within :
      (fuel below : ℕ) (label : Label S) → below ≤ fuel → Follows rules kept below label →
      IsRunTo rules (below + 1) (reached (settled_of kept) label)
  run-within zero below label enough f = run-from below label f.came (λ place parent h s. absurd (omega arith))
  run-within (suc fuel) below label enough f =
      run-from below label f.came
      (λ place parent h s. run-within fuel place parent (omega arith) (reads.settled_follows place parent s))

  -- a label is reached by a run of at most one choice more than the place below which its parent is settled
  pub run-to : (below : ℕ) (label : Label S) → Follows rules kept below label → IsRunTo rules (below + 1) (reached (settled_of kept) label)
  run-to below label f = run-within below below label (omega arith) f
