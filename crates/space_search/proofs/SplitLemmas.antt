-- The labels of a block as they are put into two, one after the other.
use Rattle.std.proofs.Common.{◌≡◌, ℕ, ◌<◌, ◌≤◌, ◌+◌, ◌⊎◌, inl, inr, List, [], ◌∷◌, ◌++◌, length, get_or, Some, ap, arith, sym, ◌∙◌, subst}
use Rattle.std.proofs.lemmas.List.Elements.{Contains-append_left}
use Rattle.std.proofs.lemmas.Option.{slice_get_within, slice_get-get_or}
use Rattle.std.specs.List.{slice_get, Contains}
use Rattle.space_search.specs.Blocks.{IsFloor, Splits}
use Rattle.space_search.specs.Rules.{Rules}
use Rattle.space_search.specs.declared.fronts.Member.{Member}
use Rattle.space_search.specs.declared.point.Point.{Point}
use Rattle.item_list.proofs.ListLemmas.{slice_get-same}
use Rattle.item_list.proofs.TestLemmas.{below-next}
use Rattle.space_search.proofs.BlockLemmas.{Contains-push_cases, Contains-pushed}

-- the first labels, so many of them, stand in one of two parts, and no others do
pub record IsSplitBelow {S : Type 0} (whole near far : List (Member S)) (index : ℕ) : Type 0 where
  pub of_near : (other : Member S) → Contains near other → Contains whole other
  pub of_far : (other : Member S) → Contains far other → Contains whole other
  pub all :
      (place : ℕ) (other : Member S) → place < index → slice_get whole place ≡ Some other →
      Contains near other ⊎ Contains far other

-- nothing is in a list that is empty
pub none-in : {X A : Type 0} (xs : List X) (x : X) → xs ≡ [] → Contains xs x → A
none-in xs x none there = absurd (omega (arith, there.1, ap length none))

-- before the first label both parts are empty
pub split-none :
    {S : Type 0} (whole near far : List (Member S)) → near ≡ [] → far ≡ [] → IsSplitBelow whole near far 0
split-none whole near far no_near no_far =
    record {
      of_near = λ other h. none-in near other no_near h;
      of_far = λ other h. none-in far other no_far h;
      all = λ place other below is. absurd (omega (arith, below));
    }

-- each point lies under those of no labels
pub floor-none : {S : Type 0} (rules : Rules S) (low : Point) (front : List (Member S)) → front ≡ [] → IsFloor rules low front
floor-none rules low front none one h = none-in front one none h

module _ {S : Type 0} (whole near far : List (Member S)) (index : ℕ) (last : Member S)
    (so_far : IsSplitBelow whole near far index) (at : slice_get whole index ≡ Some last) where
  -- the next label is one of the whole
  last-in : Contains whole last
  last-in =
      let within = slice_get_within whole index last at in
      let e : Some (get_or whole index last) ≡ Some last = sym (slice_get-get_or whole index last within) ∙ at in
      (index, within, cc)

  -- the next one joined the first part
  pub split-near : IsSplitBelow whole (near ++ last ∷ []) far (index + 1)
  split-near =
      record {
        of_near = λ other h.
            elim (Contains-push_cases near last other h) [
              | inl old ↦ so_far.of_near other old
              | inr same ↦ subst (λ (m : Member S). Contains whole m) same last-in
            ];
        of_far = so_far.of_far;
        all = λ place other below is.
            elim (below-next place index below) [
              | inl earlier ↦
                  elim (so_far.all place other earlier is) [
                    | inl old ↦ inl (Contains-append_left near (last ∷ []) other old)
                    | inr old ↦ inr old
                  ]
              | inr here ↦
                  let same : last ≡ other =
                  slice_get-same whole index last other at (subst (λ n. slice_get whole n ≡ Some other) here is) in
                  inl (subst (λ (m : Member S). Contains (near ++ last ∷ []) m) same (Contains-pushed near last))
            ];
      }

  -- the next one joined the second part
  pub split-far : IsSplitBelow whole near (far ++ last ∷ []) (index + 1)
  split-far =
      record {
        of_near = so_far.of_near;
        of_far = λ other h.
            elim (Contains-push_cases far last other h) [
              | inl old ↦ so_far.of_far other old
              | inr same ↦ subst (λ (m : Member S). Contains whole m) same last-in
            ];
        all = λ place other below is.
            elim (below-next place index below) [
              | inl earlier ↦
                  elim (so_far.all place other earlier is) [
                    | inl old ↦ inl old
                    | inr old ↦ inr (Contains-append_left far (last ∷ []) other old)
                  ]
              | inr here ↦
                  let same : last ≡ other =
                  slice_get-same whole index last other at (subst (λ n. slice_get whole n ≡ Some other) here is) in
                  inr (subst (λ (m : Member S). Contains (far ++ last ∷ []) m) same (Contains-pushed far last))
            ];
      }

-- so all of them do
pub split-all :
    {S : Type 0} (whole near far : List (Member S)) (index : ℕ) → IsSplitBelow whole near far index →
    length whole ≤ index → Splits whole near far
split-all whole near far index so_far end =
    record {
      of_near = so_far.of_near;
      of_far = so_far.of_far;
      all = λ other h.
          so_far.all h.0 other (omega (arith, h.1, end)) (slice_get-get_or whole h.0 other h.1 ∙ ap Some h.2);
    }
