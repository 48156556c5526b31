-- What is left of a front once superseded labels left it, and the label that superseded them joined.
use Rattle.std.proofs.Common.{◌≡◌, ℕ, ◌<◌, inl, inr, List, ◌∷◌, length, get_or, refl, sym, subst}
use Rattle.std.proofs.lemmas.List.Sorted.{Contains-permutation, IsPermutation-sym, IsPermutation-swap_remove}
use Rattle.std.proofs.lemmas.Option.{slice_get_read}
use Rattle.std.specs.List.{swap_remove}
use Rattle.std.specs.List.Sorted.{IsPermutation}
use Rattle.space_search.specs.Blocks.{Adds}
use Rattle.space_search.specs.Fronts.{Gains, Thins}
use Rattle.space_search.specs.Laws.{Supersedes}
use Rattle.space_search.specs.Rules.{Rules}
use Rattle.space_search.specs.declared.fronts.Member.{Member}
use Rattle.item_list.proofs.ListLemmas.{slice_get-same, Contains-rest, Contains-cons_cases}

module _ {S : Type 0} (rules : Rules S) (one : Member S) where
  -- what a label supersedes
  abbrev pub IsBelow : Member S → Type 0
  IsBelow other = Supersedes rules one.state one.cost other.state other.cost

  -- nothing left
  pub thins-none : (front : List (Member S)) → Thins rules one front front
  thins-none front = record { from = λ other h. h; rest = λ other h. inl h }

  -- what left in one turn and in the next
  pub thins-thins :
      (before front after : List (Member S)) → Thins rules one before front → Thins rules one front after →
      Thins rules one before after
  thins-thins before front after t u =
      record {
        from = λ other h. t.from other (u.from other h);
        rest = λ other h.
            elim (t.rest other h) [
              | inr below ↦ inr below
              | inl stays ↦ u.rest other stays
            ];
      }

  -- one that is superseded left
  pub thins-more :
      (before front after : List (Member S)) (gone : Member S) → Thins rules one before front →
      IsPermutation front (gone ∷ after) → IsBelow gone → Thins rules one before after
  thins-more before front after gone t left below =
      record {
        from = λ other h.
            t.from other
            (Contains-permutation (gone ∷ after) front other (IsPermutation-sym _ _ left) (Contains-rest gone after other h));
        rest = λ other h.
            elim (t.rest other h) [
              | inr s ↦ inr s
              | inl there ↦
                  elim (Contains-cons_cases gone after other (Contains-permutation front (gone ∷ after) other left there)) [
                    | inl same ↦ inr (subst (λ (m : Member S). IsBelow m) same below)
                    | inr stays ↦ inl stays
                  ]
            ];
      }

  -- one that is superseded left, and the last took its place
  pub thins-swapped :
      (before front after : List (Member S)) (at : ℕ) (other gone : Member S) → Thins rules one before front →
      at < length front → other ≡ get_or front at other → gone ≡ get_or front at gone →
      after ≡ swap_remove front at gone → IsBelow other → Thins rules one before after
  thins-swapped before front after at other gone t within reads takes is below =
      let same : other ≡ gone =
      slice_get-same front at other gone
      (slice_get_read front (length front) at other refl within reads)
      (slice_get_read front (length front) at gone refl within takes) in
      thins-more before front after gone t
      (subst (λ (l : List (Member S)). IsPermutation front (gone ∷ l)) (sym is)
      (IsPermutation-swap_remove front at gone within takes))
      (subst (λ (m : Member S). IsBelow m) same below)

  -- the label joined what was left
  pub gains-added :
      (before front after : List (Member S)) → Thins rules one before front → Adds one front after →
      Gains rules one before after
  gains-added before front after t adds =
      record {
        from = λ other h.
            elim (adds.from other h) [
              | inl old ↦ inl (t.from other old)
              | inr same ↦ inr same
            ];
        new = adds.new;
        rest = λ other h.
            elim (t.rest other h) [
              | inr s ↦ inr s
              | inl stays ↦ inl (adds.stays other stays)
            ];
      }
