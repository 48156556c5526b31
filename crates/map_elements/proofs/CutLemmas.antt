-- One entry is cut off the front of steps.
use Rattle.std.proofs.Common.{◌≡◌, ℕ, zero, suc, Bool, true, false, List, [], ◌∷◌, ◌++◌, take, drop, Option, Some, None, refl, sym, ap, ◌∙◌, append_assoc, subst}
use Rattle.std.proofs.lemmas.List.{append-nil}
use mathlib.Core.Bool.{false≢true}
use Rattle.json_text.specs.Marks.{Step}
use Rattle.map_elements.specs.Entries.{Entry, entries_from, by_depth, depth_after, begun_entry, whole_entry}
use Rattle.map_elements.specs.Cut.{size_of, ends_in, IsNoKey, is_close}
use Rattle.map_elements.proofs.PlaceLemmas.{entries_on}

-- the entry of a name whose value has come so far, with what belongs to it of the steps that are left
abbrev pub entry_cut : Option (List ℕ) → List Step → ℕ → List Step → Entry
entry_cut name value depth steps = record { name = name; value = value ++ take (size_of depth steps) steps; is_whole = ends_in depth steps }

-- the entries are that entry and those behind it
abbrev pub IsCut : Option (List ℕ) → List Step → ℕ → List Step → Type 0
IsCut name value depth steps =
    entries_from name value depth steps ≡ entry_cut name value depth steps ∷ entries_from None [] zero (drop (size_of depth steps) steps)

-- an entry that isn't whole, where its value has begun
begun_one : (name : Option (List ℕ)) (x : Step) (xs : List Step) →
    begun_entry name (x ∷ xs) ≡ record { name = name; value = x ∷ xs; is_whole = false } ∷ []
begun_one None x xs = refl
begun_one (Some name) x xs = refl

-- of a value that has begun, the rest is cut off
pub cut_open : (name : Option (List ℕ)) (x : Step) (xs : List Step) (d : ℕ) (steps : List Step) → IsCut name (x ∷ xs) (suc d) steps
cut_open name x xs d [] =
    begun_one name x xs ∙ ap (λ v. record { name = name; value = x ∷ v; is_whole = false } ∷ []) (sym (append-nil xs))
cut_open name x xs d (step ∷ steps) =
    entries_on name (x ∷ xs) (suc d) step steps refl ∙ cut_by (depth_after (suc d) step) (λ k. cut_open name x (xs ++ step ∷ []) k steps)
  where
    cut_by : (n : ℕ) → ((k : ℕ) → IsCut name (x ∷ (xs ++ step ∷ [])) (suc k) steps) →
        by_depth n (whole_entry name (x ∷ (xs ++ step ∷ [])) ∷ entries_from None [] zero steps)
        (λ still. entries_from name (x ∷ (xs ++ step ∷ [])) still steps)
        ≡ record {
          name = name;
          value = x ∷ (xs ++ take (by_depth n 1 (λ still. suc (size_of still steps))) (step ∷ steps));
          is_whole = by_depth n true (λ still. ends_in still steps);
        } ∷ entries_from None [] zero (drop (by_depth n 1 (λ still. suc (size_of still steps))) (step ∷ steps))
    cut_by zero deeper = refl
    cut_by (suc k) deeper =
        deeper k
        ∙ ap (λ (v : List Step). record { name = name; value = x ∷ v; is_whole = ends_in (suc k) steps } ∷ entries_from None [] zero
        (drop (size_of (suc k) steps) steps))
        (append_assoc xs (step ∷ []) (take (size_of (suc k) steps) steps))

-- a value at the front is cut off whole
pub cut_value : (name : Option (List ℕ)) (step : Step) (steps : List Step) → IsNoKey (step ∷ steps) → is_close step ≡ false →
    IsCut name [] zero (step ∷ steps)
cut_value name (Step.Opens bracket) steps key close = cut_open name (Step.Opens bracket) [] 0 steps
cut_value name (Step.Closes bracket) steps key close = absurd (false≢true (sym close))
cut_value name (Step.Key text) steps key close = absurd key
cut_value name (Step.Text text) steps key close = refl
cut_value name (Step.Number text) steps key close = refl
cut_value name (Step.Word word) steps key close = refl

-- behind a bracket that closes, no entry is left
pub cut_close : (name : Option (List ℕ)) (step : Step) (steps : List Step) → is_close step ≡ true →
    entries_from name [] zero (step ∷ steps) ≡ []
cut_close name (Step.Closes bracket) steps close = refl
cut_close name (Step.Opens bracket) steps close = absurd (false≢true close)
cut_close name (Step.Key text) steps close = absurd (false≢true close)
cut_close name (Step.Text text) steps close = absurd (false≢true close)
cut_close name (Step.Number text) steps close = absurd (false≢true close)
cut_close name (Step.Word word) steps close = absurd (false≢true close)

-- a value with what is behind it, cut off by its size at the front of steps that begin with one
pub record CutsValue (left value behind : List Step) (size : ℕ) (is_whole : Bool) : Type 0 where
  pub step : Step
  pub rest : List Step
  pub begins : left ≡ step ∷ rest
  pub no_key : IsNoKey left
  pub opens : is_close step ≡ false
  pub sized : size ≡ size_of 0 left
  pub ended : is_whole ≡ ends_in 0 left
  pub front : value ≡ take size left
  pub back : behind ≡ drop size left

-- what is cut off at the front of steps is their first entry
pub cut_entry : (name : Option (List ℕ)) (left value behind : List Step) (size : ℕ) (is_whole : Bool) →
    CutsValue left value behind size is_whole →
    entries_from name [] zero left ≡ record { name = name; value = value; is_whole = is_whole } ∷ entries_from None [] zero behind
cut_entry name left value behind size is_whole cuts =
    let key_on = subst IsNoKey cuts.begins cuts.no_key in
    let cut : IsCut name [] zero left =
    subst (λ (s : List Step). IsCut name [] zero s) (sym cuts.begins) (cut_value name cuts.step cuts.rest key_on cuts.opens) in
    let front_is : take (size_of 0 left) left ≡ value = ap (λ n. take n left) (sym cuts.sized) ∙ sym cuts.front in
    let back_is : drop (size_of 0 left) left ≡ behind = ap (λ n. drop n left) (sym cuts.sized) ∙ sym cuts.back in
    cut
    ∙ ap (λ (v : List Step). record { name = name; value = v; is_whole = ends_in 0 left } ∷ entries_from None [] zero
    (drop (size_of 0 left) left)) front_is
    ∙ ap (λ w. record { name = name; value = value; is_whole = w } ∷ entries_from None [] zero (drop (size_of 0 left) left))
    (sym cuts.ended)
    ∙ ap (λ (b : List Step). record { name = name; value = value; is_whole = is_whole } ∷ entries_from None [] zero b) back_is
