-- Entries as the steps come: what one more step changes, for every rest of the steps.
use Rattle.std.proofs.Common.{◌≡◌, ℕ, zero, suc, Bool, true, false, List, [], ◌∷◌, ◌++◌, append_assoc, Option, Some, None, refl, sym, ap, ◌∙◌}
use Rattle.std.proofs.lemmas.List.{append-nil}
use Rattle.std.specs.Prelude.{if◌then◌else◌}
use Rattle.std.specs.Str.{bytes_eq}
use Rattle.json_text.specs.declared.mode.Bracket.TheVariants as bracket_
use Rattle.json_text.specs.Marks.{Step}
use Rattle.map_elements.specs.Entries.{Entry, entries_from, whole_entry, items_of, member}
use Rattle.map_elements.specs.Fields.{with_some}

-- the entries of all that may follow these steps are the ones that are done, and those that follow from here
abbrev pub Cuts : List Step → List Entry → Option (List ℕ) → List Step → ℕ → Type 0
Cuts steps done item value depth =
    (tail : List Step) → entries_from None [] zero (steps ++ tail) ≡ done ++ entries_from item value depth tail

-- what one more step does to the entries, whatever follows
abbrev pub Goes : Option (List ℕ) → List Step → ℕ → Step → List Entry → Option (List ℕ) → List Step → ℕ → Type 0
Goes item value depth step more next held after =
    (tail : List Step) → entries_from item value depth (step ∷ tail) ≡ more ++ entries_from next held after tail

module _ (name : List ℕ) (named : bytes_eq name name ≡ true) where
  -- the items of the first member of this name, where its array has come so far
  abbrev pub items_here : List Step → ℕ → List Step → Option (List Entry)
  items_here inner depth rest =
      with_some (member name (entries_from (Some name) (Step.Opens bracket_.Square ∷ inner) (suc depth) rest)) items_of

  -- a first member of this name is found
  found : (value : List Step) (is_whole : Bool) (others : List Entry)
      → member name (record { name = Some name; value = value; is_whole = is_whole } ∷ others) ≡ Some value
  found value is_whole others = ap (λ b. if b then Some value else member name others) named

  -- the items go on over one more step
  items_on : (rest inner : List Step) (done more : List Entry) (item next : Option (List ℕ)) (value held : List Step) (depth after : ℕ)
      (step : Step)
      → Cuts inner done item value depth → Goes item value depth step more next held after
      → (Cuts (inner ++ step ∷ []) (done ++ more) next held after
      → items_here (inner ++ step ∷ []) after rest ≡ Some ((done ++ more) ++ entries_from next held after rest))
      → items_here inner depth (step ∷ rest) ≡ items_here (inner ++ step ∷ []) after rest
      → items_here inner depth (step ∷ rest) ≡ Some (done ++ entries_from item value depth (step ∷ rest))
  items_on rest inner done more item next value held depth after step cuts goes later same =
      let longer : Cuts (inner ++ step ∷ []) (done ++ more) next held after =
      λ tail. ap (entries_from None [] zero) (append_assoc inner (step ∷ []) tail) ∙ cuts (step ∷ tail)
      ∙ ap (λ xs. done ++ xs) (goes tail) ∙ sym (append_assoc done more (entries_from next held after tail)) in
      same ∙ later longer
      ∙ ap Some (append_assoc done more (entries_from next held after rest) ∙ ap (λ xs. done ++ xs) (sym (goes rest)))

  -- the items of an array that is the value of a member are those behind its opening bracket, however the steps go on
  pub items_same : (rest inner : List Step) (done : List Entry) (item : Option (List ℕ)) (value : List Step) (depth : ℕ)
      → Cuts inner done item value depth
      → items_here inner depth rest ≡ Some (done ++ entries_from item value depth rest)
  items_same [] inner done item value depth cuts =
      ap (λ o. with_some o items_of) (found (Step.Opens bracket_.Square ∷ inner) false [])
      ∙ ap Some (ap (entries_from None [] zero) (sym (append-nil inner)) ∙ cuts [])
  items_same (Step.Closes bracket ∷ rest) inner done item value zero cuts =
      ap (λ o. with_some o items_of) (found (Step.Opens bracket_.Square ∷ (inner ++ Step.Closes bracket ∷ [])) true
      (entries_from None [] zero rest))
      ∙ ap Some (cuts (Step.Closes bracket ∷ []))
  items_same (Step.Closes bracket ∷ rest) inner done item value (suc zero) cuts =
      items_on rest inner done (whole_entry item (value ++ Step.Closes bracket ∷ []) ∷ []) item None value [] (suc zero) zero
      (Step.Closes bracket) cuts (λ tail. refl)
      (items_same rest (inner ++ Step.Closes bracket ∷ []) (done ++ (whole_entry item (value ++ Step.Closes bracket ∷ []) ∷ [])) None []
      zero) refl
  items_same (Step.Closes bracket ∷ rest) inner done item value (suc (suc depth)) cuts =
      items_on rest inner done [] item item value (value ++ Step.Closes bracket ∷ []) (suc (suc depth)) (suc depth) (Step.Closes bracket)
      cuts (λ tail. refl)
      (items_same rest (inner ++ Step.Closes bracket ∷ []) (done ++ []) item (value ++ Step.Closes bracket ∷ []) (suc depth)) refl
  items_same (Step.Opens bracket ∷ rest) inner done item value zero cuts =
      items_on rest inner done [] item item value (value ++ Step.Opens bracket ∷ []) zero (suc zero) (Step.Opens bracket) cuts
      (λ tail. refl)
      (items_same rest (inner ++ Step.Opens bracket ∷ []) (done ++ []) item (value ++ Step.Opens bracket ∷ []) (suc zero)) refl
  items_same (Step.Opens bracket ∷ rest) inner done item value (suc depth) cuts =
      items_on rest inner done [] item item value (value ++ Step.Opens bracket ∷ []) (suc depth) (suc (suc depth)) (Step.Opens bracket) cuts
      (λ tail. refl)
      (items_same rest (inner ++ Step.Opens bracket ∷ []) (done ++ []) item (value ++ Step.Opens bracket ∷ []) (suc (suc depth))) refl
  items_same (Step.Key text ∷ rest) inner done item value zero cuts =
      items_on rest inner done [] item (Some text) value [] zero zero (Step.Key text) cuts (λ tail. refl)
      (items_same rest (inner ++ Step.Key text ∷ []) (done ++ []) (Some text) [] zero) refl
  items_same (Step.Key text ∷ rest) inner done item value (suc depth) cuts =
      items_on rest inner done [] item item value (value ++ Step.Key text ∷ []) (suc depth) (suc depth) (Step.Key text) cuts (λ tail. refl)
      (items_same rest (inner ++ Step.Key text ∷ []) (done ++ []) item (value ++ Step.Key text ∷ []) (suc depth)) refl
  items_same (Step.Text text ∷ rest) inner done item value zero cuts =
      items_on rest inner done (whole_entry item (value ++ Step.Text text ∷ []) ∷ []) item None value [] zero zero (Step.Text text) cuts
      (λ tail. refl)
      (items_same rest (inner ++ Step.Text text ∷ []) (done ++ (whole_entry item (value ++ Step.Text text ∷ []) ∷ [])) None [] zero) refl
  items_same (Step.Text text ∷ rest) inner done item value (suc depth) cuts =
      items_on rest inner done [] item item value (value ++ Step.Text text ∷ []) (suc depth) (suc depth) (Step.Text text) cuts
      (λ tail. refl)
      (items_same rest (inner ++ Step.Text text ∷ []) (done ++ []) item (value ++ Step.Text text ∷ []) (suc depth)) refl
  items_same (Step.Number text ∷ rest) inner done item value zero cuts =
      items_on rest inner done (whole_entry item (value ++ Step.Number text ∷ []) ∷ []) item None value [] zero zero (Step.Number text) cuts
      (λ tail. refl)
      (items_same rest (inner ++ Step.Number text ∷ []) (done ++ (whole_entry item (value ++ Step.Number text ∷ []) ∷ [])) None [] zero)
      refl
  items_same (Step.Number text ∷ rest) inner done item value (suc depth) cuts =
      items_on rest inner done [] item item value (value ++ Step.Number text ∷ []) (suc depth) (suc depth) (Step.Number text) cuts
      (λ tail. refl)
      (items_same rest (inner ++ Step.Number text ∷ []) (done ++ []) item (value ++ Step.Number text ∷ []) (suc depth)) refl
  items_same (Step.Word word ∷ rest) inner done item value zero cuts =
      items_on rest inner done (whole_entry item (value ++ Step.Word word ∷ []) ∷ []) item None value [] zero zero (Step.Word word) cuts
      (λ tail. refl)
      (items_same rest (inner ++ Step.Word word ∷ []) (done ++ (whole_entry item (value ++ Step.Word word ∷ []) ∷ [])) None [] zero) refl
  items_same (Step.Word word ∷ rest) inner done item value (suc depth) cuts =
      items_on rest inner done [] item item value (value ++ Step.Word word ∷ []) (suc depth) (suc depth) (Step.Word word) cuts
      (λ tail. refl)
      (items_same rest (inner ++ Step.Word word ∷ []) (done ++ []) item (value ++ Step.Word word ∷ []) (suc depth)) refl
