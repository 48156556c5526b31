-- Values are read one by one into a list.
use Rattle.std.proofs.Common.{◌≡◌, ℤ, List, [], ◌∷◌, ◌++◌, Option, Some, None, refl, sym, ap, ◌∙◌, append_assoc}
use Rattle.std.proofs.lemmas.List.{append-nil}
use Rattle.json_text.specs.Marks.{Step}
use Rattle.map_elements.specs.Fields.{with_some, whole_number_of, whole_numbers_of, member_of, members_from}
use Rattle.map_tables.specs.declared.member.Member.{Member}

-- all values come to these and what the values that are left come to
abbrev pub ReadsOn : {V A : Type 0} → (List V → Option (List A)) → List V → List A → List V → Type 0
ReadsOn read all done left = read all ≡ with_some (read left) (λ more. Some (done ++ more))

-- one goes before what the others come to
cons_some : {A : Type 0} (done : List A) (a : A) (more : Option (List A)) →
    with_some (with_some more (λ more. Some (a ∷ more))) (λ more. Some (done ++ more)) ≡
    with_some more (λ more. Some ((done ++ a ∷ []) ++ more))
cons_some done a None = refl
cons_some done a (Some more) = ap (λ l. Some l) (sym (append_assoc done (a ∷ []) more))

-- a reader that reads each value by another
module _ {V A : Type 0} (read : List V → Option (List A)) (one : V → Option A)
    (cons : (v : V) (vs : List V) → read (v ∷ vs) ≡ with_some (one v) (λ a. with_some (read vs) (λ more. Some (a ∷ more)))) where
  -- one more is read
  ReadsOn-step : (all : List V) (done : List A) (v : V) (left : List V) (a : A) → ReadsOn read all done (v ∷ left) → one v ≡ Some a →
      ReadsOn read all (done ++ a ∷ []) left
  ReadsOn-step all done v left a h is =
      h
      ∙ ap (λ o. with_some o (λ more. Some (done ++ more))) (cons v left
      ∙ ap (λ o. with_some o (λ a. with_some (read left) (λ more. Some (a ∷ more)))) is)
      ∙ cons_some done a (read left)

  -- one is something else
  ReadsOn-stop : (all : List V) (done : List A) (v : V) (left : List V) → ReadsOn read all done (v ∷ left) → one v ≡ None → read all ≡ None
  ReadsOn-stop all done v left h is =
      h ∙ ap (λ o. with_some o (λ more. Some (done ++ more))) (cons v left
      ∙ ap (λ o. with_some o (λ a. with_some (read left) (λ more. Some (a ∷ more)))) is)

-- so whole numbers are read
pub numbers_step : (all : List (List Step)) (done : List ℤ) (v : List Step) (left : List (List Step)) (a : ℤ) →
    ReadsOn whole_numbers_of all done (v ∷ left) → whole_number_of v ≡ Some a → ReadsOn whole_numbers_of all (done ++ a ∷ []) left
numbers_step = ReadsOn-step whole_numbers_of whole_number_of (λ v vs. refl)

-- one is no whole number
pub numbers_stop : (all : List (List Step)) (done : List ℤ) (v : List Step) (left : List (List Step)) →
    ReadsOn whole_numbers_of all done (v ∷ left) → whole_number_of v ≡ None → whole_numbers_of all ≡ None
numbers_stop = ReadsOn-stop whole_numbers_of whole_number_of (λ v vs. refl)

-- so members are read
pub members_step : (all : List (List Step)) (done : List Member) (v : List Step) (left : List (List Step)) (a : Member) →
    ReadsOn members_from all done (v ∷ left) → member_of v ≡ Some a → ReadsOn members_from all (done ++ a ∷ []) left
members_step = ReadsOn-step members_from member_of (λ v vs. refl)

-- one is no member
pub members_stop : (all : List (List Step)) (done : List Member) (v : List Step) (left : List (List Step)) →
    ReadsOn members_from all done (v ∷ left) → member_of v ≡ None → members_from all ≡ None
members_stop = ReadsOn-stop members_from member_of (λ v vs. refl)

-- before the first value
pub ReadsOn-start : {V A : Type 0} (read : List V → Option (List A)) (all : List V) → ReadsOn read all [] all
ReadsOn-start read all = same (read all)
  where
    same : {A : Type 0} → (o : Option (List A)) → o ≡ with_some o (λ more. Some more)
    same None = refl
    same (Some more) = refl

-- behind the last
pub ReadsOn-end : {V A : Type 0} (read : List V → Option (List A)) (all : List V) (done : List A) → read [] ≡ Some [] →
    ReadsOn read all done [] → read all ≡ Some done
ReadsOn-end read all done none h = h ∙ ap (λ o. with_some o (λ more. Some (done ++ more))) none ∙ ap (λ l. Some l) (append-nil done)
