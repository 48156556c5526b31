-- The settled labels of a search as the labels of a certificate, one after the other.
use Rattle.std.proofs.Common.{◌≡◌, ℕ, zero, suc, List, [], ◌∷◌, ◌++◌, Some, take, refl, sym, ap, ◌∙◌}
use Rattle.std.specs.List.{slice_get}
use Rattle.certificate_text.specs.declared.certificate.Entry.{Entry}
use Rattle.cost_model.specs.declared.parts.Carry.{Carry}
use Rattle.space_search.specs.View.{Reached}
use Rattle.bike_space.specs.Closed.{Entry as Labelled}
use Rattle.bike_space.specs.Settled.{entries_of, entry_of}
use Rattle.route_certificate.specs.Entries.{carry_of, label_of, labels_of}

-- one label more on the one side
labels-push : (entries : List Entry) (entry : Entry) →
    labels_of (entries ++ entry ∷ []) ≡ labels_of entries ++ label_of entry ∷ []
labels-push [] entry = refl
labels-push (first ∷ entries) entry = ap (λ (l : List (Labelled Carry)). label_of first ∷ l) (labels-push entries entry)

-- and on the other
taken-push : (labels : List (Reached Carry)) (place : ℕ) (one : Reached Carry) → slice_get labels place ≡ Some one →
    entries_of (take (suc place) labels) ≡ entries_of (take place labels) ++ entry_of one ∷ []
taken-push [] place one at = absurd (cc)
taken-push (first ∷ labels) zero one at = let same : first ≡ one = cc in ap (λ (x : Reached Carry). entry_of x ∷ []) same
taken-push (first ∷ labels) (suc place) one at =
    ap (λ (l : List (Labelled Carry)). entry_of first ∷ l) (taken-push labels place one at)

-- so one label more on both
pub settled-more : (labels : List (Reached Carry)) (place : ℕ) (one : Reached Carry) (entries after : List Entry) (entry : Entry) →
    labels_of entries ≡ entries_of (take place labels) → slice_get labels place ≡ Some one →
    carry_of entry ≡ one.state → entry.cost ≡ one.cost → after ≡ entries ++ entry ∷ [] →
    labels_of after ≡ entries_of (take (suc place) labels)
settled-more labels place one entries after entry so_far at state cost grown =
    let same : label_of entry ≡ entry_of one =
    ap (λ (s : Carry). (s, entry.cost)) state ∙ ap (λ (n : ℕ). (one.state, n)) cost in
    ap labels_of grown ∙ labels-push entries entry
    ∙ ap (λ (l : List (Labelled Carry)). l ++ label_of entry ∷ []) so_far
    ∙ ap (λ (x : Labelled Carry). entries_of (take place labels) ++ x ∷ []) same
    ∙ sym (taken-push labels place one at)

-- the settled label of a label of a certificate, at its place
pub record IsSettledAs (labels : List (Reached Carry)) (place : ℕ) (entry : Entry) : Type 0 where
  pub one : Reached Carry
  pub there : slice_get labels place ≡ Some one
  pub is : entry_of one ≡ label_of entry

-- there is one
pub settled-as : (entries : List Entry) (labels : List (Reached Carry)) → labels_of entries ≡ entries_of labels →
    (place : ℕ) (entry : Entry) → slice_get entries place ≡ Some entry → IsSettledAs labels place entry
settled-as [] labels same place entry at = absurd (cc)
settled-as (first ∷ entries) [] same place entry at = absurd (cc)
settled-as (first ∷ entries) (one ∷ labels) same zero entry at =
    let mine : first ≡ entry = cc in
    let heads : label_of first ≡ entry_of one = cc in
    record { one = one; there = refl; is = sym heads ∙ ap label_of mine }
settled-as (first ∷ entries) (one ∷ labels) same (suc place) entry at =
    let rest : labels_of entries ≡ entries_of labels = cc in
    let s = settled-as entries labels rest place entry at in
    record { one = s.one; there = s.there; is = s.is }
