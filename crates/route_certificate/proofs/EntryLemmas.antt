-- Labels as states at costs, and what is said of each of them.
use Rattle.std.proofs.Common.{◌≡◌, inl, inr, ℕ, pos, zero, suc, ◌+◌, ◌<◌, List, [], ◌∷◌, Some, refl, sym, ap, ◌∙◌, subst, get_or, arith}
use Rattle.std.proofs.lemmas.Bool.{cases_eq}
use Rattle.std.proofs.lemmas.Option.{get_or_from_slice_get}
use Rattle.std.specs.List.{Contains, slice_get}
use Rattle.cost_model.specs.declared.parts.Carry.{Carry}
use Rattle.bike_space.specs.Closed.{Entry as Labelled}
use Rattle.certificate_text.specs.declared.certificate.Entry.{Entry}
use Rattle.route_certificate.specs.Entries.{label_of, labels_of}

-- no label
abbrev pub no_entry : Entry
no_entry = record { cost = 0; down = pos 0; up = pos 0; link = 0 }

-- each label is that of an entry
pub record IsOfEntry (entries : List Entry) (label : Labelled Carry) : Type 0 where
  pub place : ℕ
  pub entry : Entry
  pub there : slice_get entries place ≡ Some entry
  pub is : label_of entry ≡ label

pub label-of : (entries : List Entry) (label : Labelled Carry) → Contains (labels_of entries) label →
    IsOfEntry entries label
label-of [] label (k, below, is) = absurd (omega arith)
label-of (first ∷ entries) label (zero, below, is) = record { place = 0; entry = first; there = refl; is = is }
label-of (first ∷ entries) label (suc k, below, is) =
    let s = label-of entries label (k, omega arith, is) in
    record { place = suc s.place; entry = s.entry; there = s.there; is = s.is }

-- and each entry has its label
pub of-label : (entries : List Entry) (place : ℕ) (entry : Entry) → slice_get entries place ≡ Some entry →
    Contains (labels_of entries) (label_of entry)
of-label [] place entry at = absurd (cc)
of-label (first ∷ entries) zero entry at =
    let same : first ≡ entry = cc in
    (0, omega arith, ap label_of same)
of-label (first ∷ entries) (suc place) entry at =
    let c = of-label entries place entry at in (suc c.0, omega (arith, c.1), c.2)

-- what is said of each of the first labels and of the one after them is said of one more
pub each-more : (P : Entry → Type 0) (entries : List Entry) (count : ℕ) → P (get_or entries count no_entry) →
    ((place : ℕ) (entry : Entry) → place < count → slice_get entries place ≡ Some entry → P entry) →
    (place : ℕ) (entry : Entry) → place < count + 1 → slice_get entries place ≡ Some entry → P entry
each-more P entries count here before place entry below at =
    elim (cases_eq place count) [
      | inl same ↦
          subst P (ap (λ n. get_or entries n no_entry) (sym same) ∙ get_or_from_slice_get entries place entry no_entry at) here
      | inr other ↦ before place entry (omega (arith, below, other)) at
    ]
