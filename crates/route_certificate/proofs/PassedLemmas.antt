-- What the covering test passes over covers nothing.
use Rattle.std.proofs.Common.{◌≡◌, inl, inr, ℕ, ◌+◌, ◌<◌, ◌≤◌, false, List, Some, IsTrue, refl, sym, ap, ◌∙◌, subst, length, arith}
use Rattle.std.proofs.lemmas.Bool.{cases_eq, cases_lt}
use Rattle.std.proofs.lemmas.Option.{slice_get_within}
use Rattle.std.specs.List.{slice_get}
use Rattle.cost_model.specs.declared.parts.Carry.{Carry}
use Rattle.space_search.specs.Laws.{IsSpace}
use Rattle.space_search.specs.Rules.{Rules}
use Rattle.bike_space.specs.Closed.{Entry as Labelled, IsCoveredIn}
use Rattle.certificate_text.specs.declared.certificate.Entry.{Entry}
use Rattle.route_certificate.proofs.EntryLemmas.{label-of, of-label}
use Rattle.route_certificate.specs.Entries.{AreBounded, carry_of, label_of, labels_of}
use Rattle.route_certificate.specs.Index.{AreRows, AreSpans, IsLower, IsRun, low_at, low_of}
use Rattle.route_certificate.specs.declared.rows.Row.{Row}
use Rattle.route_certificate.specs.declared.spans.Span.{Span}
use Rattle.route_certificate.proofs.IndexLemmas.{lower-lower, one-there}

-- no label of a row of the span before a place covers the state at this cost
pub record IsPassed (rules : Rules Carry) (entries : List Entry) (rows : List Row) (state : Carry) (cost first place : ℕ)
    : Type 0 where
  pub passed :
      (at : ℕ) (row : Row) (entry : Entry) → first ≤ at → at < place → slice_get rows at ≡ Some row →
      slice_get entries row.place ≡ Some entry → IsTrue (rules.covers (carry_of entry) entry.cost state cost) → ⊥

module _ (rules : Rules Carry) (laws : IsSpace rules) (entries : List Entry) (bounded : AreBounded rules entries)
    (rows : List Row) (are : AreRows rules entries rows) (state : Carry) (cost : ℕ)
    (valid : IsTrue (rules.is_valid state)) where
  -- what covers has no number greater
  covers-lower : (place : ℕ) (entry : Entry) → slice_get entries place ≡ Some entry →
      IsTrue (rules.covers (carry_of entry) entry.cost state cost) →
      IsLower (low_of rules entry) (low_at (rules.point state cost) cost)
  covers-lower place entry at covers = record {
    under = laws.covering.under (carry_of entry) state entry.cost cost (bounded place entry at).valid valid covers;
    cost = laws.covering.cheaper (carry_of entry) state entry.cost cost (bounded place entry at).valid valid covers;
  }

  -- a row that doesn't cover is passed
  pub passed-row : (first place : ℕ) (row : Row) (entry : Entry) → IsPassed rules entries rows state cost first place →
      slice_get rows place ≡ Some row → slice_get entries row.place ≡ Some entry →
      rules.covers (carry_of entry) entry.cost state cost ≡ false →
      IsPassed rules entries rows state cost first (place + 1)
  passed-row first place row entry before here is not_covers = record {
    passed = λ at other one from below there of covers.
        elim (cases_eq at place) [
          | inl same ↦
              let same_row : other ≡ row = one-there rows at place other row there here same in
              let same_entry : one ≡ entry = one-there entries other.place row.place one entry of is
              (ap (λ (r : Row). r.place) same_row) in
              let covers_entry = subst (λ (e : Entry). IsTrue (rules.covers (carry_of e) e.cost state cost)) same_entry
              covers in
              let never : ⊥ = cc in
              never
          | inr differ ↦ before.passed at other one from (omega (arith, below, differ)) there of covers
        ];
  }

  -- a run of which a number is greater is passed
  pub passed-run : (first place : ℕ) (row : Row) → IsPassed rules entries rows state cost first place →
      IsRun rows place row → (IsLower row.low (low_at (rules.point state cost) cost) → ⊥) →
      IsPassed rules entries rows state cost first row.end
  passed-run first place row before run greater = record {
    passed = λ at other one from below there of covers.
        elim (cases_lt at place) [
          | inl earlier ↦ before.passed at other one from earlier there of covers
          | inr later ↦
              let is = are.each at other there in
              let same : is.entry ≡ one = one-there entries other.place other.place is.entry one is.there of refl in
              let own = subst (λ (e : Entry). IsLower other.low (low_of rules e)) same is.of.low in
              greater (lower-lower row.low other.low _ (run.lower at other later below there)
              (lower-lower other.low (low_of rules one) _ own (covers-lower other.place one of covers)))
        ];
  }

  -- where all rows of a slot are passed, no label covers
  pub passed-all : (spans : List Span) (span : Span) (place : ℕ) → AreSpans rules.slots rows (length rows) spans →
      slice_get spans (rules.slot state) ≡ Some span → IsPassed rules entries rows state cost span.first place →
      ((at : ℕ) → at < length rows → at < span.end → at < place) →
      IsCoveredIn rules (labels_of entries) state cost → ⊥
  passed-all spans span place are_spans in_span before until c =
      let s = label-of entries c.entry c.there in
      let covers = subst (λ (e : Labelled Carry). IsTrue (rules.covers e.0 e.1 state cost)) (sym s.is) c.covers in
      let has = are.all s.place (slice_get_within entries s.place s.entry s.there) in
      let of : slice_get entries has.row.place ≡ Some s.entry = ap (slice_get entries) has.of ∙ s.there in
      let is = are.each has.at has.row has.there in
      let same : is.entry ≡ s.entry =
      one-there entries has.row.place has.row.place is.entry s.entry is.there of refl in
      let slot : has.row.slot ≡ rules.slot state =
      is.of.slot ∙ ap (λ (e : Entry). rules.slot (carry_of e)) same
      ∙ laws.covering.one_slot (carry_of s.entry) state s.entry.cost cost (bounded s.place s.entry s.there).valid valid
      covers in
      let within = slice_get_within rows has.at has.row has.there in
      let in_its = are_spans.each has.at has.row span within has.there (ap (slice_get spans) slot ∙ in_span) in
      before.passed has.at has.row s.entry in_its.first (until has.at within in_its.end) has.there of covers

  -- a label that covers
  pub covered-by : (place : ℕ) (entry : Entry) → slice_get entries place ≡ Some entry →
      IsTrue (rules.covers (carry_of entry) entry.cost state cost) → IsCoveredIn rules (labels_of entries) state cost
  covered-by place entry at covers =
      record { entry = label_of entry; there = of-label entries place entry at; covers = covers }
