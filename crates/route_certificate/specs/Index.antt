-- The labels of a list by their slots and their numbers (this project's own rule).
use Rattle.std.specs.Prelude.{ℕ, ◌≡◌, ◌<◌, ◌≤◌, List, Some, length}
use Rattle.std.specs.List.{slice_get}
use Rattle.certificate_text.specs.declared.certificate.Entry.{Entry}
use Rattle.cost_model.specs.declared.parts.Carry.{Carry}
use Rattle.space_search.specs.Rules.{Rules, IsUnder}
use Rattle.space_search.specs.declared.point.Point.{Point}
use Rattle.route_certificate.specs.Entries.{carry_of}
use Rattle.route_certificate.specs.declared.index.Index.{Index}
use Rattle.route_certificate.specs.declared.low.Low.{Low}
use Rattle.route_certificate.specs.declared.rows.Row.{Row}
use Rattle.route_certificate.specs.declared.spans.Span.{Span}

-- ---- Numbers

-- the numbers of a point and a cost
abbrev pub low_at : Point → ℕ → Low
low_at point cost = record { point = point; cost = cost }

-- the numbers of a label
abbrev pub low_of : Rules Carry → Entry → Low
low_of rules entry = low_at (rules.point (carry_of entry) entry.cost) entry.cost

-- the first has no number greater than the second
pub record IsLower (a b : Low) : Type 0 where
  pub under : IsUnder a.point b.point
  pub cost : a.cost ≤ b.cost

-- ---- Rows

-- the row has the label's slot, and no number greater than the label
pub record IsRowOf (rules : Rules Carry) (entry : Entry) (row : Row) : Type 0 where
  pub slot : row.slot ≡ rules.slot (carry_of entry)
  pub low : IsLower row.low (low_of rules entry)

-- so it is of the label at the row's place
pub record IsRow (rules : Rules Carry) (entries : List Entry) (row : Row) : Type 0 where
  pub entry : Entry
  pub there : slice_get entries row.place ≡ Some entry
  pub of : IsRowOf rules entry row

-- one of the rows is of the label at this place
pub record HasRow (rows : List Row) (place : ℕ) : Type 0 where
  pub at : ℕ
  pub row : Row
  pub there : slice_get rows at ≡ Some row
  pub of : row.place ≡ place

-- the rows of the first labels, so many of them, in the order of their places
pub record ArePlaced (rules : Rules Carry) (entries : List Entry) (count : ℕ) (rows : List Row)
    : Type 0 where
  pub counted : length rows ≡ count
  pub each : (at : ℕ) (row : Row) → slice_get rows at ≡ Some row → IsRow rules entries row
  pub placed : (at : ℕ) (row : Row) → slice_get rows at ≡ Some row → row.place ≡ at

-- each row is of a label, and each label has a row
pub record AreRows (rules : Rules Carry) (entries : List Entry) (rows : List Row) : Type 0 where
  pub each : (at : ℕ) (row : Row) → slice_get rows at ≡ Some row → IsRow rules entries row
  pub all : (place : ℕ) → place < length entries → HasRow rows place

-- ---- Runs and spans

-- a run of rows from a place to before an end behind it: none of their numbers is less than these
pub record IsRunTo (rows : List Row) (at : ℕ) (low : Low) (end : ℕ) : Type 0 where
  pub after : at < end
  pub lower :
      (place : ℕ) (other : Row) → at ≤ place → place < end → slice_get rows place ≡ Some other →
      IsLower low other.low

-- the row that stands at this place has its run
abbrev pub IsRun : (rows : List Row) (at : ℕ) (row : Row) → Type 0
IsRun rows at row = IsRunTo rows at row.low row.end

-- the rows from a place on have their runs
abbrev pub HaveRuns : (rows : List Row) (from : ℕ) → Type 0
HaveRuns rows from = (at : ℕ) (row : Row) → from ≤ at → slice_get rows at ≡ Some row → IsRun rows at row

-- the place is one of the span
pub record IsIn (at : ℕ) (span : Span) : Type 0 where
  pub first : span.first ≤ at
  pub end : at < span.end

-- each of the first rows, so many of them, stands in the span of its slot
pub record AreSpans (width : ℕ) (rows : List Row) (count : ℕ) (spans : List Span) : Type 0 where
  pub slots : length spans ≡ width
  pub each :
      (at : ℕ) (row : Row) (span : Span) → at < count → slice_get rows at ≡ Some row →
      slice_get spans row.slot ≡ Some span → IsIn at span

-- all labels as rows, with their runs and the spans of their slots
pub record IsIndex (rules : Rules Carry) (entries : List Entry) (index : Index) : Type 0 where
  pub rows : AreRows rules entries index.rows.items
  pub runs : HaveRuns index.rows.items 0
  pub spans : AreSpans rules.slots index.rows.items (length index.rows.items) index.spans.items
