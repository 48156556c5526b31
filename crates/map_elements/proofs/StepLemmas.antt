-- Steps that are kept stay what they are while more bytes come behind theirs.
use Rattle.std.proofs.Common.{◌≡◌, ℕ, zero, suc, ◌+◌, ◌≤◌, List, [], ◌∷◌, ◌++◌, length, take, drop, refl, sym, ap, ◌∙◌, arith, length-drop, subst}
use Rattle.std.proofs.lemmas.List.{length-append, map_push, take_all, take-append-le, drop-append-le}
use Rattle.std.proofs.Math.Seq.{drop-append_seam}
use Rattle.std.specs.Prelude.{Bool, true, false, if◌then◌else◌}
use Rattle.map_elements.specs.declared.steps.Row.{Row}
use Rattle.json_text.specs.declared.step.JsonStep.{JsonStep}
use Rattle.json_text.specs.Steps.{step_for}
use Rattle.map_elements.specs.Steps.{content_in, step_in, steps_in, AreWithin}

-- rows within bytes are within them when more come
AreWithin-more : (bytes more : List ℕ) (rows : List Row) → AreWithin bytes rows → AreWithin (bytes ++ more) rows
AreWithin-more bytes more [] h = h
AreWithin-more bytes more (row ∷ rows) h = (omega (arith, length-append bytes more, h.0), AreWithin-more bytes more rows h.1)

-- so they are with one row more
AreWithin-push : (bytes : List ℕ) (rows : List Row) (row : Row) → AreWithin bytes rows → row.start + row.length ≤ length bytes →
    AreWithin bytes (rows ++ row ∷ [])
AreWithin-push bytes [] row h fits = (fits, h)
AreWithin-push bytes (r ∷ rows) row h fits = (h.0, AreWithin-push bytes rows row h.1 fits)

-- a row's content stays
content_in-more : (bytes more : List ℕ) (row : Row) → row.start + row.length ≤ length bytes →
    content_in (bytes ++ more) row ≡ content_in bytes row
content_in-more bytes more row fits =
    let start : row.start ≤ length bytes = omega (arith, fits) in
    ap (take row.length) (drop-append-le row.start bytes more start)
    ∙ take-append-le row.length (drop row.start bytes) more (omega (arith, fits, length-drop row.start bytes))

-- the steps of rows stay
pub steps_in-more : (bytes more : List ℕ) (rows : List Row) → AreWithin bytes rows → steps_in (bytes ++ more) rows ≡ steps_in bytes rows
steps_in-more bytes more [] h = refl
steps_in-more bytes more (row ∷ rows) h =
    ap (λ text. step_for row.step text ∷ steps_in (bytes ++ more) rows) (content_in-more bytes more row h.0)
    ∙ ap (λ steps. step_in bytes row ∷ steps) (steps_in-more bytes more rows h.1)

-- the row of a content that was put behind the bytes
abbrev pub next_row : List ℕ → JsonStep → ℕ → Row
next_row bytes step size = record { start = length bytes; length = size; step = step }

-- its content is that
content_in-next : (bytes text : List ℕ) (step : JsonStep) → content_in (bytes ++ text) (next_row bytes step (length text)) ≡ text
content_in-next bytes text step = ap (take (length text)) (drop-append_seam bytes text) ∙ take_all (length text) text (omega arith)

-- where a content was put behind the bytes, and its row behind the rows or not, one step is more or none
module _ (old text new : List ℕ) (rows after : List Row) (step : JsonStep) (row : Row) (within : AreWithin old rows) (bytes : new ≡ old ++
    text)
    (is : row ≡ next_row old step (length text)) where
  pub steps_in-push : (pushed : Bool) → after ≡ (if pushed then rows ++ row ∷ [] else rows) →
      steps_in new after ≡ (if pushed then steps_in old rows ++ step_for step text ∷ [] else steps_in old rows)
  steps_in-push true e =
      ap (λ b. steps_in b after) bytes
      ∙ ap (λ r. steps_in (old ++ text) r) e
      ∙ map_push (step_in (old ++ text)) rows row
      ∙ ap (λ s. s ++ step_in (old ++ text) row ∷ []) (steps_in-more old text rows within)
      ∙ ap (λ r. steps_in old rows ++ step_in (old ++ text) r ∷ []) is
      ∙ ap (λ t. steps_in old rows ++ step_for step t ∷ []) (content_in-next old text step)
  steps_in-push false e = ap (λ b. steps_in b after) bytes ∙ ap (λ r. steps_in (old ++ text) r) e ∙ steps_in-more old text rows within

  -- and the rows are within the bytes
  pub AreWithin-next : (pushed : Bool) → after ≡ (if pushed then rows ++ row ∷ [] else rows) → AreWithin new after
  AreWithin-next true e =
      subst (λ (b : List ℕ). AreWithin b after) (sym bytes)
      (subst (λ (r : List Row). AreWithin (old ++ text) r) (sym e)
      (AreWithin-push (old ++ text) rows row (AreWithin-more old text rows within)
      (subst (λ (r : Row). r.start + r.length ≤ length (old ++ text)) (sym is) (omega (arith, length-append old text)))))
  AreWithin-next false e =
      subst (λ (b : List ℕ). AreWithin b after) (sym bytes)
      (subst (λ (r : List Row). AreWithin (old ++ text) r) (sym e) (AreWithin-more old text rows within))

-- the row of a step without content
abbrev pub bare_row : JsonStep → Row
bare_row step = record { start = 0; length = 0; step = step }

-- where such a row was put behind the rows or not, one step is more or none
module _ (bytes : List ℕ) (rows after : List Row) (step : JsonStep) where
  pub steps_in-bare : (pushed : Bool) → after ≡ (if pushed then rows ++ bare_row step ∷ [] else rows) →
      steps_in bytes after ≡ (if pushed then steps_in bytes rows ++ step_for step [] ∷ [] else steps_in bytes rows)
  steps_in-bare true e = ap (steps_in bytes) e ∙ map_push (step_in bytes) rows (bare_row step)
  steps_in-bare false e = ap (steps_in bytes) e

  -- and the rows are within the bytes
  pub AreWithin-bare : AreWithin bytes rows → (pushed : Bool) → after ≡ (if pushed then rows ++ bare_row step ∷ [] else rows) →
      AreWithin bytes after
  AreWithin-bare within true e =
      subst (λ (r : List Row). AreWithin bytes r) (sym e) (AreWithin-push bytes rows (bare_row step) within (omega arith))
  AreWithin-bare within false e = subst (λ (r : List Row). AreWithin bytes r) (sym e) within

-- ---- Parts

-- the rows behind the first ones are within the bytes
pub AreWithin-drop : (bytes : List ℕ) (n : ℕ) (rows : List Row) → AreWithin bytes rows → AreWithin bytes (drop n rows)
AreWithin-drop bytes zero rows h = h
AreWithin-drop bytes (suc n) [] h = h
AreWithin-drop bytes (suc n) (row ∷ rows) h = AreWithin-drop bytes n rows h.1

-- so are the first ones
pub AreWithin-take : (bytes : List ℕ) (n : ℕ) (rows : List Row) → AreWithin bytes rows → AreWithin bytes (take n rows)
AreWithin-take bytes zero rows h = record {}
AreWithin-take bytes (suc n) [] h = h
AreWithin-take bytes (suc n) (row ∷ rows) h = (h.0, AreWithin-take bytes n rows h.1)
