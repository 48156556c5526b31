-- Links below a count: those of rows, and those of the walks of a track.
use Rattle.std.proofs.Common.{◌≡◌, ℕ, zero, suc, ◌-◌, ◌<◌, ◌≤◌, inl, inr, List, [], ◌∷◌, ◌++◌, length, get_or, refl, sym, ◌∙◌, subst, arith, length-append}
use Rattle.std.proofs.lemmas.Bool.{cases_lt}
use Rattle.std.proofs.lemmas.List.{get_or_append_left, get_or-append_right, get_or_default}
use Rattle.cost_model.specs.Prices.{Prices}
use Rattle.cost_model.specs.declared.facts.LinkFacts.{LinkFacts}
use Rattle.track_legs.specs.Rows.{AreBelow, row_at, rows_before, rows_of_legs, rows_of_walk}
use Rattle.track_legs.specs.Tracks.{no_leg}
use Rattle.track_legs.specs.declared.row.Row.{Row}
use Rattle.track_legs.specs.declared.track.Leg.{Leg}
use Rattle.track_reply.specs.Showable.{AreLegsBelow, AreRowsBelow, no_row}

-- the item at a place, whatever stands for one that isn't there
pub at_default : {A : Type 0} (xs : List A) (place : ℕ) (x d other : A) → place < length xs → x ≡ get_or xs place d →
    x ≡ get_or xs place other
at_default xs place x d other inside is = is ∙ get_or_default xs place d other inside

module _ (count : ℕ)
  where
    -- rows one after the other
    rows-append : (xs ys : List Row) → AreRowsBelow count xs → AreRowsBelow count ys → AreRowsBelow count (xs ++ ys)
    rows-append xs ys first second k inside =
        elim (cases_lt k (length xs)) [
          | inl within ↦ subst (λ (r : Row). r.link < count) (sym (get_or_append_left xs ys no_row k within)) (first k within)
          | inr beyond ↦
              subst (λ (r : Row). r.link < count) (sym (get_or-append_right xs ys (length xs) k no_row refl beyond))
              (second (k - length xs) (omega (arith, inside, beyond, length-append xs ys)))
        ]

    -- a row alone
    row-alone : (row : Row) → row.link < count → AreRowsBelow count (row ∷ [])
    row-alone row below zero inside = below
    row-alone row below (suc k) inside = absurd (omega (arith, inside))

    module _ (prices : Prices) (facts : ℕ → LinkFacts)
      where
        -- the rows of a walk
        walk-rows : (walk : List ℕ) (position : ℕ) → AreBelow count walk → position ≤ length walk →
            AreRowsBelow count (rows_before prices facts walk position)
        walk-rows walk zero below within = λ k inside. absurd (omega (arith, inside))
        walk-rows walk (suc position) below within =
            rows-append (rows_before prices facts walk position) (row_at prices facts walk position ∷ [])
            (walk-rows walk position below (omega (arith, within)))
            (row-alone (row_at prices facts walk position) (below position (omega (arith, within))))

        -- the rows of legs
        pub legs-rows : (legs : List Leg) → AreLegsBelow count legs → AreRowsBelow count (rows_of_legs prices facts legs)
        legs-rows [] below = λ k inside. absurd (omega (arith, inside))
        legs-rows (leg ∷ legs) below =
            rows-append (rows_of_walk prices facts leg.links) (rows_of_legs prices facts legs)
            (walk-rows leg.links (length leg.links) (below 0 (omega arith)) (omega arith))
            (legs-rows legs (λ k inside. below (suc k) (omega (arith, inside))))

    -- the link of a row
    pub row-below : (rows : List Row) (place : ℕ) (row : Row) → AreRowsBelow count rows → place < length rows →
        row ≡ get_or rows place no_row → row.link < count
    row-below rows place row below inside is = subst (λ (r : Row). r.link < count) (sym is) (below place inside)

    -- the links of a leg
    pub leg-below : (legs : List Leg) (place : ℕ) (leg : Leg) → AreLegsBelow count legs → place < length legs →
        leg ≡ get_or legs place leg → AreBelow count leg.links
    leg-below legs place leg below inside is =
        subst (λ (l : Leg). AreBelow count l.links) (sym (is ∙ get_or_default legs place leg no_leg inside)) (below place inside)
