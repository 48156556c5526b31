-- The rows of walks and of legs, one more at a time.
use Rattle.std.proofs.Common.{◌≡◌, ℕ, suc, ◌+◌, ◌<◌, List, [], ◌∷◌, ◌++◌, length, take, get_or, sym, ap, ◌∙◌, subst, arith, append_assoc}
use Rattle.std.proofs.Math.Seq.{take-suc}
use Rattle.std.proofs.lemmas.List.{append-nil, get_or_default}
use Rattle.cost_model.specs.Walks.{parts_at}
use Rattle.cost_model.specs.Prices.{Prices}
use Rattle.cost_model.specs.declared.facts.LinkFacts.{LinkFacts}
use Rattle.cost_model.specs.declared.parts.Parts.{Parts}
use Rattle.track_legs.specs.Rows.{AreBelow, HasLinksBelow, row_at, rows_before, rows_of_walk, rows_of_legs}
use Rattle.track_legs.specs.Tracks.{leg_at, no_leg}
use Rattle.track_legs.specs.declared.row.Row.{Row}
use Rattle.track_legs.specs.declared.track.Leg.{Leg}
use Rattle.track_legs.specs.declared.track.Track.{Track}

module _ (p : Prices) (f : ℕ → LinkFacts)
  where
    -- the rows of one leg more
    pub legs-next : (legs : List Leg) (leg : Leg) →
        rows_of_legs p f (legs ++ leg ∷ []) ≡ rows_of_legs p f legs ++ rows_of_walk p f leg.links
    legs-next [] leg = append-nil (rows_of_walk p f leg.links)
    legs-next (first ∷ legs) leg =
        ap (λ rows. rows_of_walk p f first.links ++ rows) (legs-next legs leg)
        ∙ sym (append_assoc (rows_of_walk p f first.links) (rows_of_legs p f legs) (rows_of_walk p f leg.links))

    -- the rows of the legs before a place and of the one at it
    pub legs-more : (track : Track) (legs : List Leg) (place : ℕ) (leg : Leg) (walk : List ℕ) (old new : List Row) →
        legs ≡ track.legs → place < length legs → walk ≡ (get_or legs place leg).links → old ≡ rows_of_legs p f (take place track.legs) →
        new ≡ old ++ rows_of_walk p f walk → new ≡ rows_of_legs p f (take (place + 1) track.legs)
    legs-more track legs place leg walk old new same below links so_far added =
        let one : place + 1 ≡ suc place = omega arith in
        let more : take (place + 1) legs ≡ take place legs ++ get_or legs place leg ∷ [] =
        ap (λ n. take n legs) one ∙ take-suc legs place leg below in
        let pushed : rows_of_legs p f (take (place + 1) legs)
        ≡ rows_of_legs p f (take place legs) ++ rows_of_walk p f walk =
        ap (λ ls. rows_of_legs p f ls) more ∙ legs-next (take place legs) (get_or legs place leg)
        ∙ ap (λ w. rows_of_legs p f (take place legs) ++ rows_of_walk p f w) (sym links) in
        added
        ∙ ap (λ rows. rows ++ rows_of_walk p f walk) (so_far ∙ ap (λ ls. rows_of_legs p f (take place ls)) (sym same))
        ∙ sym pushed ∙ ap (λ ls. rows_of_legs p f (take (place + 1) ls)) same

    -- the rows of a walk before a place and the one at it
    pub rows-more : (walk : List ℕ) (place : ℕ) (parts : Parts) (old now new : List Row) →
        parts ≡ parts_at p f walk place → now ≡ old ++ rows_before p f walk place →
        new ≡ now ++ record { link = get_or walk place 0; parts = parts } ∷ [] →
        new ≡ old ++ rows_before p f walk (place + 1)
    rows-more walk place parts old now new is so_far added =
        let row : List Row = row_at p f walk place ∷ [] in
        let one : place + 1 ≡ suc place = omega arith in
        added
        ∙ ap (λ q. now ++ record { link = get_or walk place 0; parts = q } ∷ []) is
        ∙ ap (λ rows. rows ++ row) so_far
        ∙ append_assoc old (rows_before p f walk place) row
        ∙ ap (λ n. old ++ rows_before p f walk n) (sym one)

-- the links of a leg are below the count
pub leg-below : (count : ℕ) (track : Track) (legs : List Leg) (place : ℕ) (leg : Leg) (walk : List ℕ) →
    HasLinksBelow count track → legs ≡ track.legs → place < length legs → walk ≡ (get_or legs place leg).links →
    AreBelow count walk
leg-below count track legs place leg walk inside same below links =
    let within : place < length track.legs = subst (λ (ls : List Leg). place < length ls) same below in
    let there : (leg_at track place).links ≡ walk =
    ap (λ (ls : List Leg). (get_or ls place no_leg).links) (sym same)
    ∙ ap (λ (l : Leg). l.links) (get_or_default legs place no_leg leg below) ∙ sym links in
    subst (λ w. AreBelow count w) there (inside place within)
