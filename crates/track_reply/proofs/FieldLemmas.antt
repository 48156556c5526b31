-- The fields of a row, written group by group.
use Rattle.std.proofs.Common.{◌≡◌, ℕ, List, [], ◌∷◌, ◌++◌, sym, ap, ◌∙◌, append_assoc}
use Rattle.std.specs.Fmt.{signed_decimal}
use Rattle.std.proofs.lemmas.Grind.{flat_map-append}
use Rattle.cost_model.specs.declared.facts.LinkFacts.{LinkFacts}
use Rattle.geo_int.specs.Place.{Place}
use Rattle.track_legs.specs.declared.row.Row.{Row}
use Rattle.track_reply.specs.Joined.{behind, parted}
use Rattle.track_reply.specs.Rows.{fields_of, height_field, length_fields, part_fields, place_fields, row_text, separator_of, tag_fields}
use Rattle.track_reply.specs.Source.{Source, end_spot}
use Rattle.track_reply.specs.declared.style.Style.{Style}

-- fields and more fields behind them
fields-append : (separator field : List ℕ) (fields more : List (List ℕ)) →
    parted separator ((field ∷ fields) ++ more) ≡ parted separator (field ∷ fields) ++ behind separator more
fields-append separator field fields more =
    ap (λ text. field ++ text) (flat_map-append (λ text. separator ++ text) fields more)
    ∙ sym (append_assoc field (behind separator fields) (behind separator more))

-- four groups of fields, each behind those before it
fields-four : (separator field : List ℕ) (fields a b c : List (List ℕ)) (first o1 o2 o3 new : List ℕ) →
    o1 ≡ first ++ parted separator (field ∷ fields) → o2 ≡ o1 ++ behind separator a → o3 ≡ o2 ++ behind separator b →
    new ≡ o3 ++ behind separator c → new ≡ first ++ parted separator ((field ∷ fields) ++ (a ++ (b ++ c)))
fields-four separator field fields a b c first o1 o2 o3 new e1 e2 e3 e4 =
    let P = parted separator (field ∷ fields) in
    let A = behind separator a in
    let B = behind separator b in
    let C = behind separator c in
    let g : List ℕ → List ℕ = λ text. separator ++ text in
    let whole : parted separator ((field ∷ fields) ++ (a ++ (b ++ c))) ≡ P ++ (A ++ (B ++ C)) =
    fields-append separator field fields (a ++ (b ++ c))
    ∙ ap (λ text. P ++ text) (flat_map-append g a (b ++ c) ∙ ap (λ text. A ++ text) (flat_map-append g b c)) in
    e4 ∙ ap (λ text. text ++ C) (e3 ∙ ap (λ text. text ++ B) (e2 ∙ ap (λ text. text ++ A) e1))
    ∙ append_assoc ((first ++ P) ++ A) B C ∙ append_assoc (first ++ P) A (B ++ C) ∙ append_assoc first P (A ++ (B ++ C))
    ∙ ap (λ text. first ++ text) (sym whole)

-- the groups of fields of a row are its text
pub row-written : (style : Style) (source : Source) (row : Row) (at : Place) (facts : LinkFacts) (first o1 o2 o3 new : List ℕ) →
    at ≡ end_spot source.map row.link → facts ≡ source.links.facts row.link →
    o1 ≡ first ++ parted (separator_of style) (place_fields source.height at) →
    o2 ≡ o1 ++ behind (separator_of style) (length_fields facts) → o3 ≡ o2 ++ behind (separator_of style) (part_fields row.parts) →
    new ≡ o3 ++ behind (separator_of style) (tag_fields style source.map source.table row.link facts.granted) →
    new ≡ first ++ row_text style source row
unfolding row_text fields_of place_fields
row-written style source row at facts first o1 o2 o3 new ends taken e1 e2 e3 e4 =
    let text_with : Place → LinkFacts → List ℕ = λ p f.
    first ++ parted (separator_of style) (place_fields source.height p
    ++ (length_fields f ++ (part_fields row.parts ++ tag_fields style source.map source.table row.link f.granted))) in
    let whole : new ≡ text_with at facts =
    fields-four (separator_of style) (signed_decimal at.lon) (signed_decimal at.lat ∷ height_field (source.height at) ∷ [])
    (length_fields facts) (part_fields row.parts)
    (tag_fields style source.map source.table row.link facts.granted) first o1 o2 o3 new e1 e2 e3 e4 in
    whole ∙ ap (λ p. text_with p facts) ends ∙ ap (λ f. text_with (end_spot source.map row.link) f) taken
