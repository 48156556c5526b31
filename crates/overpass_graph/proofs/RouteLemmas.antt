-- Tags given to ways by their places, and by their ids.
use Rattle.std.proofs.Common.{◌≡◌, ℕ, ℤ, Bool, true, false, List, [], ◌∷◌, slice_get, Some, None, Result, Ok, Err, refl, sym, ap, subst, ◌∙◌}
use Rattle.std.specs.Prelude.{if◌then◌else◌, slice_set, OnOk}
use Rattle.std.specs.Str.{bytes_eq}
use lib.Chars.{codes}
use Rattle.map_tables.specs.Kept.{Tag, AreDistinct, ids_of, place_of_id, with_tag}
use Rattle.map_tables.specs.declared.member.Member.{Member}
use Rattle.map_tables.proofs.CallerLemmas.{place_in-none, place_in-some, same_number}
use Rattle.overpass_graph.specs.Members.{KeptWay, tag_once}
use Rattle.overpass_graph.specs.Restrictions.{way_of}
use Rattle.overpass_graph.specs.RouteTags.{tag_with_id}
use Rattle.std.proofs.lemmas.Option.{same_Some}

-- an id that isn't there gets no tag
pub tagged-none : (id : ℤ) (tag : Tag) (ways : List KeptWay) → place_of_id id ways ≡ None → tag_with_id id tag ways ≡ ways
tagged-none id tag [] none = refl
tagged-none id tag (w ∷ ws) none =
    let (other, later) = place_in-none w.id (ids_of ws) id none in
    ap (λ b. (if b then with_tag tag w else w) ∷ tag_with_id id tag ws) other ∙ ap (λ rest. w ∷ rest) (tagged-none id tag ws later)

-- the tag for the way of an id stands at its place
pub tagged-one : (id : ℤ) (tag : Tag) (ways : List KeptWay) (i : ℕ) (k : KeptWay) → AreDistinct ways → place_of_id id ways ≡ Some i →
    slice_get ways i ≡ Some k
    → slice_set ways i (with_tag tag k) ≡ tag_with_id id tag ways
tagged-one id tag [] i k distinct found there = cc
tagged-one id tag (w ∷ ws) i k distinct found there =
    place_in-some w.id (ids_of ws) id i found
    (λ same first.
    let own : w.id ≡ id = same_number w.id id same in
    let later : place_of_id id ws ≡ None = ap (λ n. place_of_id n ws) (sym own) ∙ distinct.0 in
    let here : slice_get (w ∷ ws) 0 ≡ Some k = subst (λ n. slice_get (w ∷ ws) n ≡ Some k) first there in
    let is : w ≡ k = same_Some w k here in
    ap (λ n. slice_set (w ∷ ws) n (with_tag tag k)) first
    ∙ ap (λ x. with_tag tag x ∷ ws) (sym is)
    ∙ ap (λ rest. with_tag tag w ∷ rest) (sym (tagged-none id tag ws later))
    ∙ ap (λ b. (if b then with_tag tag w else w) ∷ tag_with_id id tag ws) (sym same))
    (λ j other found_later is.
    let here : slice_get ws j ≡ Some k = subst (λ n. slice_get (w ∷ ws) n ≡ Some k) is there in
    ap (λ n. slice_set (w ∷ ws) n (with_tag tag k)) is
    ∙ ap (λ rest. w ∷ rest) (tagged-one id tag ws j k distinct.1 found_later here)
    ∙ ap (λ b. (if b then with_tag tag w else w) ∷ tag_with_id id tag ws) (sym other))

-- a member that is no way of the map tags none
pub once-none : (tag : Tag) (m : Member) (ways : List KeptWay) → way_of ways m ≡ None → tag_once tag m ways ≡ ways
once-none tag m ways none = by_kind (bytes_eq m.kind (codes "way")) none
  where
    by_kind : (b : Bool) → (if b then place_of_id m.reference ways else None) ≡ None →
        (if b then tag_with_id m.reference tag ways else ways) ≡ ways
    by_kind true h = tagged-none m.reference tag ways h
    by_kind false h = refl

-- one that is a way tags it at its place
pub once-one : (tag : Tag) (m : Member) (ways : List KeptWay) (i : ℕ) (k : KeptWay) → AreDistinct ways → way_of ways m ≡ Some i →
    slice_get ways i ≡ Some k
    → slice_set ways i (with_tag tag k) ≡ tag_once tag m ways
once-one tag m ways i k distinct found there = by_kind (bytes_eq m.kind (codes "way")) found
  where
    by_kind : (b : Bool) → (if b then place_of_id m.reference ways else None) ≡ Some i
        → slice_set ways i (with_tag tag k) ≡ (if b then tag_with_id m.reference tag ways else ways)
    by_kind true h = tagged-one m.reference tag ways i k distinct h there
    by_kind false h = cc

-- what a call that is Ok shows besides
pub on_ok : {A E P Q : Type 0} (r : Result A E) → (P → Q) → OnOk r P → OnOk r Q
on_ok (Ok a) f p = f p
on_ok (Err e) f p = p
