-- What adding a tile changes, and where a height comes from.
use Rattle.std.proofs.Common.{unsigned_abs, ◌≤◌, ◌≡◌, ◌≢◌, ℤ, Option, Some, None, Result, Ok, Err, OnErr, IfSome, true, false, is_some, refl, sym, ap, subst}
use Rattle.std.specs.Option.{unwrap_or}
use Rattle.std.specs.BTreeMap.{is_at}
use Rattle.std.specs.Ordering.{int_cmp, ordering_then}
use Rattle.std.specs.declared.cmp.Ordering.{Ordering}
use Rattle.std.specs.declared.cmp.Ordering.TheVariants.{Less, Equal, Greater}
use Rattle.std.proofs.lemmas.Map.Lookups.{exact_signed}
use Rattle.geo_int.specs.Place.{Place}
use Rattle.hgt_tiles.specs.Relief.{Relief}
use Rattle.hgt_tiles.specs.Tiles.{relief_at, corner_cmp, height_of, height_if, corner_of_place, beyond, IsInterpolated}
use Rattle.hgt_tiles.specs.Height.{height_on, around, AgreesWithSamples}
use Rattle.hgt_tiles.specs.declared.names.Corner.{Corner}
use Rattle.hgt_tiles.proofs.HeightLemmas.{height_on-lawful}
use Rattle.hgt_tiles.proofs.PlaceLemmas.{corner-same}
use Rattle.hgt_tiles.specs.declared.tile_set.Tiles.{Tiles}

-- a choice in an error
pub in_error : {T E : Type 0} (r : Result T E) (P : Type 0) → P → OnErr r P
in_error (Ok x) P p = tt
in_error (Err e) P p = p

-- two orders that agree in both parts
both-equal : (a b : Ordering) → ordering_then a b ≡ Equal → (a ≡ Equal) × (b ≡ Equal)
both-equal Less b e = absurd (cc)
both-equal Equal b e = (refl, e)
both-equal Greater b e = absurd (cc)

-- corners that compare as equal are one
corner_cmp-exact : (a b : Corner) → corner_cmp a b ≡ Equal → a ≡ b
corner_cmp-exact a b e =
    let parts = both-equal (int_cmp a.lon b.lon) (int_cmp a.lat b.lat) e in
    corner-same a b (exact_signed a.lon b.lon parts.0) (exact_signed a.lat b.lat parts.1)

-- a test of an order tells Equal
is_eq-true : (o : Ordering) → (o ≡ Equal → ⊥) → is_at {K = Ordering} (λ x. x) o ≡ false
is_eq-true Less h = refl
is_eq-true Equal h = absurd (h refl)
is_eq-true Greater h = refl

-- another corner is not at this one
pub elsewhere : (a b : Corner) → b ≢ a → is_at (corner_cmp a) b ≡ false
elsewhere a b other = is_eq-true (corner_cmp a b) (λ e. other (sym (corner_cmp-exact a b e)))

-- what is there is what is there
pub there : (o : Option Relief) (tile : Relief) → is_some o ≡ true → o ≡ Some (unwrap_or o tile)
there None tile e = absurd (cc)
there (Some x) tile e = refl

-- and what is not there is the other
pub not_there : (o : Option Relief) (tile : Relief) → is_some o ≡ false → Some tile ≡ Some (unwrap_or o tile)
not_there None tile e = refl
not_there (Some x) tile e = absurd (cc)

-- the height where a tile is there
pub height_of-some : (tiles : Tiles) (at : Place) (relief : Relief) → relief_at tiles (corner_of_place at) ≡ Some relief →
    height_of tiles at ≡ height_if (Some relief) at
unfolding height_of
height_of-some tiles at relief e = ap (λ r. height_if r at) e

-- and where none is
pub height_of-none : (tiles : Tiles) (at : Place) → relief_at tiles (corner_of_place at) ≡ None → height_of tiles at ≡ None
unfolding height_of
height_of-none tiles at e = ap (λ r. height_if r at) e

-- what follows from what is known of a value
if-weaker : (o : Option ℤ) (P Q : ℤ → Type 0) → ((x : ℤ) → P x → Q x) → IfSome o P → IfSome o Q
if-weaker None P Q f h = tt
if-weaker (Some x) P Q f h = f x h

-- the relief that is there is one
one_relief : (o : Option Relief) (r s : Relief) → o ≡ Some r → o ≡ Some s → r ≡ s
one_relief o r s e f = cc

-- a height lies between the samples around its place
lawful-at : (tiles : Tiles) (at : Place) (o : Option Relief) → relief_at tiles (corner_of_place at) ≡ o →
    IfSome (height_if o at) (IsInterpolated tiles at)
lawful-at tiles at None e = tt
lawful-at tiles at (Some r) e =
    let a = beyond at.lon in
    let b = beyond at.lat in
    if-weaker (height_on r a b) (AgreesWithSamples (around r a b)) (IsInterpolated tiles at)
    (λ height h s f. subst (λ x. AgreesWithSamples (around x a b) height) (one_relief (relief_at tiles (corner_of_place at)) r s e f) h)
    (height_on-lawful r a b)

-- wherever it comes from
pub height_of-lawful : (tiles : Tiles) (at : Place) → IfSome (height_of tiles at) (IsInterpolated tiles at)
unfolding height_of
height_of-lawful tiles at = lawful-at tiles at (relief_at tiles (corner_of_place at)) refl

-- so does what equals it
pub lawful_result : (o : Option ℤ) (at : Place) (tiles : Tiles) → o ≡ height_of tiles at → IfSome o (IsInterpolated tiles at)
lawful_result o at tiles e = subst (λ x. IfSome x (IsInterpolated tiles at)) (sym e) (height_of-lawful tiles at)

-- a height that is not known is within any bound
pub none_within : (o : Option ℤ) → o ≡ None → IfSome o (λ height. unsigned_abs height ≤ 32768000000)
none_within o e = subst (λ x. IfSome x (λ height. unsigned_abs height ≤ 32768000000)) (sym e) tt
