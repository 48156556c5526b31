-- What tags say, by the values that are looked up.
use Rattle.std.proofs.Common.{◌≡◌, ℕ, Bool, true, false, ◌&&◌, not, List, Some, None, refl, sym, ap, ◌∙◌}
use mathlib.Core.Bool.{false≢true}
use Rattle.std.specs.Prelude.{if◌then◌else◌}
use Rattle.std.specs.Str.{bytes_eq}
use lib.Chars.{codes}
use Rattle.map_tables.specs.Kept.{Tag}
use Rattle.overpass_graph.specs.Restrictions.{kind_for_bicycles, kind_of, excepts_bicycles}
use Rattle.overpass_graph.specs.RouteTags.{value_of}

-- no type
pub kind-no_type : (tags : List Tag) → value_of (codes "type") tags ≡ None → kind_for_bicycles tags ≡ None
unfolding kind_for_bicycles
kind-no_type tags none = rw none refl

-- no value
pub kind-no_value : (tags : List Tag) (type : List ℕ) → value_of (codes "type") tags ≡ Some type →
    value_of (codes "restriction") tags ≡ None
    → kind_for_bicycles tags ≡ None
unfolding kind_for_bicycles
kind-no_value tags type there none = rw (there, none) refl

-- both are there
pub kind-both : (tags : List Tag) (type value : List ℕ) → value_of (codes "type") tags ≡ Some type →
    value_of (codes "restriction") tags ≡ Some value
    → kind_for_bicycles tags
    ≡ (if bytes_eq type (codes "restriction") && not (excepts_bicycles (value_of (codes "except") tags)) then kind_of value else None)
unfolding kind_for_bicycles
kind-both tags type value there also = rw (there, also) refl

-- no truth value is its own opposite
not_not : (a b : Bool) → a ≡ not b → a ≡ true → b ≡ false
not_not a true e h = absurd (false≢true (sym e ∙ h))
not_not a false e h = refl

-- what isn't false is true
not_false : (a b : Bool) → a ≡ not b → a ≡ false → b ≡ true
not_false a true e h = refl
not_false a false e h = absurd (false≢true (sym h ∙ e))

module _ (tags : List Tag) (type value : List ℕ) (there : value_of (codes "type") tags ≡ Some type) (also :
    value_of (codes "restriction") tags ≡ Some value) where
  -- a relation of another type
  pub kind-other : (differs : Bool) → differs ≡ not (bytes_eq type (codes "restriction")) → differs ≡ true → kind_for_bicycles tags ≡ None
  kind-other differs is h =
      kind-both tags type value there also
      ∙ ap (λ b. if b && not (excepts_bicycles (value_of (codes "except") tags)) then kind_of value else None)
      (not_not differs (bytes_eq type (codes "restriction")) is h)

  -- a restriction for others
  pub kind-excepted : (differs : Bool) → differs ≡ not (bytes_eq type (codes "restriction")) → differs ≡ false
      → excepts_bicycles (value_of (codes "except") tags) ≡ true → kind_for_bicycles tags ≡ None
  kind-excepted differs is same excepted =
      kind-both tags type value there also
      ∙ ap (λ b. if b && not (excepts_bicycles (value_of (codes "except") tags)) then kind_of value else None)
      (not_false differs (bytes_eq type (codes "restriction")) is same)
      ∙ ap (λ b. if not b then kind_of value else None) excepted

  -- a restriction for bicycles
  pub kind-held : (differs : Bool) → differs ≡ not (bytes_eq type (codes "restriction")) → differs ≡ false
      → excepts_bicycles (value_of (codes "except") tags) ≡ false → kind_for_bicycles tags ≡ kind_of value
  kind-held differs is same held =
      kind-both tags type value there also
      ∙ ap (λ b. if b && not (excepts_bicycles (value_of (codes "except") tags)) then kind_of value else None)
      (not_false differs (bytes_eq type (codes "restriction")) is same)
      ∙ ap (λ b. if not b then kind_of value else None) held
