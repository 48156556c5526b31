-- The names that came so far, in a set or among tags.
use Rattle.std.specs.Prelude.{◌≡◌, ℕ, Bool, false, ◌||◌, List, [], ◌∷◌, nat_eq}
use lib.Pointwise.{pointwise}
use denote.Bor.{Bor}
use Rattle.std.specs.HashSet.{HashSet, contains}
use Rattle.std.specs.Str.{bytes_eq}
use Rattle.map_tables.specs.Kept.{Tag}
use Rattle.map_elements.specs.Fields.{is_among}

-- the set holds these names and no others
abbrev pub Holds : {S : Type 0} → HashSet (Bor (List ℕ)) S → List (List ℕ) → Type 0
Holds set names = (q : Bor (List ℕ)) →
    contains (λ x y. pointwise nat_eq x.now y.now) set q ≡ is_among q.now names

-- one of these tags has this name
abbrev pub has_tag : List ℕ → List Tag → Bool
has_tag name [] = false
has_tag name (tag ∷ tags) = bytes_eq tag.0 name || has_tag name tags

-- the tags have these names and no others
abbrev pub Have : List Tag → List (List ℕ) → Type 0
Have tags names = (name : List ℕ) → has_tag name tags ≡ is_among name names
