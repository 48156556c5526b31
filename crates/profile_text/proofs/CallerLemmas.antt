-- What crates above cite of this one.
use Rattle.std.proofs.Common.{◌≡◌, ℕ, Bool, true, false, List, [], ◌∷◌, get_or, map, ℤ, Option, Some, None, refl, ap, ◌∙◌}
use Rattle.std.specs.Option.{option_map}
use Rattle.std.specs.Str.{bytes_eq}
use Rattle.profile_text.specs.Meaning.{last_value, later_value}
use Rattle.profile_text.specs.Names.{last_place, later_place}
-- the place of a name is within the names; what is found in an index after a key was put in; tokens of bytes that are joined, and of one
pub use Rattle.profile_text.proofs.NameLemmas.{last_place-lt, lookup-insert}
pub use Rattle.profile_text.proofs.TokenLemmas.{joined_byte, one_byte, token_is, word_is_ink}

-- the value that a name was given last is that at its last place
pub last_value-place : (values : List (List ℕ × ℤ)) (name : List ℕ) (d : ℤ)
    → last_value values name ≡ option_map (λ place. get_or (map (λ v. v.1) values) place d) (last_place (map (λ v. v.0) values) name)
last_value-place [] name d = refl
last_value-place (v ∷ vs) name d =
    ap (later_value (bytes_eq name v.0) v.1) (last_value-place vs name d)
    ∙ by_rest (bytes_eq name v.0) (last_place (map (λ w. w.0) vs) name)
  where
    by_rest : (b : Bool) (o : Option ℕ)
        → later_value b v.1 (option_map (λ place. get_or (map (λ w. w.1) vs) place d) o)
        ≡ option_map (λ place. get_or (v.1 ∷ map (λ w. w.1) vs) place d) (later_place b o)
    by_rest b (Some place) = refl
    by_rest true None = refl
    by_rest false None = refl
