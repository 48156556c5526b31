-- An index of names says of each name where it stands last.
use Rattle.std.specs.Prelude.{◌≡◌, ◌<◌, ◌^◌, ℕ, List, length, Vec}
use Rattle.std.specs.Map.{lookup}
use Rattle.std.specs.Str.{bytes_eq}
use Rattle.std.specs.declared.alloc.Global.{Global}
use Rattle.profile_text.specs.Names.{last_place}

-- the index has the place of each name's last assignment, and the names can be numbered
pub record AreNumbered (names : List (List ℕ)) (entries : List (Vec ℕ Global × ℕ)) : Type 0 where
  pub few : length names < 2 ^ 32
  pub places : (name : List ℕ) → lookup (λ k. bytes_eq name k.items) entries ≡ last_place names name
