use Rattle.std.proofs.Common.{◌≡◌, ◌∙◌, ℤ, eqb, ap, sym, w64, SFits, to_z, of_z}
use Rattle.std.proofs.lemmas.Bool.Decides.{same_from_decides, Decides-eqb, Decides-int_eq}
use Rattle.std.proofs.lemmas.Int.{to_z-of_z}
use Rattle.std.specs.Ordering.{int_eq}
use Rattle.geo_int.specs.Place.{Place}
use Rattle.map_tables.proofs.content.AtGiven.is_kept_as.Goals as goal

-- numbers of 64 bits are equal where their bits are
same_bits : (a b : ℤ) → SFits w64 a → SFits w64 b → eqb (of_z w64 a) (of_z w64 b) ≡ int_eq a b
same_bits a b f g =
    let bits = Decides-eqb (of_z w64 a) (of_z w64 b) in
    same_from_decides _ _ (
      λ e. sym (to_z-of_z w64 a f) ∙ ap (to_z w64) (bits.0 e) ∙ to_z-of_z w64 b g,
      λ e. bits.1 (ap (of_z w64) e),
    ) (Decides-int_eq a b)

pub returns : goal.returns
returns c =
    let lon = same_bits c.lon.result c.lon-2.result (record { sfits = c.lon.type_inv }) (record { sfits = c.lon-2.type_inv }) in
    let lat = same_bits c.lat.result c.lat-2.result (record { sfits = c.lat.type_inv }) (record { sfits = c.lat-2.type_inv }) in
    let kept_lon = c.lon.ensures.value ∙ ap (λ (p : Place). p.lon) c.kept.view_is in
    let self_lon = c.lon-2.ensures.value ∙ ap (λ (p : Place). p.lon) c.self.view_is in
    let kept_lat = c.lat.ensures.value ∙ ap (λ (p : Place). p.lat) c.kept.view_is in
    let self_lat = c.lat-2.ensures.value ∙ ap (λ (p : Place). p.lat) c.self.view_is in
    record { value = cc }
