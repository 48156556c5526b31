-- The first names of an element, which are known by the places of their values.
use Rattle.std.proofs.Common.{◌≡◌, ℕ, zero, suc, true, List, [], ◌∷◌, ◌++◌, length, drop, None, Some, refl, sym, ap, subst, ◌∙◌, arith}
use Rattle.std.proofs.lemmas.Slice.Eq.{bytes_eq-Decides}
use Rattle.std.specs.Str.{bytes_eq}
use lib.Chars.{codes}
use Rattle.json_text.specs.declared.mode.Bracket.TheVariants as bracket_
use Rattle.json_text.specs.declared.step.JsonStep.{JsonStep}
use Rattle.json_text.specs.Marks.{Step}
use Rattle.json_text.specs.Steps.{step_for}
use Rattle.map_elements.specs.declared.front.Front.{Front}
use Rattle.map_elements.specs.declared.front.Front.TheVariants as front_
use Rattle.map_elements.specs.Cut.{BeginsWith}
use Rattle.map_elements.specs.Entries.{entries_from, whole_entry, members_of}
use Rattle.map_elements.specs.Front.{IsPlain, EndsPlain, behind, told, Fits, LeadsTo}

-- a plain step alone
alone : (step : Step) (rest : List Step) → IsPlain step → length (step ∷ rest) ≡ 1 → EndsPlain 0 (step ∷ rest)
alone step [] plain size = plain
alone step (other ∷ rest) plain size = absurd (omega (arith, size))

-- the last step is plain where a plain one begins what is behind so many, and no other follows
pub ends_by : (steps back : List Step) (before : ℕ) (step : JsonStep)
    → ((text : List ℕ) → IsPlain (step_for step text))
    → length steps ≡ suc before → back ≡ drop before steps → BeginsWith step back → EndsPlain before steps
ends_by steps back zero step plain size is begins =
    let e : steps ≡ step_for step begins.before.text ∷ begins.rest = sym is ∙ begins.before.is in
    subst (λ (xs : List Step). EndsPlain 0 xs) (sym e)
    (alone (step_for step begins.before.text) begins.rest (plain begins.before.text)
    (ap (λ (xs : List Step). length xs) (sym e) ∙ size))
ends_by (s ∷ steps) back (suc before) step plain size is begins =
    ends_by steps back before step plain (omega (arith, size)) is begins
ends_by [] back (suc before) step plain size is begins = absurd (omega (arith, size))

-- ---- Names

-- the first name
pub kind_leads : (steps : List Step) (text : List ℕ) → length steps ≡ 0 → bytes_eq text (codes "type") ≡ true →
    LeadsTo front_.Open front_.Kind steps (Step.Key text)
kind_leads [] text none same = record {
  fits = record {};
  same = ap (λ n. Step.Opens bracket_.Curly ∷ Step.Key n ∷ []) (sym ((bytes_eq-Decides text (codes "type")).0 same));
}
kind_leads (s ∷ steps) text none same = absurd (omega (arith, none))

-- the third
pub lat_leads : (steps : List Step) (text : List ℕ) → Fits front_.Id steps → EndsPlain 1 steps → bytes_eq text (codes "lat") ≡ true →
    LeadsTo front_.Id front_.Lat steps (Step.Key text)
lat_leads (s ∷ t ∷ []) text fits ends same = record {
  fits = (fits, ends);
  same = ap (λ n. Step.Opens bracket_.Curly ∷ Step.Key (codes "type") ∷ s ∷ Step.Key (codes "id") ∷ t ∷ Step.Key n ∷ [])
      (sym ((bytes_eq-Decides text (codes "lat")).0 same));
}
lat_leads [] text fits ends same = absurd ends
lat_leads (s ∷ []) text fits ends same = absurd ends
lat_leads (s ∷ t ∷ u ∷ steps) text fits ends same = absurd ends

-- the fourth
pub lon_leads : (steps : List Step) (text : List ℕ) → Fits front_.Lat steps → EndsPlain 2 steps → bytes_eq text (codes "lon") ≡ true →
    LeadsTo front_.Lat front_.Lon steps (Step.Key text)
lon_leads (s ∷ t ∷ u ∷ []) text fits ends same = record {
  fits = (fits.0, (fits.1, ends));
  same = ap (λ n. Step.Opens bracket_.Curly ∷ Step.Key (codes "type") ∷ s ∷ Step.Key (codes "id") ∷ t ∷ Step.Key (codes "lat") ∷ u
      ∷ Step.Key n ∷ []) (sym ((bytes_eq-Decides text (codes "lon")).0 same));
}
lon_leads [] text fits ends same = absurd ends
lon_leads (s ∷ []) text fits ends same = absurd ends
lon_leads (s ∷ t ∷ []) text fits ends same = absurd ends
lon_leads (s ∷ t ∷ u ∷ v ∷ steps) text fits ends same = absurd ends

-- ---- Steps that are kept

-- one more step that is kept stands at the end
pub told_more : (front : Front) (steps : List Step) (step : Step) → Fits front steps →
    told front (steps ++ step ∷ []) ≡ told front steps ++ step ∷ []
told_more front_.Bare steps step fits = refl
told_more front_.Open steps step fits = refl
told_more front_.Kind steps step fits = refl
told_more front_.Id (s ∷ steps) step fits = refl
told_more front_.Lat (s ∷ t ∷ steps) step fits = refl
told_more front_.Lon (s ∷ t ∷ u ∷ steps) step fits = refl
told_more front_.Id [] step fits = absurd fits
told_more front_.Lat [] step fits = absurd fits
told_more front_.Lat (s ∷ []) step fits = absurd fits
told_more front_.Lon [] step fits = absurd fits
told_more front_.Lon (s ∷ []) step fits = absurd fits
told_more front_.Lon (s ∷ t ∷ []) step fits = absurd fits

-- and the front stays
pub fits_more : (front : Front) (steps : List Step) (step : Step) → Fits front steps → Fits front (steps ++ step ∷ [])
fits_more front_.Bare steps step fits = record {}
fits_more front_.Open steps step fits = record {}
fits_more front_.Kind steps step fits = record {}
fits_more front_.Id (s ∷ steps) step fits = fits
fits_more front_.Lat (s ∷ t ∷ steps) step fits = fits
fits_more front_.Lon (s ∷ t ∷ u ∷ steps) step fits = fits
fits_more front_.Id [] step fits = absurd fits
fits_more front_.Lat [] step fits = absurd fits
fits_more front_.Lat (s ∷ []) step fits = absurd fits
fits_more front_.Lon [] step fits = absurd fits
fits_more front_.Lon (s ∷ []) step fits = absurd fits
fits_more front_.Lon (s ∷ t ∷ []) step fits = absurd fits

-- ---- Entries

-- the members of an object that has begun are those behind its front
pub members_told : (front : Front) (steps : List Step) → (front ≡ front_.Bare → ⊥) →
    members_of (told front steps) ≡ Some (entries_from None [] zero (behind front steps))
members_told front_.Bare steps some = absurd (some refl)
members_told front_.Open steps some = refl
members_told front_.Kind steps some = refl
members_told front_.Id steps some = refl
members_told front_.Lat steps some = refl
members_told front_.Lon steps some = refl

-- a plain value is a member by itself
pub entries_plain : (name : List ℕ) (step : Step) (steps : List Step) → IsPlain step →
    entries_from (Some name) [] zero (step ∷ steps) ≡ whole_entry (Some name) (step ∷ []) ∷ entries_from None [] zero steps
entries_plain name (Step.Text text) steps plain = refl
entries_plain name (Step.Number text) steps plain = refl
entries_plain name (Step.Opens bracket) steps plain = absurd plain
entries_plain name (Step.Closes bracket) steps plain = absurd plain
entries_plain name (Step.Key text) steps plain = absurd plain
entries_plain name (Step.Word word) steps plain = absurd plain

-- so are the members whose names the front tells, before the last of them
pub entries_id : (kind : Step) (steps : List Step) → IsPlain kind →
    entries_from None [] zero (behind front_.Id (kind ∷ steps))
    ≡ whole_entry (Some (codes "type")) (kind ∷ []) ∷ entries_from (Some (codes "id")) [] zero steps
entries_id kind steps plain = entries_plain (codes "type") kind (Step.Key (codes "id") ∷ steps) plain

-- where it tells three
pub entries_lat : (kind id : Step) (steps : List Step) → IsPlain kind → IsPlain id →
    entries_from None [] zero (behind front_.Lat (kind ∷ id ∷ steps))
    ≡ whole_entry (Some (codes "type")) (kind ∷ []) ∷ whole_entry (Some (codes "id")) (id ∷ [])
    ∷ entries_from (Some (codes "lat")) [] zero steps
entries_lat kind id steps plain plain_id =
    entries_plain (codes "type") kind (Step.Key (codes "id") ∷ id ∷ Step.Key (codes "lat") ∷ steps) plain
    ∙ ap (λ es. whole_entry (Some (codes "type")) (kind ∷ []) ∷ es)
    (entries_plain (codes "id") id (Step.Key (codes "lat") ∷ steps) plain_id)

-- where it tells four
pub entries_lon : (kind id lat : Step) (steps : List Step) → IsPlain kind → IsPlain id → IsPlain lat →
    entries_from None [] zero (behind front_.Lon (kind ∷ id ∷ lat ∷ steps))
    ≡ whole_entry (Some (codes "type")) (kind ∷ []) ∷ whole_entry (Some (codes "id")) (id ∷ [])
    ∷ whole_entry (Some (codes "lat")) (lat ∷ []) ∷ entries_from (Some (codes "lon")) [] zero steps
entries_lon kind id lat steps plain plain_id plain_lat =
    entries_plain (codes "type") kind (Step.Key (codes "id") ∷ id ∷ Step.Key (codes "lat") ∷ lat ∷ Step.Key (codes "lon") ∷ steps) plain
    ∙ ap (λ es. whole_entry (Some (codes "type")) (kind ∷ []) ∷ es)
    (entries_plain (codes "id") id (Step.Key (codes "lat") ∷ lat ∷ Step.Key (codes "lon") ∷ steps) plain_id
    ∙ ap (λ es. whole_entry (Some (codes "id")) (id ∷ []) ∷ es)
    (entries_plain (codes "lat") lat (Step.Key (codes "lon") ∷ steps) plain_lat))
