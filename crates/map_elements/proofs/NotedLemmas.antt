-- Members are looked through one by one.
use Rattle.std.proofs.Common.{◌≡◌, ℕ, zero, List, [], ◌∷◌, Bool, true, false, Option, Some, None, refl, sym, ap, subst, ◌∙◌}
use Rattle.std.specs.Prelude.{if◌then◌else◌}
use Rattle.json_text.specs.Marks.{Step}
use Rattle.map_elements.specs.Entries.{Entry, entries_from, is_named, member, whole_entry}
use Rattle.map_elements.specs.Noted.{first_of, noted, Notes, NotesOne, Noted}
use Rattle.map_elements.specs.declared.fields.element.Slots.{Slots}
use lib.Chars.{codes}
use Rattle.map_elements.specs.declared.front.Front.{Front}
use Rattle.map_elements.specs.declared.front.Front.TheVariants as front_
use Rattle.map_elements.specs.Front.{behind, Fits}
use Rattle.map_elements.proofs.FrontLemmas.{entries_id, entries_lat, entries_lon}

-- the first of those that are left is the member, or it is among those behind
first_then : (slot more : Option (List Step)) (v : Bool) (value : List Step) →
    first_of slot (if v then Some value else more) ≡ first_of (first_of slot (if v then Some value else None)) more
first_then None more true value = refl
first_then None more false value = refl
first_then (Some a) more true value = refl
first_then (Some a) more false value = refl

-- so one more is looked through, for one name
noted_more : (name : List ℕ) (all before left : List Entry) (slot new : Option (List Step)) (entry : Entry) → before ≡ entry ∷ left →
    new ≡ noted name slot entry →
    member name all ≡ first_of slot (member name before) → member name all ≡ first_of new (member name left)
noted_more name all before left slot new entry is noting h =
    h
    ∙ ap (λ (s : List Entry). first_of slot (member name s)) is
    ∙ first_then slot (member name left) (is_named name entry) entry.value
    ∙ ap (λ o. first_of o (member name left)) (sym noting)

-- and for all names
pub slots_more : (all before left : List Entry) (old new : Slots) (entry : Entry) → before ≡ entry ∷ left → Notes old entry new →
    Noted old all before → Noted new all left
slots_more all before left old new entry is notes noted_so_far = record {
  kind_is = noted_more (codes "type") all before left old.kind new.kind entry is notes.kind_is noted_so_far.kind_is;
  id_is = noted_more (codes "id") all before left old.id new.id entry is notes.id_is noted_so_far.id_is;
  lat_is = noted_more (codes "lat") all before left old.lat new.lat entry is notes.lat_is noted_so_far.lat_is;
  lon_is = noted_more (codes "lon") all before left old.lon new.lon entry is notes.lon_is noted_so_far.lon_is;
  nodes_is = noted_more (codes "nodes") all before left old.nodes new.nodes entry is notes.nodes_is noted_so_far.nodes_is;
  members_is = noted_more (codes "members") all before left old.members new.members entry is notes.members_is noted_so_far.members_is;
  tags_is = noted_more (codes "tags") all before left old.tags new.tags entry is notes.tags_is noted_so_far.tags_is;
}

-- ---- The front

-- what a member of a name that the front tells does to the slots, and what is left
abbrev pub Plainly : List ℕ → List Step → List Step → Slots → Slots → Type 0
Plainly name before left old new =
    (step : Step) (steps : List Step) → before ≡ step ∷ steps → NotesOne name step old new × (left ≡ steps)

-- what the member of the last name does to them
abbrev pub Lastly : List ℕ → List Step → List Step → Slots → Slots → Type 0
Lastly name before left old new =
    (all : List Entry) → Noted old all (entries_from (Some name) [] zero before) → Noted new all (entries_from None [] zero left)

-- one plain member is noted
plainly : (name : List ℕ) (all others : List Entry) (step : Step) (old new : Slots) → NotesOne name step old new →
    Noted old all (whole_entry (Some name) (step ∷ []) ∷ others) → Noted new all others
plainly name all others step old new notes noted =
    slots_more all (whole_entry (Some name) (step ∷ []) ∷ others) others old new (whole_entry (Some name) (step ∷ [])) refl notes noted

module _ (front : Front) where
  -- the front tells two names
  pub front_id : front ≡ front_.Id → (all left0 left1 : List Step) (old new0 new1 : Slots) →
      ((entries : List Entry) → Noted old entries entries) → Fits front all →
      Plainly (codes "type") all left0 old new0 → Lastly (codes "id") left0 left1 new0 new1 →
      Noted new1 (entries_from None [] zero (behind front all)) (entries_from None [] zero left1)
  front_id is all left0 left1 old new0 new1 none fits kind id =
      subst (λ f. Noted new1 (entries_from None [] zero (behind f all)) (entries_from None [] zero left1)) (sym is)
      (by_steps all (subst (λ f. Fits f all) is fits) kind)
    where
      by_steps : (all : List Step) → Fits front_.Id all → Plainly (codes "type") all left0 old new0 →
          Noted new1 (entries_from None [] zero (behind front_.Id all)) (entries_from None [] zero left1)
      by_steps [] fits kind = absurd fits
      by_steps (s ∷ steps) fits kind =
          let (notes, left) = kind s steps refl in
          let entries = entries_from None [] zero (behind front_.Id (s ∷ steps)) in
          id entries
          (subst (λ xs. Noted new0 entries (entries_from (Some (codes "id")) [] zero xs)) (sym left)
          (plainly (codes "type") entries (entries_from (Some (codes "id")) [] zero steps) s old new0 notes
          (subst (λ es. Noted old entries es) (entries_id s steps fits) (none entries))))

  -- three
  pub front_lat : front ≡ front_.Lat → (all left0 left1 left2 : List Step) (old new0 new1 new2 : Slots) →
      ((entries : List Entry) → Noted old entries entries) → Fits front all →
      Plainly (codes "type") all left0 old new0 → Plainly (codes "id") left0 left1 new0 new1 →
      Lastly (codes "lat") left1 left2 new1 new2 →
      Noted new2 (entries_from None [] zero (behind front all)) (entries_from None [] zero left2)
  front_lat is all left0 left1 left2 old new0 new1 new2 none fits kind id lat =
      subst (λ f. Noted new2 (entries_from None [] zero (behind f all)) (entries_from None [] zero left2)) (sym is)
      (by_steps all (subst (λ f. Fits f all) is fits) kind)
    where
      by_steps : (all : List Step) → Fits front_.Lat all → Plainly (codes "type") all left0 old new0 →
          Noted new2 (entries_from None [] zero (behind front_.Lat all)) (entries_from None [] zero left2)
      by_steps [] fits kind = absurd fits
      by_steps (s ∷ []) fits kind = absurd fits
      by_steps (s ∷ t ∷ steps) fits kind =
          let (notes, left) = kind s (t ∷ steps) refl in
          let (notes_id, left_id) = id t steps left in
          let entries = entries_from None [] zero (behind front_.Lat (s ∷ t ∷ steps)) in
          let last = entries_from (Some (codes "lat")) [] zero steps in
          lat entries
          (subst (λ xs. Noted new1 entries (entries_from (Some (codes "lat")) [] zero xs)) (sym left_id)
          (plainly (codes "id") entries last t new0 new1 notes_id
          (plainly (codes "type") entries (whole_entry (Some (codes "id")) (t ∷ []) ∷ last) s old new0 notes
          (subst (λ es. Noted old entries es) (entries_lat s t steps fits.0 fits.1) (none entries)))))

  -- four
  pub front_lon : front ≡ front_.Lon → (all left0 left1 left2 left3 : List Step) (old new0 new1 new2 new3 : Slots) →
      ((entries : List Entry) → Noted old entries entries) → Fits front all →
      Plainly (codes "type") all left0 old new0 → Plainly (codes "id") left0 left1 new0 new1 →
      Plainly (codes "lat") left1 left2 new1 new2 → Lastly (codes "lon") left2 left3 new2 new3 →
      Noted new3 (entries_from None [] zero (behind front all)) (entries_from None [] zero left3)
  front_lon is all left0 left1 left2 left3 old new0 new1 new2 new3 none fits kind id lat lon =
      subst (λ f. Noted new3 (entries_from None [] zero (behind f all)) (entries_from None [] zero left3)) (sym is)
      (by_steps all (subst (λ f. Fits f all) is fits) kind)
    where
      by_steps : (all : List Step) → Fits front_.Lon all → Plainly (codes "type") all left0 old new0 →
          Noted new3 (entries_from None [] zero (behind front_.Lon all)) (entries_from None [] zero left3)
      by_steps [] fits kind = absurd fits
      by_steps (s ∷ []) fits kind = absurd fits
      by_steps (s ∷ t ∷ []) fits kind = absurd fits
      by_steps (s ∷ t ∷ u ∷ steps) fits kind =
          let (notes, left) = kind s (t ∷ u ∷ steps) refl in
          let (notes_id, left_id) = id t (u ∷ steps) left in
          let (notes_lat, left_lat) = lat u steps left_id in
          let entries = entries_from None [] zero (behind front_.Lon (s ∷ t ∷ u ∷ steps)) in
          let last = entries_from (Some (codes "lon")) [] zero steps in
          lon entries
          (subst (λ xs. Noted new2 entries (entries_from (Some (codes "lon")) [] zero xs)) (sym left_lat)
          (plainly (codes "lat") entries last u new1 new2 notes_lat
          (plainly (codes "id") entries (whole_entry (Some (codes "lat")) (u ∷ []) ∷ last) t new0 new1 notes_id
          (plainly (codes "type") entries
          (whole_entry (Some (codes "id")) (t ∷ []) ∷ whole_entry (Some (codes "lat")) (u ∷ []) ∷ last) s old new0 notes
          (subst (λ es. Noted old entries es) (entries_lon s t u steps fits.0 fits.1.0 fits.1.1) (none entries))))))
