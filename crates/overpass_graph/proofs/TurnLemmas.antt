-- The turns that restrictions forbid.
use Rattle.std.proofs.Common.{◌≡◌, ℕ, zero, suc, ◌+◌, ◌<◌, true, false, inl, inr, List, [], ◌∷◌, length, get_or, drop, refl, sym, ap, ◌∙◌, arith, eq-eqb}
use Rattle.std.proofs.lemmas.Bool.{ne_eqb, cases_eq, cases_Bool}
use Rattle.std.proofs.lemmas.List.{drop_more, get_or-map, length-map, get_or_append_left}
use Rattle.overpass_graph.specs.declared.link.Link.{Link}
use Rattle.overpass_graph.specs.declared.restriction.Restriction.{Restriction}
use Rattle.overpass_graph.specs.Roads.{places_below}
use Rattle.overpass_graph.specs.Groups.{key_at, group_of}
use Rattle.overpass_graph.specs.Restrictions.{is_in, forbids_ways, forbids_by, forbids_any}
use Rattle.overpass_graph.specs.Turns.{vias_of}
use Rattle.overpass_graph.proofs.PlaceLemmas.{places-hit, places-miss, places-none, count-hit, count-grows, place-at}

-- ---- A number in a list

-- a number that stands at a place is in the list from there on
pub is_in-hit : (ways : List ℕ) (i way : ℕ) → i < length ways → get_or ways i 0 ≡ way → is_in way (drop i ways) ≡ true
is_in-hit ways i way below same = rw (drop_more ways i 0 below, eq-eqb (get_or ways i 0) way same) refl

-- another number leaves the rest of the list
pub is_in-miss : (ways : List ℕ) (i way : ℕ) → i < length ways → (get_or ways i 0 ≡ way → ⊥) →
    is_in way (drop i ways) ≡ is_in way (drop (i + 1) ways)
is_in-miss ways i way below other = rw (drop_more ways i 0 below, ne_eqb (get_or ways i 0) way other) refl

-- ---- Places of a key

-- each place is a number below the count, with the value
pub place-sound : (key : ℕ → ℕ) (v n j : ℕ) → j < length (places_below key v n) →
    (get_or (places_below key v n) j 0 < n) × (key (get_or (places_below key v n) j 0) ≡ v)
place-sound key v zero j below = absurd (omega (arith, ap length (places-none key v)))
place-sound key v (suc n) j below =
    elim (cases_eq (key n) v) [
      | inl hit ↦
          let more = count-hit key v n hit in
          elim (cases_eq j (length (places_below key v n))) [
            | inl last ↦
                let here : get_or (places_below key v (suc n)) j 0 ≡ n = rw last (place-at key v n (suc n) (omega arith) hit) in
                (omega (arith, here), ap key here ∙ hit)
            | inr before ↦
                let inner : j < length (places_below key v n) = omega arith in
                let rest = place-sound key v n j inner in
                let same : get_or (places_below key v (suc n)) j 0 ≡ get_or (places_below key v n) j 0 =
                rw (places-hit key v n hit) (get_or_append_left (places_below key v n) (n ∷ []) 0 j inner) in
                (omega (arith, same, rest.0), ap key same ∙ rest.1)
          ]
      | inr miss ↦
          let same = places-miss key v n miss in
          let inner : j < length (places_below key v n) = omega (arith, ap length same) in
          let rest = place-sound key v n j inner in
          (rw same (omega (arith, rest.0)), rw same rest.1)
    ]

-- a number with the value has a place
pub place-whole : (key : ℕ → ℕ) (v m n : ℕ) → m < n → key m ≡ v →
    (j : ℕ) × (j < length (places_below key v n)) × (get_or (places_below key v n) j 0 ≡ m)
place-whole key v m n below same =
    (length (places_below key v m), omega (arith, count-hit key v m same, count-grows key v (suc m) n below), place-at key v m n below same)

-- ---- Restrictions

-- a restriction at the node where two links meet forbids what it forbids of their ways
forbids_by-there : (r : Restriction) (first second : Link) → r.via ≡ first.to → second.from ≡ first.to →
    forbids_by r first second ≡ forbids_ways r first.way second.way
forbids_by-there r first second at joins = rw (eq-eqb r.via first.to at, eq-eqb r.via second.from (at ∙ sym joins)) refl

-- a restriction elsewhere forbids nothing
forbids_by-elsewhere : (r : Restriction) (first second : Link) → (r.via ≡ first.to → ⊥) → forbids_by r first second ≡ false
forbids_by-elsewhere r first second away = rw (ne_eqb r.via first.to away) refl

-- where each restriction at the node allows the turn, it isn't forbidden
pub forbids-none : (rs : List Restriction) (first second : Link) → second.from ≡ first.to →
    ((k : ℕ) (r : Restriction) → k < length rs → r ≡ get_or rs k r → r.via ≡ first.to → forbids_ways r first.way second.way ≡ false) →
    forbids_any rs first second ≡ false
forbids-none [] first second joins allowed = refl
forbids-none (r ∷ rs) first second joins allowed =
    let rest = forbids-none rs first second joins (λ k s below read at. allowed (suc k) s (omega arith) read at) in
    elim (cases_eq r.via first.to) [
      | inl at ↦
          let here = forbids_by-there r first second at joins ∙ allowed 0 r (omega arith) refl at in
          rw (here, rest) refl
      | inr away ↦ rw (forbids_by-elsewhere r first second away, rest) refl
    ]

-- where a restriction at the node forbids the turn, it is forbidden
pub forbids-some : (rs : List Restriction) (first second : Link) → second.from ≡ first.to → (k : ℕ) (r : Restriction) → k < length rs →
    r ≡ get_or rs k r → r.via ≡ first.to → forbids_ways r first.way second.way ≡ true → forbids_any rs first second ≡ true
forbids-some [] first second joins k r below read at yes_ = absurd (omega arith)
forbids-some (s ∷ rs) first second joins zero r below read at yes_ =
    let here : forbids_by s first second ≡ true = ap (λ (x : Restriction). forbids_by x first second) (sym read)
    ∙ forbids_by-there r first second at joins ∙ yes_ in
    rw here refl
forbids-some (s ∷ rs) first second joins (suc k) r below read at yes_ =
    let rest = forbids-some rs first second joins k r (omega arith) read at yes_ in
    elim (cases_Bool (forbids_by s first second)) [
      | inl here ↦ rw here refl
      | inr here ↦ rw (here, rest) refl
    ]

-- the key of a restriction is its node
via-read : (rs : List Restriction) (k : ℕ) (r : Restriction) → k < length rs → r ≡ get_or rs k r → key_at (vias_of rs) k ≡ r.via
via-read rs k r below read = get_or-map (λ (x : Restriction). x.via) rs k r 0 below ∙ ap (λ (x : Restriction). x.via) (sym read)

-- where no restriction of the node's group forbids the turn, it isn't forbidden
pub group-none : (rs : List Restriction) (keys : List ℕ) (first second : Link) → keys ≡ vias_of rs → second.from ≡ first.to →
    ((j : ℕ) (r : Restriction) → j < length (group_of keys first.to) → r ≡ get_or rs (get_or (group_of keys first.to) j 0) r →
    forbids_ways r first.way second.way ≡ false) →
    forbids_any rs first second ≡ false
group-none rs keys first second keys_are joins allowed =
    forbids-none rs first second joins (λ k r below read at.
    let size : length keys ≡ length rs = ap length keys_are ∙ length-map rs (λ (x : Restriction). x.via) in
    let hit : key_at keys k ≡ first.to = ap (λ ks. key_at ks k) keys_are ∙ via-read rs k r below read ∙ at in
    let place = place-whole (key_at keys) first.to k (length keys) (omega (arith, size)) hit in
    allowed place.0 r place.1 (read ∙ ap (λ m. get_or rs m r) (sym place.2)))

-- a restriction of the node's group that forbids the turn
pub group-some : (rs : List Restriction) (keys : List ℕ) (first second : Link) → keys ≡ vias_of rs → second.from ≡ first.to →
    (j : ℕ) (r : Restriction) → j < length (group_of keys first.to) → r ≡ get_or rs (get_or (group_of keys first.to) j 0) r →
    forbids_ways r first.way second.way ≡ true → forbids_any rs first second ≡ true
group-some rs keys first second keys_are joins j r within read yes_ =
    let size : length keys ≡ length rs = ap length keys_are ∙ length-map rs (λ (x : Restriction). x.via) in
    let place = place-sound (key_at keys) first.to (length keys) j within in
    let below : get_or (group_of keys first.to) j 0 < length rs = omega (arith, size, place.0) in
    let at : r.via ≡ first.to = sym (via-read rs (get_or (group_of keys first.to) j 0) r below read)
    ∙ ap (λ ks. key_at ks (get_or (group_of keys first.to) j 0)) (sym keys_are) ∙ place.1 in
    forbids-some rs first second joins (get_or (group_of keys first.to) j 0) r below read at yes_

-- a place of a group is the number of a restriction
pub group-in : (rs : List Restriction) (keys : List ℕ) (v j : ℕ) → keys ≡ vias_of rs → j < length (group_of keys v) →
    get_or (group_of keys v) j 0 < length rs
group-in rs keys v j keys_are within =
    let size : length keys ≡ length rs = ap length keys_are ∙ length-map rs (λ (x : Restriction). x.via) in
    let place = place-sound (key_at keys) v (length keys) j within in
    omega (arith, size, place.0)
