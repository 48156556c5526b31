-- The tags of a part, found by their names.
use Rattle.std.proofs.Common.{◌≡◌, ℕ, suc, ◌+◌, ◌<◌, Bool, true, false, cond, ◌||◌, List, [], ◌∷◌, ◌++◌, length, get_or, set, map, position, nat_lt, Option, Some, None, refl, sym, ap, ◌∙◌, subst, arith, IfSome, Vec, Global}
use Rattle.std.proofs.lemmas.List.{length-map, map-append}
use Rattle.indexmap.specs.IndexSet.{insert_key}
use Rattle.std.specs.List.{list_any}
use Rattle.std.specs.Option.{option_map}
use Rattle.std.specs.Str.{bytes_eq}
use Rattle.lookup_table.specs.Tag.{TagRow, name_place, AreDistinct, names_of, place_of, add_value, empty_tag, add_line, values_of, room_for, has_room}
use Rattle.item_list.proofs.TestLemmas.{bytes_eq-turned, position-step}

-- ---- Names

-- a name that isn't in a list is neither its first nor in the rest
pub name_place-none : (x : List ℕ) (xs : List (List ℕ)) (name : List ℕ) → name_place (x ∷ xs) name ≡ None
    → (bytes_eq name x ≡ false) × (name_place xs name ≡ None)
name_place-none x xs name none = by_test (bytes_eq name x) (name_place xs name) refl refl none
  where
    by_test : (b : Bool) (o : Option ℕ) → bytes_eq name x ≡ b → name_place xs name ≡ o → cond b (Some 0) (option_map suc o) ≡ None
        → (bytes_eq name x ≡ false) × (name_place xs name ≡ None)
    by_test true o test rest none = cc
    by_test false None test rest none = (test, rest)
    by_test false (Some i) test rest none = cc

-- a name that is in a list is its first, or in the rest
pub name_place-some : {P : Type 0} (x : List ℕ) (xs : List (List ℕ)) (name : List ℕ) (i : ℕ) → name_place (x ∷ xs) name ≡ Some i
    → (bytes_eq name x ≡ true → i ≡ 0 → P) → ((j : ℕ) → bytes_eq name x ≡ false → name_place xs name ≡ Some j → i ≡ suc j → P) → P
name_place-some {P} x xs name i some first later = by_test (bytes_eq name x) (name_place xs name) refl refl some
  where
    by_test : (b : Bool) (o : Option ℕ) → bytes_eq name x ≡ b → name_place xs name ≡ o → cond b (Some 0) (option_map suc o) ≡ Some i → P
    by_test true o test rest some = first test cc
    by_test false None test rest some = absurd cc
    by_test false (Some j) test rest some = later j test rest cc

-- the place of a name is within the list
pub name_place-lt : (xs : List (List ℕ)) (name : List ℕ) (i : ℕ) → name_place xs name ≡ Some i → i < length xs
name_place-lt [] name i some = absurd cc
name_place-lt (x ∷ xs) name i some =
    name_place-some x xs name i some (λ test first. omega arith)
    (λ j test rest later. let below : j < length xs = name_place-lt xs name j rest in omega arith)

-- a list stays distinct where a new name is added
pub AreDistinct-append : (xs : List (List ℕ)) (name : List ℕ) → AreDistinct xs → name_place xs name ≡ None → AreDistinct (xs ++ name ∷ [])
AreDistinct-append [] name apart none = (refl, tt)
AreDistinct-append (x ∷ xs) name apart none =
    let parts : (bytes_eq name x ≡ false) × (name_place xs name ≡ None) = name_place-none x xs name none in
    (absent_after xs x apart.0 (bytes_eq-turned name x parts.0), AreDistinct-append xs name apart.1 parts.1)
  where
    absent_after : (ys : List (List ℕ)) (y : List ℕ) → name_place ys y ≡ None → bytes_eq y name ≡ false
        → name_place (ys ++ name ∷ []) y ≡ None
    absent_after [] y none other = ap (λ b. cond b (Some 0) (option_map suc None)) other
    absent_after (z ∷ zs) y none other =
        let parts : (bytes_eq y z ≡ false) × (name_place zs y ≡ None) = name_place-none z zs y none in
        ap (λ b. cond b (Some 0) (option_map suc (name_place (zs ++ name ∷ []) y))) parts.0
        ∙ ap (option_map suc) (absent_after zs y parts.1 other)

-- ---- The index of names

-- the index finds the place of a name
pub position-name_place : (name : List ℕ) (keys : List (Vec ℕ Global))
    → position (λ k. bytes_eq name k.items) keys ≡ name_place (map (λ k. k.items) keys) name
position-name_place name [] = refl
position-name_place name (k ∷ ks) =
    position-step (λ (k : Vec ℕ Global). bytes_eq name k.items) k ks
    ∙ ap (λ (rest : Option ℕ). cond (bytes_eq name k.items) (Some 0) (option_map suc rest)) (position-name_place name ks)

-- a place that is found is within the part
pub within_rows : (rows : List TagRow) (name : List ℕ) (r : Option ℕ) → r ≡ place_of rows name → IfSome r (λ i. i < length rows)
within_rows rows name None found = tt
within_rows rows name (Some i) found = omega (arith, name_place-lt (names_of rows) name i (sym found), length-map rows (λ t. t.name))

-- ---- Tags

-- a new tag goes last
pub add_line-new : (rows : List TagRow) (name : List ℕ) (spellings : List (List ℕ)) → place_of rows name ≡ None
    → add_line rows name spellings ≡ rows ++ add_value (empty_tag name) spellings ∷ []
add_line-new [] name spellings none = refl
add_line-new (t ∷ ts) name spellings none =
    let parts : (bytes_eq name t.name ≡ false) × (place_of ts name ≡ None) = name_place-none t.name (names_of ts) name none in
    ap (λ b. cond b (add_value t spellings ∷ ts) (t ∷ add_line ts name spellings)) parts.0
    ∙ ap (λ r. t ∷ r) (add_line-new ts name spellings parts.1)

-- a tag that is there stays at its place
pub add_line-old : (rows : List TagRow) (name : List ℕ) (spellings : List (List ℕ)) (i : ℕ) → place_of rows name ≡ Some i
    → add_line rows name spellings ≡ set rows i (add_value (get_or rows i (empty_tag [])) spellings)
add_line-old [] name spellings i some = absurd cc
add_line-old (t ∷ ts) name spellings i some =
    name_place-some t.name (names_of ts) name i some
    (λ test first. ap (λ b. cond b (add_value t spellings ∷ ts) (t ∷ add_line ts name spellings)) test
    ∙ ap (λ j. set (t ∷ ts) j (add_value (get_or (t ∷ ts) j (empty_tag [])) spellings)) (sym first))
    (λ j test rest later. ap (λ b. cond b (add_value t spellings ∷ ts) (t ∷ add_line ts name spellings)) test
    ∙ ap (λ r. t ∷ r) (add_line-old ts name spellings j rest)
    ∙ ap (λ j. set (t ∷ ts) j (add_value (get_or (t ∷ ts) j (empty_tag [])) spellings)) (sym later))

-- a tag that isn't there has no values
pub values_of-new : (rows : List TagRow) (name : List ℕ) → place_of rows name ≡ None → values_of rows name ≡ None
values_of-new [] name none = refl
values_of-new (t ∷ ts) name none =
    let parts : (bytes_eq name t.name ≡ false) × (place_of ts name ≡ None) = name_place-none t.name (names_of ts) name none in
    ap (λ b. cond b (Some (length t.firsts)) (values_of ts name)) parts.0 ∙ values_of-new ts name parts.1

-- a tag that is there has those of its place
pub values_of-old : (rows : List TagRow) (name : List ℕ) (i : ℕ) → place_of rows name ≡ Some i
    → values_of rows name ≡ Some (length (get_or rows i (empty_tag [])).firsts)
values_of-old [] name i some = absurd cc
values_of-old (t ∷ ts) name i some =
    name_place-some t.name (names_of ts) name i some
    (λ test first. ap (λ b. cond b (Some (length t.firsts)) (values_of ts name)) test
    ∙ ap (λ j. Some (length (get_or (t ∷ ts) j (empty_tag [])).firsts)) (sym first))
    (λ j test rest later. ap (λ b. cond b (Some (length t.firsts)) (values_of ts name)) test ∙ values_of-old ts name j rest
    ∙ ap (λ j. Some (length (get_or (t ∷ ts) j (empty_tag [])).firsts)) (sym later))

-- ---- Room

-- where a tag is new, its part has to have room
pub has_room-new : (rows : List TagRow) (name : List ℕ) (len : ℕ) → place_of rows name ≡ None → len ≡ length rows
    → nat_lt len 1024 ≡ has_room rows name
has_room-new rows name len none len_is =
    ap (λ n. nat_lt n 1024) len_is ∙ ap (λ v. room_for v (length rows)) (sym (values_of-new rows name none))

-- where it is there, it has to have room itself
pub has_room-old : (rows : List TagRow) (name : List ℕ) (i : ℕ) → place_of rows name ≡ Some i
    → nat_lt (length (get_or rows i (empty_tag [])).firsts) 4096 ≡ has_room rows name
has_room-old rows name i some = ap (λ v. room_for v (length rows)) (sym (values_of-old rows name i some))

-- ---- The index after a new name

-- a name that has no place isn't found by a test either
none_passes : (name : List ℕ) (keys : List (Vec ℕ Global)) → name_place (map (λ k. k.items) keys) name ≡ None
    → list_any (λ k. bytes_eq name k.items) keys ≡ false
none_passes name [] none = refl
none_passes name (k ∷ ks) none =
    let parts : (bytes_eq name k.items ≡ false) × (name_place (map (λ k. k.items) ks) name ≡ None) =
    name_place-none k.items (map (λ k. k.items) ks) name none in
    ap (λ b. b || list_any (λ k. bytes_eq name k.items) ks) parts.0 ∙ none_passes name ks parts.1

-- an index that has the names of the tags, of which none comes twice, and a tag that is new
module _ (keys : List (Vec ℕ Global)) (rows : List TagRow) (tag : TagRow) (same : map (λ k. k.items) keys ≡ names_of rows)
    (none : place_of rows tag.name ≡ None) where
  -- the names after it went last
  last : names_of (rows ++ tag ∷ []) ≡ names_of rows ++ tag.name ∷ []
  last = map-append (λ t. t.name) rows (tag ∷ [])

  -- the index has the same names as the tags after a new one went last in both
  pub names_more : (new : List (Vec ℕ Global)) (key : Vec ℕ Global) → key.items ≡ tag.name
      → new ≡ insert_key (λ x y. bytes_eq x.items y.items) keys key → map (λ k. k.items) new ≡ names_of (rows ++ tag ∷ [])
  names_more new key key_is new_is =
      let absent : list_any (λ k. bytes_eq key.items k.items) keys ≡ false =
      none_passes key.items keys (ap (name_place (map (λ k. k.items) keys)) key_is ∙ ap (λ names. name_place names tag.name) same ∙ none) in
      ap (map (λ k. k.items)) (new_is ∙ ap (λ b. cond b keys (keys ++ key ∷ [])) absent)
      ∙ map-append (λ k. k.items) keys (key ∷ [])
      ∙ ap (λ names. names ++ key.items ∷ []) same
      ∙ ap (λ name. names_of rows ++ name ∷ []) key_is
      ∙ sym last

  -- and none comes twice
  pub distinct_more : AreDistinct (names_of rows) → AreDistinct (names_of (rows ++ tag ∷ []))
  distinct_more apart = subst AreDistinct (sym last) (AreDistinct-append (names_of rows) tag.name apart none)
