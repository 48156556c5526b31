-- Names that are assigned one after the other, and an index of them.
use Rattle.std.proofs.Common.{◌≡◌, ℕ, suc, ◌+◌, ◌<◌, ◌^◌, Bool, true, false, cond, List, [], ◌∷◌, ◌++◌, length, length-append, Option, Some, None, refl, sym, ap, ◌∙◌, arith, IfSome, Vec, Global}
use Rattle.std.proofs.lemmas.Slice.Eq.{bytes_eq-Decides}
use Rattle.std.specs.Map.{lookup}
use Rattle.std.specs.Str.{bytes_eq}
use Rattle.indexmap.specs.IndexMap.{insert_entry}
use Rattle.profile_text.specs.Names.{last_place, later_place}
use Rattle.profile_text.specs.Numbered.{AreNumbered}

-- two names that are one are alike for every other name
bytes_eq-same : (name x y : List ℕ) → bytes_eq x y ≡ true → bytes_eq name x ≡ bytes_eq name y
bytes_eq-same name x y test = ap (bytes_eq name) ((bytes_eq-Decides x y).0 test)

-- a name that was put at the end stands last there; every other where it stood
pub last_place-append : (names : List (List ℕ)) (last name : List ℕ)
    → last_place (names ++ last ∷ []) name ≡ cond (bytes_eq name last) (Some (length names)) (last_place names name)
last_place-append [] last name = by_test (bytes_eq name last)
  where
    by_test : (b : Bool) → later_place b None ≡ cond b (Some 0) None
    by_test true = refl
    by_test false = refl
last_place-append (n ∷ ns) last name = ap (later_place (bytes_eq name n)) (last_place-append ns last name) ∙ by_test (bytes_eq name last)
  where
    by_test : (b : Bool) → later_place (bytes_eq name n) (cond b (Some (length ns)) (last_place ns name))
        ≡ cond b (Some (suc (length ns))) (later_place (bytes_eq name n) (last_place ns name))
    by_test true = refl
    by_test false = refl

-- the place of a name is within the list
pub last_place-lt : (names : List (List ℕ)) (name : List ℕ) → IfSome (last_place names name) (λ place. place < length names)
last_place-lt [] name = tt
last_place-lt (n ∷ ns) name = by_rest (bytes_eq name n) (last_place ns name) (last_place-lt ns name)
  where
    by_rest : (b : Bool) (o : Option ℕ) → IfSome o (λ place. place < length ns)
        → IfSome (later_place b o) (λ place. place < suc (length ns))
    by_rest b (Some place) below = omega arith
    by_rest true None below = omega arith
    by_rest false None below = tt

-- a look-up after a key was put in finds its value by its name, and for every other name what it found
pub lookup-insert : {X : Type 0} (name : List ℕ) (entries : List (Vec ℕ Global × X)) (key : Vec ℕ Global) (place : X)
    → lookup (λ k. bytes_eq name k.items) (insert_entry (λ x y. bytes_eq x.items y.items) entries key place)
    ≡ cond (bytes_eq name key.items) (Some place) (lookup (λ k. bytes_eq name k.items) entries)
lookup-insert {X} name [] key place = refl
lookup-insert {X} name (e ∷ es) key place = by_test (bytes_eq key.items e.0.items) refl (lookup-insert name es key place)
  where
    by_test : (b : Bool) → bytes_eq key.items e.0.items ≡ b
        → lookup (λ k. bytes_eq name k.items) (insert_entry (λ x y. bytes_eq x.items y.items) es key place)
        ≡ cond (bytes_eq name key.items) (Some place) (lookup (λ k. bytes_eq name k.items) es)
        → lookup (λ k. bytes_eq name k.items) (cond b ((e.0, place) ∷ es) (e ∷ insert_entry (λ x y. bytes_eq x.items y.items) es key place))
        ≡ cond (bytes_eq name key.items) (Some place) (cond (bytes_eq name e.0.items) (Some e.1) (lookup (λ k. bytes_eq name k.items) es))
    by_test true test rest =
        let same : bytes_eq name key.items ≡ bytes_eq name e.0.items =
        bytes_eq-same name key.items e.0.items test in ap (λ b. cond b (Some place) (lookup (λ k. bytes_eq name k.items) es)) (sym same)
        ∙ by_key (bytes_eq name key.items) (bytes_eq name e.0.items) same
      where
        by_key : (b c : Bool) → b ≡ c
            → cond b (Some place) (lookup (λ k. bytes_eq name k.items) es)
            ≡ cond b (Some place) (cond c (Some e.1) (lookup (λ k. bytes_eq name k.items) es))
        by_key true c same = refl
        by_key false true same = cc
        by_key false false same = refl
    by_test false test rest =
        ap (cond (bytes_eq name e.0.items) (Some e.1)) rest ∙ by_keys (bytes_eq name key.items) (bytes_eq name e.0.items) refl refl
      where
        by_keys : (b c : Bool) → bytes_eq name key.items ≡ b → bytes_eq name e.0.items ≡ c
            → cond c (Some e.1) (cond b (Some place) (lookup (λ k. bytes_eq name k.items) es))
            ≡ cond b (Some place) (cond c (Some e.1) (lookup (λ k. bytes_eq name k.items) es))
        by_keys true true key_is entry_is =
            let one : name ≡ key.items = (bytes_eq-Decides name key.items).0 key_is in
            let other : name ≡ e.0.items = (bytes_eq-Decides name e.0.items).0 entry_is in
            let wrong : bytes_eq key.items e.0.items ≡ true = (bytes_eq-Decides key.items e.0.items).1 (sym one ∙ other) in
            cc
        by_keys true false key_is entry_is = refl
        by_keys false true key_is entry_is = refl
        by_keys false false key_is entry_is = refl

-- an index stays one of the names where a name is put at the end of both
pub AreNumbered-push : (names new : List (List ℕ)) (entries more : List (Vec ℕ Global × ℕ)) (key : Vec ℕ Global) (place : ℕ)
    → AreNumbered names entries → place ≡ length names → place + 1 < 2 ^ 32 → new ≡ names ++ key.items ∷ []
    → more ≡ insert_entry (λ x y. bytes_eq x.items y.items) entries key place → AreNumbered new more
AreNumbered-push names new entries more key place numbered place_is fits new_is more_is = record {
  few = omega (arith, ap length new_is, length-append names (key.items ∷ []), place_is, fits);
  places = λ name.
      ap (lookup (λ k. bytes_eq name k.items)) more_is
      ∙ lookup-insert name entries key place
      ∙ ap (cond (bytes_eq name key.items) (Some place)) (numbered.places name)
      ∙ ap (λ p. cond (bytes_eq name key.items) (Some p) (last_place names name)) place_is
      ∙ sym (last_place-append names key.items name)
      ∙ ap (λ ns. last_place ns name) (sym new_is);
}
