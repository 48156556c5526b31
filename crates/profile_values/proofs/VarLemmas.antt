-- The variables that assigned values leave, gathered in an index.
use Rattle.std.proofs.Common.{◌≡◌, ℕ, zero, suc, ◌+◌, Bool, true, false, not, cond, List, [], ◌∷◌, ◌++◌, take, slice_get, map, filter, ℤ, Some, None, refl, sym, ap, ◌∙◌, subst, arith, Vec, Global}
use Rattle.std.proofs.lemmas.List.{map-append}
use Rattle.std.proofs.lemmas.Slice.Eq.{bytes_eq-Decides}
use Rattle.std.specs.Map.{lookup}
use Rattle.std.specs.Str.{bytes_eq}
use Rattle.indexmap.specs.IndexMap.{insert_entry}
use Rattle.profile_text.specs.Meaning.{last_value, later_value}
use Rattle.profile_values.specs.Vars.{AreVars, by_bytes, first_names}
use Rattle.profile_text.proofs.CallerLemmas.{lookup-insert}
use Rattle.item_list.proofs.TestLemmas.{bytes_eq-refl}

-- ---- Values that come one after the other

-- the value that is assigned last is that of its name; every other name keeps its own
pub last_value-append : (values : List (List ℕ × ℤ)) (key : List ℕ) (n : ℤ) (name : List ℕ)
    → last_value (values ++ (key, n) ∷ []) name ≡ cond (bytes_eq name key) (Some n) (last_value values name)
last_value-append [] key n name = by_test (bytes_eq name key)
  where
    by_test : (b : Bool) → later_value b n None ≡ cond b (Some n) None
    by_test true = refl
    by_test false = refl
last_value-append (v ∷ vs) key n name =
    ap (later_value (bytes_eq name v.0) v.1) (last_value-append vs key n name) ∙ by_test (bytes_eq name key)
  where
    by_test : (b : Bool) → later_value (bytes_eq name v.0) v.1 (cond b (Some n) (last_value vs name))
        ≡ cond b (Some n) (later_value (bytes_eq name v.0) v.1 (last_value vs name))
    by_test true = refl
    by_test false = refl

-- ---- Names, each once

-- a name at the end, unless it is there
abbrev with_name : List (List ℕ) → List ℕ → List (List ℕ)
with_name [] key = key ∷ []
with_name (x ∷ xs) key = cond (bytes_eq key x) (x ∷ xs) (x ∷ with_name xs key)

-- the names other than this one
abbrev without : List ℕ → List (List ℕ) → List (List ℕ)
without n ns = filter (λ m. not (bytes_eq n m)) ns

-- a name that is left out may be put at the end or not
without-same : (n : List ℕ) (ns : List (List ℕ)) → without n (with_name ns n) ≡ without n ns
without-same n [] = ap (λ b. cond (not b) (n ∷ []) []) (bytes_eq-refl n)
without-same n (x ∷ xs) = by_test (bytes_eq n x) (without-same n xs)
  where
    by_test : (b : Bool) → without n (with_name xs n) ≡ without n xs → without n (cond b (x ∷ xs) (x ∷ with_name xs n)) ≡ without n (x ∷ xs)
    by_test true rest = refl
    by_test false rest = ap (λ r. cond (not (bytes_eq n x)) (x ∷ r) r) rest

-- another name is put at the end of those that are left
without-other : (n key : List ℕ) (ns : List (List ℕ)) → bytes_eq n key ≡ false → without n (with_name ns key) ≡ with_name (without n ns) key
without-other n key [] other = ap (λ b. cond (not b) (key ∷ []) []) other
without-other n key (x ∷ xs) other = by_test (bytes_eq key x) (bytes_eq n x) refl refl (without-other n key xs other)
  where
    by_test : (b c : Bool) → bytes_eq key x ≡ b → bytes_eq n x ≡ c → without n (with_name xs key) ≡ with_name (without n xs) key
        → without n (cond b (x ∷ xs) (x ∷ with_name xs key)) ≡ with_name (cond (not c) (x ∷ without n xs) (without n xs)) key
    by_test true true key_is n_is rest =
        let a : key ≡ x = (bytes_eq-Decides key x).0 key_is in
        let b : n ≡ x = (bytes_eq-Decides n x).0 n_is in
        let wrong : bytes_eq n key ≡ true = (bytes_eq-Decides n key).1 (b ∙ sym a) in
        cc
    by_test true false key_is n_is rest =
        ap (λ c. cond (not c) (x ∷ without n xs) (without n xs)) n_is
        ∙ sym (ap (λ b. cond b (x ∷ without n xs) (x ∷ with_name (without n xs) key)) key_is)
    by_test false true key_is n_is rest =
        ap (λ c. cond (not c) (x ∷ without n (with_name xs key)) (without n (with_name xs key))) n_is ∙ rest
    by_test false false key_is n_is rest =
        ap (λ c. cond (not c) (x ∷ without n (with_name xs key)) (without n (with_name xs key))) n_is
        ∙ ap (λ r. x ∷ r) rest
        ∙ sym (ap (λ b. cond b (x ∷ without n xs) (x ∷ with_name (without n xs) key)) key_is)

-- one more name keeps its place, or goes last
first_names-append : (ns : List (List ℕ)) (key : List ℕ) → first_names (ns ++ key ∷ []) ≡ with_name (first_names ns) key
first_names-append [] key = refl
first_names-append (n ∷ ns) key =
    ap (λ r. n ∷ without n r) (first_names-append ns key) ∙ by_test (bytes_eq n key) (bytes_eq key n) refl refl
  where
    by_test : (b c : Bool) → bytes_eq n key ≡ b → bytes_eq key n ≡ c
        → n ∷ without n (with_name (first_names ns) key)
        ≡ cond c (n ∷ without n (first_names ns)) (n ∷ with_name (without n (first_names ns)) key)
    by_test true true b_is c_is =
        subst (λ k. n ∷ without n (with_name (first_names ns) k) ≡ n ∷ without n (first_names ns)) ((bytes_eq-Decides n key).0 b_is)
        (ap (λ r. n ∷ r) (without-same n (first_names ns)))
    by_test true false b_is c_is =
        let wrong : bytes_eq key n ≡ true = (bytes_eq-Decides key n).1 (sym ((bytes_eq-Decides n key).0 b_is)) in cc
    by_test false true b_is c_is =
        let wrong : bytes_eq n key ≡ true = (bytes_eq-Decides n key).1 (sym ((bytes_eq-Decides key n).0 c_is)) in cc
    by_test false false b_is c_is = ap (λ r. n ∷ r) (without-other n key (first_names ns) b_is)

-- ---- The index

-- the names of the entries after a key was put in
names-insert : (entries : List (Vec ℕ Global × ℤ)) (key : Vec ℕ Global) (n : ℤ)
    → map (λ v. v.0) (by_bytes (insert_entry (λ x y. bytes_eq x.items y.items) entries key n))
    ≡ with_name (map (λ v. v.0) (by_bytes entries)) key.items
names-insert [] key n = refl
names-insert (e ∷ es) key n = by_test (bytes_eq key.items e.0.items) (names-insert es key n)
  where
    by_test : (b : Bool) → map (λ v. v.0) (by_bytes (insert_entry (λ x y. bytes_eq x.items y.items) es key n))
        ≡ with_name (map (λ v. v.0) (by_bytes es)) key.items
        → map (λ v. v.0) (by_bytes (cond b ((e.0, n) ∷ es) (e ∷ insert_entry (λ x y. bytes_eq x.items y.items) es key n)))
        ≡ cond b (map (λ v. v.0) (by_bytes (e ∷ es))) (e.0.items ∷ with_name (map (λ v. v.0) (by_bytes es)) key.items)
    by_test true rest = refl
    by_test false rest = ap (λ r. e.0.items ∷ r) rest

-- a look-up among the entries is one by the bytes of their keys
lookup-by_bytes : (name : List ℕ) (entries : List (Vec ℕ Global × ℤ))
    → lookup (bytes_eq name) (by_bytes entries) ≡ lookup (λ k. bytes_eq name k.items) entries
lookup-by_bytes name [] = refl
lookup-by_bytes name (e ∷ es) = ap (λ rest. cond (bytes_eq name e.0.items) (Some e.1) rest) (lookup-by_bytes name es)

-- an empty index has the variables of no values
pub AreVars-none : (entries : List (Vec ℕ Global × ℤ)) → entries ≡ [] → AreVars [] (by_bytes entries)
AreVars-none entries none = subst (λ es. AreVars [] (by_bytes es)) (sym none) (record { names = refl; numbers = λ name. refl })

-- one more value that is put into the index is one more that was assigned
pub AreVars-push : (values : List (List ℕ × ℤ)) (entries more : List (Vec ℕ Global × ℤ)) (key : Vec ℕ Global) (name : List ℕ) (n : ℤ)
    → key.items ≡ name → more ≡ insert_entry (λ x y. bytes_eq x.items y.items) entries key n → AreVars values (by_bytes entries)
    → AreVars (values ++ (name, n) ∷ []) (by_bytes more)
AreVars-push values entries more key name n key_is more_is vars =
    subst (λ k. AreVars (values ++ (k, n) ∷ []) (by_bytes more)) key_is (record {
      names =
          ap (λ es. map (λ v. v.0) (by_bytes es)) more_is
          ∙ names-insert entries key n
          ∙ ap (λ names. with_name names key.items) vars.names
          ∙ sym (first_names-append (map (λ v. v.0) values) key.items)
          ∙ ap first_names (sym (map-append (λ v. v.0) values ((key.items, n) ∷ [])));
      numbers = λ other.
          ap (λ es. lookup (bytes_eq other) (by_bytes es)) more_is
          ∙ lookup-by_bytes other (insert_entry (λ x y. bytes_eq x.items y.items) entries key n)
          ∙ lookup-insert other entries key n
          ∙ ap (cond (bytes_eq other key.items) (Some n)) (sym (lookup-by_bytes other entries) ∙ vars.numbers other)
          ∙ sym (last_value-append values key.items n other);
    })

-- ---- Lists up to a place

-- one more item is taken
pub take-next : {A : Type 0} (xs : List A) (place : ℕ) (x : A) → slice_get xs place ≡ Some x → take (place + 1) xs ≡ take place xs ++ x ∷ []
take-next {A} xs place x found = ap (λ n. take n xs) next ∙ by_place xs place found
  where
    next : place + 1 ≡ suc place
    next = omega arith

    by_place : (ys : List A) (i : ℕ) → slice_get ys i ≡ Some x → take (suc i) ys ≡ take i ys ++ x ∷ []
    by_place [] i found = cc
    by_place (y ∷ ys) zero found = let same : y ≡ x = cc in ap (λ z. z ∷ []) same
    by_place (y ∷ ys) (suc i) found = ap (λ r. y ∷ r) (by_place ys i found)

-- the same of the entries of an index
pub by_bytes-next : (entries : List (Vec ℕ Global × ℤ)) (place : ℕ) (key : Vec ℕ Global) (name : List ℕ) (n : ℤ) (vars : List (List ℕ × ℤ))
    → slice_get entries place ≡ Some (key, n) → name ≡ key.items → vars ≡ by_bytes (take place entries)
    → vars ++ (name, n) ∷ [] ≡ by_bytes (take (place + 1) entries)
by_bytes-next entries place key name n vars found name_is vars_is =
    ap (λ vs. vs ++ (name, n) ∷ []) vars_is
    ∙ ap (λ k. by_bytes (take place entries) ++ (k, n) ∷ []) name_is
    ∙ sym (map-append (λ e. (e.0.items, e.1)) (take place entries) ((key, n) ∷ []))
    ∙ ap by_bytes (sym (take-next entries place (key, n) found))
