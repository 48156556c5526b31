-- Numbers that an index keeps, and lists of tags.
use Rattle.std.proofs.Common.{◌≡◌, ℕ, zero, suc, ◌+◌, ◌≤◌, Bool, true, false, cond, List, [], ◌∷◌, ◌++◌, length, length-append, set, map, Option, Some, None, refl, sym, ap, ◌∙◌, subst, arith, is_some, unwrap_or, Vec, Global}
use Rattle.std.proofs.lemmas.List.{map-append}
use Rattle.std.specs.Map.{lookup}
use Rattle.std.specs.Str.{bytes_eq}
use Rattle.lookup_table.specs.Tag.{TagRow, IsSound, AreSound, AreWithin, KeepWithin, number_in, add_spelling}

-- the entries of the index, by the bytes of their keys
abbrev pub by_bytes : List (Vec ℕ Global × ℕ) → List (List ℕ × ℕ)
by_bytes entries = map (λ e. (e.0.items, e.1)) entries

-- a look-up in the index finds what the list of its entries says
pub lookup-by_bytes : (spelling : List ℕ) (entries : List (Vec ℕ Global × ℕ))
    → lookup (λ k. bytes_eq spelling k.items) entries ≡ number_in (by_bytes entries) spelling
lookup-by_bytes spelling [] = refl
lookup-by_bytes spelling (e ∷ es) = ap (λ rest. cond (bytes_eq spelling e.0.items) (Some e.1) rest) (lookup-by_bytes spelling es)

-- a spelling that has a number keeps it
pub kept_spelling : (spelling : List ℕ) (number : ℕ) (entries : List (Vec ℕ Global × ℕ))
    → true ≡ is_some (lookup (λ k. bytes_eq spelling k.items) entries) → by_bytes entries ≡ add_spelling (by_bytes entries) number spelling
kept_spelling spelling number entries test =
    sym (ap (λ v. cond v (by_bytes entries) (by_bytes entries ++ (spelling, number) ∷ []))
    (ap is_some (sym (lookup-by_bytes spelling entries)) ∙ sym test))

-- a spelling that has none gets one, at the end
pub new_spelling : (spelling : List ℕ) (number : ℕ) (old new : List (Vec ℕ Global × ℕ)) (key : Vec ℕ Global) → key.items ≡ spelling
    → new ≡ old ++ (key, number) ∷ [] → false ≡ is_some (lookup (λ k. bytes_eq spelling k.items) old)
    → by_bytes new ≡ add_spelling (by_bytes old) number spelling
new_spelling spelling number old new key key_is new_is test =
    ap by_bytes new_is
    ∙ map-append (λ e. (e.0.items, e.1)) old ((key, number) ∷ [])
    ∙ ap (λ s. by_bytes old ++ (s, number) ∷ []) key_is
    ∙ sym (ap (λ v. cond v (by_bytes old) (by_bytes old ++ (spelling, number) ∷ []))
    (ap is_some (sym (lookup-by_bytes spelling old)) ∙ sym test))

-- what isn't there isn't found
pub absent : {X : Type 0} (o : Option X) → false ≡ is_some o → o ≡ None
absent None test = refl
absent (Some x) test = cc

-- ---- Numbers of listed values

-- numbers of so many values are numbers of more
pub AreWithin-more : (values more : ℕ) (numbers : List (List ℕ × ℕ)) → values ≤ more → AreWithin values numbers → AreWithin more numbers
AreWithin-more values more [] le within = tt
AreWithin-more values more (e ∷ es) le within = (within.0, omega (arith, within.1), AreWithin-more values more es le within.2)

-- so are they with one more that is
AreWithin-append : (values : ℕ) (numbers : List (List ℕ × ℕ)) (e : List ℕ × ℕ) → AreWithin values numbers → 2 ≤ e.1 → e.1 ≤ values + 1
    → AreWithin values (numbers ++ e ∷ [])
AreWithin-append values [] e within two le = (two, le, tt)
AreWithin-append values (x ∷ xs) e within two le = (within.0, within.1, AreWithin-append values xs e within.2 two le)

-- a spelling that gets a number or has one leaves them so
pub KeepWithin-spelling : (numbers new : List (List ℕ × ℕ)) (number : ℕ) (spelling : List ℕ) → new ≡ add_spelling numbers number spelling
    → KeepWithin number numbers new
KeepWithin-spelling numbers new number spelling new_is = λ values two le within.
    subst (AreWithin values) (sym new_is) (by_test values two le within (is_some (number_in numbers spelling)))
  where
    by_test : (values : ℕ) → 2 ≤ number → number ≤ values + 1 → AreWithin values numbers → (b : Bool)
        → AreWithin values (cond b numbers (numbers ++ (spelling, number) ∷ []))
    by_test values two le within true = within
    by_test values two le within false = AreWithin-append values numbers (spelling, number) within two le

-- a number of a spelling is one of them
pub AreWithin-number : (values : ℕ) (numbers : List (List ℕ × ℕ)) (spelling : List ℕ) → AreWithin values numbers
    → unwrap_or (number_in numbers spelling) 1 ≤ values + 1
AreWithin-number values [] spelling within = omega arith
AreWithin-number values (e ∷ es) spelling within = by_test (bytes_eq spelling e.0) (AreWithin-number values es spelling within.2)
  where
    by_test : (b : Bool) → unwrap_or (number_in es spelling) 1 ≤ values + 1
        → unwrap_or (cond b (Some e.1) (number_in es spelling)) 1 ≤ values + 1
    by_test true rest = within.1
    by_test false rest = rest

-- one more item makes a list longer by one
pub length_push : (old new : List (List ℕ)) (x : List ℕ) → new ≡ old ++ x ∷ [] → length new ≡ length old + 1
length_push old new x new_is = ap length new_is ∙ length-append old (x ∷ [])

-- ---- The tags of a part

-- a sound tag goes last
pub AreSound-append : (rows : List TagRow) (tag : TagRow) → AreSound rows → IsSound tag → AreSound (rows ++ tag ∷ [])
AreSound-append [] tag sound one = (one, tt)
AreSound-append (r ∷ rs) tag sound one = (sound.0, AreSound-append rs tag sound.1 one)

-- a sound tag takes a place
pub AreSound-set : (rows : List TagRow) (place : ℕ) (tag : TagRow) → AreSound rows → IsSound tag → AreSound (set rows place tag)
AreSound-set [] place tag sound one = tt
AreSound-set (r ∷ rs) zero tag sound one = (one, sound.1)
AreSound-set (r ∷ rs) (suc place) tag sound one = (sound.0, AreSound-set rs place tag sound.1 one)
