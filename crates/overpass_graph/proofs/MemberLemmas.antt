-- The ways of members, one member after the other.
use Rattle.std.proofs.Common.{◌≡◌, ℕ, ℤ, ◌+◌, ◌<◌, ◌≤◌, Bool, true, false, List, [], ◌∷◌, ◌++◌, length, get_or, drop, Option, Some, None, refl, sym, ap, ◌∙◌, append_assoc}
use Rattle.std.proofs.lemmas.List.{append-nil, drop_more, drop_all}
use Rattle.std.specs.Prelude.{if◌then◌else◌}
use Rattle.std.specs.Str.{bytes_eq}
use Rattle.map_tables.specs.Kept.{Kept}
use Rattle.map_tables.specs.declared.member.Member.{Member}
use Rattle.overpass_graph.specs.Members.{no_member}
use Rattle.overpass_graph.specs.Restrictions.{in_role, way_of, ways_of}

-- the first member's part in a role
pub role-first : (role : List ℕ) (m : Member) (ms : List Member) → in_role role (m ∷ ms) ≡ in_role role (m ∷ []) ++ in_role role ms
role-first role m ms = by_role (bytes_eq m.role role)
  where
    by_role : (b : Bool) → (if b then m ∷ in_role role ms else in_role role ms) ≡ (if b then m ∷ [] else []) ++ in_role role ms
    by_role true = refl
    by_role false = refl

-- ways of members one list behind the other
pub ways-append : (ways : List (Kept (List ℤ))) (xs ys : List Member) → ways_of ways (xs ++ ys) ≡ ways_of ways xs ++ ways_of ways ys
ways-append ways [] ys = refl
ways-append ways (m ∷ xs) ys = by_way (way_of ways m) refl (ways-append ways xs ys)
  where
    by_way : (o : Option ℕ) → way_of ways m ≡ o → ways_of ways (xs ++ ys) ≡ ways_of ways xs ++ ways_of ways ys
        → ways_of ways (m ∷ (xs ++ ys)) ≡ ways_of ways (m ∷ xs) ++ ways_of ways ys
    by_way None e later = rw e later
    by_way (Some way) e later = rw e (ap (λ ws. way ∷ ws) later)

-- the ways of the members in a role from a place on
pub ways-step : (ways : List (Kept (List ℤ))) (role : List ℕ) (members : List Member) (n : ℕ) → n < length members
    → ways_of ways (in_role role (drop n members))
    ≡ ways_of ways (in_role role (get_or members n no_member ∷ [])) ++ ways_of ways (in_role role (drop (n + 1) members))
ways-step ways role members n below =
    ap (λ ms. ways_of ways (in_role role ms)) (drop_more members n no_member below)
    ∙ ap (ways_of ways) (role-first role (get_or members n no_member) (drop (n + 1) members))
    ∙ ways-append ways (in_role role (get_or members n no_member ∷ [])) (in_role role (drop (n + 1) members))

-- one more member was read
pub ways-on : (ways : List (Kept (List ℤ))) (role : List ℕ) (members : List Member) (n : ℕ) (old new all : List ℕ) → n < length members
    → old ++ ways_of ways (in_role role (drop n members)) ≡ all
    → new ≡ old ++ ways_of ways (in_role role (get_or members n no_member ∷ []))
    → new ++ ways_of ways (in_role role (drop (n + 1) members)) ≡ all
ways-on ways role members n old new all below so_far is =
    ap (λ ws. ws ++ ways_of ways (in_role role (drop (n + 1) members))) is
    ∙ append_assoc old (ways_of ways (in_role role (get_or members n no_member ∷ []))) (ways_of ways (in_role role (drop (n + 1) members)))
    ∙ ap (λ ws. old ++ ws) (sym (ways-step ways role members n below)) ∙ so_far

-- all members were read
pub ways-end : (ways : List (Kept (List ℤ))) (role : List ℕ) (members : List Member) (n : ℕ) (old all : List ℕ) → length members ≤ n
    → old ++ ways_of ways (in_role role (drop n members)) ≡ all → old ≡ all
ways-end ways role members n old all past so_far =
    sym (append-nil old) ∙ ap (λ ms. old ++ ways_of ways (in_role role ms)) (sym (drop_all n members past)) ∙ so_far

-- a member in the role is the next
pub role-here : (role : List ℕ) (members : List Member) (n : ℕ) → n < length members →
    bytes_eq (get_or members n no_member).role role ≡ true
    → in_role role (drop n members) ≡ get_or members n no_member ∷ in_role role (drop (n + 1) members)
role-here role members n below here =
    ap (in_role role) (drop_more members n no_member below)
    ∙ ap (λ b. if b then get_or members n no_member ∷ in_role role (drop (n + 1) members) else in_role role (drop (n + 1) members)) here

-- one in another role is passed over
pub role-past : (role : List ℕ) (members : List Member) (n : ℕ) → n < length members →
    bytes_eq (get_or members n no_member).role role ≡ false
    → in_role role (drop n members) ≡ in_role role (drop (n + 1) members)
role-past role members n below here =
    ap (in_role role) (drop_more members n no_member below)
    ∙ ap (λ b. if b then get_or members n no_member ∷ in_role role (drop (n + 1) members) else in_role role (drop (n + 1) members)) here

-- behind the last there is none
pub role-end : (role : List ℕ) (members : List Member) (n : ℕ) → length members ≤ n → in_role role (drop n members) ≡ []
role-end role members n past = ap (in_role role) (drop_all n members past)
