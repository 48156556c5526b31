-- Where heads end.
use Rattle.std.proofs.Common.{◌≡◌, ℕ, zero, suc, ◌+◌, ◌-◌, ◌≤◌, ◌<◌, Bool, true, false, ◌&&◌, List, [], ◌∷◌, ◌++◌, length, take, drop, get_or, nat_eq, refl, sym, ap, ◌∙◌, subst, arith, add-one, drop-cons, Option, Some, None, option_map, if◌then◌else◌}
use Rattle.std.proofs.lemmas.List.{take-append-drop, drop_all}
use Rattle.std.specs.Option.{option_or}
use Rattle.item_list.proofs.ListLemmas.{tail}
use Rattle.route_http.specs.Ends.{empty_line, end_of}
use Rattle.item_list.proofs.TestLemmas.{option_map-none, place-from_front, place-from_next}

-- ---- The empty line

-- one byte alone is no empty line, whatever it is
lone_test : (t : Bool) → ◌≡◌ {A = Option ℕ} (if t && false then Some 2 else (if t && false then Some 3 else None)) None
lone_test true = refl
lone_test false = refl

-- one byte has no empty line
lone : (b : ℕ) → empty_line (b ∷ []) ≡ None
unfolding empty_line
lone b = lone_test (nat_eq 10 b)

-- an empty line of two bytes stays one, whatever follows
two_test : (t u v : Bool) (n : ℕ) (rest : Option ℕ)
    → ◌≡◌ {A = Option ℕ} (if t && (u && true) then Some 2 else (if t && (v && false) then Some 3 else None)) (Some n)
    → (◌≡◌ {A = Option ℕ} (if t && (u && true) then Some 2 else rest) (Some n)) × (◌≡◌ {A = ℕ} n 2)
two_test true true v n rest is = (is, cc)
two_test true false true n rest is = absurd (cc)
two_test true false false n rest is = absurd (cc)
two_test false u v n rest is = absurd (cc)

-- an empty line of two bytes stays one, whatever follows
two : (b x n : ℕ) (more : List ℕ) → empty_line (b ∷ x ∷ []) ≡ Some n → (empty_line (b ∷ x ∷ more) ≡ Some n) × (◌≡◌ {A = ℕ} n 2)
unfolding empty_line
two b x n more is = two_test (nat_eq 10 b) (nat_eq 10 x) (nat_eq 13 x) n _ is

-- after the third byte nothing counts
three : (b x y : ℕ) (bytes more : List ℕ) → empty_line (b ∷ x ∷ y ∷ bytes) ≡ empty_line (b ∷ x ∷ y ∷ more)
unfolding empty_line
three b x y bytes more = refl

-- an empty line takes at most three bytes
three_test : (p q : Bool) (n : ℕ)
    → ◌≡◌ {A = Option ℕ} (if p then Some 2 else (if q then Some 3 else None)) (Some n) → n ≤ 3
three_test true q n is = let e : ◌≡◌ {A = ℕ} 2 n = cc in omega arith
three_test false true n is = let e : ◌≡◌ {A = ℕ} 3 n = cc in omega arith
three_test false false n is = absurd (cc)

-- an empty line takes at most three bytes
three_most : (bytes : List ℕ) (n : ℕ) → empty_line bytes ≡ Some n → n ≤ 3
unfolding empty_line
three_most bytes n is = three_test _ _ n is

-- nothing has no empty line
nothing : empty_line [] ≡ None
unfolding empty_line
nothing = refl

-- an empty line takes no more bytes than there are
pub empty_line-fits : (bytes : List ℕ) (n : ℕ) → empty_line bytes ≡ Some n → n ≤ length bytes
empty_line-fits [] n is = let none = nothing in absurd (cc)
empty_line-fits (b ∷ []) n is = let none = lone b in absurd (cc)
empty_line-fits (b ∷ x ∷ []) n is = let e = (two b x n [] is).1 in omega arith
empty_line-fits (b ∷ x ∷ y ∷ bytes) n is = let e = three_most (b ∷ x ∷ y ∷ bytes) n is in omega arith

-- two more bytes tell whether an empty line begins here
line_front : (k b : ℕ) (bytes : List ℕ) → empty_line (b ∷ take (suc (suc k)) bytes) ≡ empty_line (b ∷ bytes)
line_front k b [] = refl
line_front k b (x ∷ []) = refl
line_front k b (x ∷ y ∷ bytes) = three b x y (take k bytes) bytes

-- ---- The first of them

-- where neither is there
or_none : (a b : Option ℕ) → option_or a b ≡ None → (a ≡ None) × (b ≡ None)
or_none None b is = (refl, is)
or_none (Some n) b is = absurd (cc)

-- a place counted from one byte before
map_suc : (k : ℕ) (a : Option ℕ) → option_map (λ (n : ℕ). suc n) (option_map (λ (n : ℕ). k + n) a) ≡ option_map (λ (n : ℕ). suc k + n) a
map_suc k None = refl
map_suc k (Some n) = ap (λ (m : ℕ). Some m) (omega arith)

-- where none begins at the front, the first is looked for behind it
end_behind : (b : ℕ) (bytes : List ℕ) → empty_line (b ∷ bytes) ≡ None → end_of (b ∷ bytes) ≡ option_map (λ (n : ℕ). suc n) (end_of bytes)
end_behind b bytes none = ap (λ (a : Option ℕ). option_or a (option_map (λ (n : ℕ). suc n) (end_of bytes))) none

-- where one begins at the front, it is the first
end_here : (b n : ℕ) (bytes : List ℕ) → empty_line (b ∷ bytes) ≡ Some n → end_of (b ∷ bytes) ≡ Some n
end_here b n bytes is = ap (λ (a : Option ℕ). option_or a (option_map (λ (n : ℕ). suc n) (end_of bytes))) is

-- where none ends within so many bytes and two, the first is looked for behind them
pub end_skip : (k : ℕ) (bytes : List ℕ) → end_of (take (suc (suc k)) bytes) ≡ None
    → end_of bytes ≡ option_map (λ (n : ℕ). k + n) (end_of (drop k bytes))
end_skip zero bytes none = place-from_front (end_of bytes)
end_skip (suc k) [] none = refl
end_skip (suc k) (b ∷ bytes) none =
    let both = or_none (empty_line (b ∷ take (suc (suc k)) bytes)) _ none in
    let rest : end_of (take (suc (suc k)) bytes) ≡ None = option_map-none (λ (n : ℕ). suc n) _ both.1 in
    end_behind b bytes (sym (line_front k b bytes) ∙ both.0)
    ∙ ap (λ (a : Option ℕ). option_map (λ (n : ℕ). suc n) a) (end_skip k bytes rest)
    ∙ map_suc k (end_of (drop k bytes))

-- one byte has no end
lone_end : (b : ℕ) → end_of (b ∷ []) ≡ None
lone_end b = end_behind b [] (lone b)

-- an end that is there stays, whatever follows
pub end_append : (bytes more : List ℕ) (n : ℕ) → end_of bytes ≡ Some n → end_of (bytes ++ more) ≡ Some n
end_append [] more n is = absurd (cc)
end_append (b ∷ []) more n is = let none = lone_end b in absurd (cc)
end_append (b ∷ x ∷ []) more n is =
    elim (empty_line (b ∷ x ∷ [])) as (λ (a : Option ℕ). empty_line (b ∷ x ∷ []) ≡ a → end_of (b ∷ x ∷ more) ≡ Some n) [
      | None ↦ λ none.
          let behind = end_behind b (x ∷ []) none in
          let alone = ap (λ (a : Option ℕ). option_map (λ (n : ℕ). suc n) a) (lone_end x) in
          absurd (cc)
      | Some m ↦ λ some.
          let here = end_here b m (x ∷ []) some in
          let stays = end_here b m (x ∷ more) (two b x m more some).0 in
          cc
    ] refl
end_append (b ∷ x ∷ y ∷ bytes) more n is =
    elim (empty_line (b ∷ x ∷ y ∷ bytes)) as
    (λ (a : Option ℕ). empty_line (b ∷ x ∷ y ∷ bytes) ≡ a → end_of (b ∷ x ∷ y ∷ (bytes ++ more)) ≡ Some n) [
      | None ↦ λ none.
          let behind = end_behind b (x ∷ y ∷ bytes) none in
          let stays = end_behind b (x ∷ y ∷ (bytes ++ more)) (three b x y (bytes ++ more) bytes ∙ none) in
          stays ∙ behind_append (end_of (x ∷ y ∷ bytes)) (end_of (x ∷ y ∷ (bytes ++ more))) n
          (λ m is. end_append (x ∷ y ∷ bytes) more m is) (sym behind ∙ is)
      | Some m ↦ λ some.
          let here = end_here b m (x ∷ y ∷ bytes) some in
          let stays = end_here b m (x ∷ y ∷ (bytes ++ more)) (three b x y (bytes ++ more) bytes ∙ some) in
          cc
    ] refl
  where
    behind_append : (a c : Option ℕ) (n : ℕ) → ((m : ℕ) → a ≡ Some m → c ≡ Some m)
        → option_map (λ (n : ℕ). suc n) a ≡ Some n → option_map (λ (n : ℕ). suc n) c ≡ Some n
    behind_append None c n stays is = absurd (cc)
    behind_append (Some m) c n stays is = ap (λ (o : Option ℕ). option_map (λ (n : ℕ). suc n) o) (stays m refl) ∙ is

-- an end is within the bytes
pub end_fits : (bytes : List ℕ) (n : ℕ) → end_of bytes ≡ Some n → n ≤ length bytes
end_fits [] n is = absurd (cc)
end_fits (b ∷ bytes) n is =
    elim (empty_line (b ∷ bytes)) as (λ (a : Option ℕ). empty_line (b ∷ bytes) ≡ a → n ≤ suc (length bytes)) [
      | None ↦ λ none.
          behind_fits (end_of bytes) (length bytes) n (λ m is. end_fits bytes m is) (sym (end_behind b bytes none) ∙ is)
      | Some m ↦ λ some.
          let here = end_here b m bytes some in
          let same : m ≡ n = cc in
          let fits = empty_line-fits (b ∷ bytes) m some in
          omega arith
    ] refl
  where
    behind_fits : (a : Option ℕ) (long n : ℕ) → ((m : ℕ) → a ≡ Some m → m ≤ long)
        → option_map (λ (n : ℕ). suc n) a ≡ Some n → n ≤ suc long
    behind_fits None long n fits is = absurd (cc)
    behind_fits (Some m) long n fits is =
        let same : suc m ≡ n = cc in
        let below = fits m refl in
        omega arith

-- what ends within a front ends there
pub end_front : (m n : ℕ) (bytes : List ℕ) → end_of (take m bytes) ≡ Some n → end_of bytes ≡ Some n
end_front m n bytes is =
    ap (λ (l : List ℕ). end_of l) (sym (take-append-drop m bytes)) ∙ end_append (take m bytes) (drop m bytes) n is

-- where nothing ends, nothing ends within a front
pub end_none : (m : ℕ) (bytes : List ℕ) → end_of bytes ≡ None → end_of (take m bytes) ≡ None
end_none m bytes none =
    elim (end_of (take m bytes)) as (λ (a : Option ℕ). end_of (take m bytes) ≡ a → a ≡ None) [
      | None ↦ λ is. refl
      | Some n ↦ λ is. let there = end_front m n bytes is in absurd (cc)
    ] refl

-- ---- As the code looks for it

-- the first empty line of the bytes ends where the first ends that begins here or later
pub record LooksOn (bytes : List ℕ) (at : ℕ) : Type 0 where
  pub same : end_of bytes ≡ option_map (λ (n : ℕ). at + n) (end_of (drop at bytes))

-- at the front all is to be looked at
pub LooksOn-init : (bytes : List ℕ) → LooksOn bytes 0
LooksOn-init bytes = record { same = place-from_front (end_of bytes) }

-- where an empty line begins here, it is the first
pub LooksOn-found : (bytes : List ℕ) (at n : ℕ) → at < length bytes → LooksOn bytes at → empty_line (drop at bytes) ≡ Some n
    → end_of bytes ≡ Some (at + n)
LooksOn-found bytes at n inside looks is =
    let cut : drop at bytes ≡ get_or bytes at 0 ∷ drop (suc at) bytes = drop-cons bytes at 0 inside in
    let here = end_here (get_or bytes at 0) n (drop (suc at) bytes) (ap (λ (l : List ℕ). empty_line l) (sym cut) ∙ is) in
    looks.same ∙ ap (λ (l : List ℕ). option_map (λ (n : ℕ). at + n) (end_of l)) cut
    ∙ ap (λ (a : Option ℕ). option_map (λ (n : ℕ). at + n) a) here

-- where none begins here, the next place is looked at
pub LooksOn-more : (bytes : List ℕ) (at : ℕ) → at < length bytes → LooksOn bytes at → empty_line (drop at bytes) ≡ None
    → LooksOn bytes (at + 1)
LooksOn-more bytes at inside looks none =
    let cut : drop at bytes ≡ get_or bytes at 0 ∷ drop (suc at) bytes = drop-cons bytes at 0 inside in
    let behind = end_behind (get_or bytes at 0) (drop (suc at) bytes) (ap (λ (l : List ℕ). empty_line l) (sym cut) ∙ none) in
    let next : end_of bytes ≡ option_map (λ (n : ℕ). suc at + n) (end_of (drop (suc at) bytes)) =
    looks.same ∙ ap (λ (l : List ℕ). option_map (λ (n : ℕ). at + n) (end_of l)) cut
    ∙ ap (λ (a : Option ℕ). option_map (λ (n : ℕ). at + n) a) behind
    ∙ place-from_next at (end_of (drop (suc at) bytes)) in
    record { same = subst (λ (k : ℕ). end_of bytes ≡ option_map (λ (n : ℕ). k + n) (end_of (drop k bytes))) (sym (add-one at)) next }

-- at the end there was none
pub LooksOn-done : (bytes : List ℕ) (at : ℕ) → length bytes ≤ at → LooksOn bytes at → end_of bytes ≡ None
LooksOn-done bytes at past looks =
    looks.same ∙ ap (λ (l : List ℕ). option_map (λ (n : ℕ). at + n) (end_of l)) (drop_all at bytes past)

-- where none ends within the first bytes, the first is looked for from two bytes before them on
looked_from : (bytes : List ℕ) (from start : ℕ) → start ≡ from - 2 → end_of (take from bytes) ≡ None
    → end_of bytes ≡ option_map (λ (n : ℕ). start + n) (end_of (drop start bytes))
looked_from bytes zero start is none = let e : ◌≡◌ {A = ℕ} 0 start = omega arith in
    subst (λ (k : ℕ). end_of bytes ≡ option_map (λ (n : ℕ). k + n) (end_of (drop k bytes))) e (place-from_front (end_of bytes))
looked_from bytes (suc zero) start is none = let e : ◌≡◌ {A = ℕ} 0 start = omega arith in
    subst (λ (k : ℕ). end_of bytes ≡ option_map (λ (n : ℕ). k + n) (end_of (drop k bytes))) e (place-from_front (end_of bytes))
looked_from bytes (suc (suc k)) start is none =
    let e : k ≡ start = omega arith in
    subst (λ (k : ℕ). end_of bytes ≡ option_map (λ (n : ℕ). k + n) (end_of (drop k bytes))) e (end_skip k bytes none)

-- what is found from there on is the first
pub found_from : (bytes : List ℕ) (from start : ℕ) (found seen : Option ℕ) → start ≡ from - 2 → end_of (take from bytes) ≡ None
    → found ≡ end_of (take (length bytes - start) (drop start bytes)) → found ≡ seen
    → end_of bytes ≡ option_map (λ (n : ℕ). start + n) seen
found_from bytes from start found seen start_is none found_is is =
    looked_from bytes from start start_is none
    ∙ ap (λ (l : List ℕ). option_map (λ (n : ℕ). start + n) (end_of l)) (sym (tail bytes start))
    ∙ ap (λ (a : Option ℕ). option_map (λ (n : ℕ). start + n) a) (sym found_is ∙ is)
