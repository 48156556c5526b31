-- What the two heaps of a queue come to as one list.
use Rattle.std.proofs.Common.{◌≡◌, ℕ, zero, suc, ◌+◌, ◌*◌, ◌/◌, ◌%◌, ◌<◌, ◌≤◌, ◌^◌, ◌↔◌, inl, inr, List, [], ◌∷◌, ◌++◌, length, map, get_or, Option, Some, None, option_map, true, false, refl, arith, sym, ◌∙◌, ap, subst}
use Rattle.std.proofs.Math.Nat.{div-mul-le_self}
use Rattle.std.proofs.lemmas.Bool.{cond-true, cond-false, cond_both, true≢false, false≢true}
use Rattle.std.proofs.lemmas.Bool.Decides.{nat_tests}
use Rattle.std.proofs.lemmas.List.Elements.{Contains-append_cases}
use Rattle.std.proofs.lemmas.List.Sorted.{IsPermutation-append_comm, IsPermutation-cons, IsPermutation-refl, IsPermutation-sym, IsPermutation-map, IsPermutation-trans, IsPermutation-middle, IsPermutation-append_left, IsPermutation-append_right}
use Rattle.std.proofs.lemmas.Nat.{div-mul-add, mod-mul-add, le-div}
use Rattle.std.proofs.lemmas.Option.{slice_get-map, slice_get_read, slice_get_within, get_or_from_slice_get}
use Rattle.std.specs.BinaryHeap.{IsHeap}
use Rattle.std.specs.List.{slice_get, Contains}
use Rattle.std.specs.List.Sorted.{IsPermutation}
use Rattle.std.specs.Option.{IfSome, IsSome}
use Rattle.std.specs.Ordering.{nat_cmp, ordering_then, is_lt}
use Rattle.std.specs.declared.cmp.Ordering.{Ordering}
use Rattle.space_search.specs.Queues.{Entry, Packed, unpacked, entry_cmp, packed_cmp, narrow_first, waiting, IsQueue, IsFront}
use Rattle.item_list.proofs.ListLemmas.{Contains-cons_cases, Contains-first, Contains-none, Contains-rest, slice_get-append, slice_get-same, slice_get-there}

-- what isn't less by its first number has a first number that isn't less
not_less : (a b : ℕ) (rest : Ordering) → is_lt (ordering_then (nat_cmp a b) rest) ≡ false → b ≤ a
not_less a b rest h = grind (arith, nat_tests)

-- and what is less by its first number first has a first number that isn't greater
less : (a b : ℕ) (rest : Ordering) → is_lt (ordering_then (nat_cmp a b) rest) ≡ true → a ≤ b
less a b rest h = grind (arith, nat_tests)

-- a number that isn't less than another has no fewer whole 2^24 in it
no-fewer : (a b : ℕ) → is_lt (nat_cmp b a) ≡ false → a / 2 ^ 24 ≤ b / 2 ^ 24
no-fewer a b h =
    let ordered : a ≤ b = grind (arith, nat_tests) in
    le-div (a / 2 ^ 24) b (2 ^ 24) (omega arith) (omega (arith, div-mul-le_self a (2 ^ 24)))

-- what was packed is unpacked
pub unpacked-packed :
    (rank number : ℕ) → number < 2 ^ 24 →
    unpacked (record { 0 = rank * 2 ^ 24 + number }) ≡ record { 0 = (rank, number) }
unpacked-packed rank number below =
    rw (div-mul-add rank (2 ^ 24) number below, mod-mul-add rank (2 ^ 24) number below) refl

-- the first of a packed list stands for the first of what it stands for
first-unpacked : (xs : List Packed) (x : Packed) → slice_get xs 0 ≡ Some x → slice_get (map unpacked xs) 0 ≡ Some (unpacked x)
first-unpacked xs x there = slice_get-map unpacked xs 0 ∙ ap (option_map unpacked) there

-- what a packed list stands for is what one in it stands for
packed-there :
    (xs : List Packed) (y : Entry) → Contains (map unpacked xs) y → (x : Packed) × Contains xs x × (unpacked x ≡ y)
packed-there [] y h = absurd (Contains-none y h)
packed-there (z ∷ zs) y h =
    elim (Contains-cons_cases (unpacked z) (map unpacked zs) y h) [
      | inl same ↦ (z, Contains-first z zs, same)
      | inr later ↦
          let it = packed-there zs y later in
          (it.0, Contains-rest z zs it.0 it.1, it.2)
    ]

-- a list that has something has a first
first-there : {X : Type 0} (xs : List X) (x : X) → Contains xs x → (first : X) × (slice_get xs 0 ≡ Some first)
first-there xs x h = slice_get-there xs 0 (omega (arith, h.1))

module _ {X : Type 0} (R : X → X → Ordering) (rank_of : X → ℕ) (ranks : (a b : X) → is_lt (R a b) ≡ false → rank_of a ≤ rank_of b) (xs : List X) (heap : IsHeap R xs) where
  -- in a heap by rank the first has no greater rank than any at a place up to this one
  first-up_to : (upto place : ℕ) (x : X) → place ≤ upto → place < length xs → rank_of (get_or xs 0 x) ≤ rank_of (get_or xs place x)
  unfolding IsHeap
  first-up_to upto zero x h below = omega arith
  first-up_to zero (suc place) x h below = absurd (omega (arith, h))
  first-up_to (suc upto) (suc place) x h below =
      let above = first-up_to upto (place / 2) x (omega (arith, h)) (omega (arith, below)) in
      let step = ranks _ _ (heap (place / 2) (suc place) x (omega arith) (omega arith) (omega arith) below) in
      omega (arith, above, step)

  -- nothing in a heap by rank ranks below the first
  first-least : (first x : X) → slice_get xs 0 ≡ Some first → Contains xs x → rank_of first ≤ rank_of x
  first-least first x there h =
      subst (λ y. rank_of y ≤ rank_of x) (get_or_from_slice_get xs 0 first x there)
      (subst (λ y. rank_of (get_or xs 0 x) ≤ rank_of y) h.2 (first-up_to h.0 h.0 x (omega arith) h.1))

-- where the narrow heap is read first, its first ranks no higher than the first of the others
narrow-before :
    (narrow : List Packed) (wide : List Entry) (packed : Packed) (entry : Entry) → narrow_first narrow wide ≡ true →
    slice_get narrow 0 ≡ Some packed → slice_get wide 0 ≡ Some entry → packed.0 / 2 ^ 24 ≤ entry.0.0
narrow-before [] wide packed entry test n w = absurd (omega (arith, slice_get_within [] 0 packed n))
narrow-before (x ∷ xs) [] packed entry test n w = absurd (omega (arith, slice_get_within [] 0 entry w))
narrow-before (x ∷ xs) (y ∷ ys) packed entry test n w =
    let first : x ≡ packed = get_or_from_slice_get (x ∷ xs) 0 packed packed n in
    let other : y ≡ entry = get_or_from_slice_get (y ∷ ys) 0 entry entry w in
    subst (λ (k : Packed). k.0 / 2 ^ 24 ≤ entry.0.0) first
    (subst (λ (e : Entry). x.0 / 2 ^ 24 ≤ e.0.0) other (less _ _ _ test))

-- and where the other is, its first ranks no higher than the first narrow one
wide-before :
    (narrow : List Packed) (wide : List Entry) (packed : Packed) (entry : Entry) → narrow_first narrow wide ≡ false →
    slice_get narrow 0 ≡ Some packed → slice_get wide 0 ≡ Some entry → entry.0.0 ≤ packed.0 / 2 ^ 24
wide-before [] wide packed entry test n w = absurd (omega (arith, slice_get_within [] 0 packed n))
wide-before (x ∷ xs) [] packed entry test n w = absurd (omega (arith, slice_get_within [] 0 entry w))
wide-before (x ∷ xs) (y ∷ ys) packed entry test n w =
    let first : x ≡ packed = get_or_from_slice_get (x ∷ xs) 0 packed packed n in
    let other : y ≡ entry = get_or_from_slice_get (y ∷ ys) 0 entry entry w in
    subst (λ (k : Packed). entry.0.0 ≤ k.0 / 2 ^ 24) first
    (subst (λ (e : Entry). e.0.0 ≤ x.0 / 2 ^ 24) other (not_less _ _ _ test))

module _ (narrow : List Packed) (wide : List Entry) (is : IsQueue narrow wide) where
  -- no narrow entry ranks below the first of them
  narrow-least : (first : Packed) → slice_get narrow 0 ≡ Some first → (e : Entry) → Contains (map unpacked narrow) e → first.0 / 2 ^ 24 ≤ e.0.0
  narrow-least first there e h =
      let it = packed-there narrow e h in
      subst (λ (k : Entry). first.0 / 2 ^ 24 ≤ k.0.0) it.2
      (first-least packed_cmp (λ (k : Packed). k.0 / 2 ^ 24) (λ a b test. no-fewer a.0 b.0 test) narrow is.narrow_order first it.0 there it.1)

  -- and no other one below the first of the others
  wide-least : (first : Entry) → slice_get wide 0 ≡ Some first → (e : Entry) → Contains wide e → first.0.0 ≤ e.0.0
  wide-least first there e h =
      first-least entry_cmp (λ (k : Entry). k.0.0) (λ a b test. not_less _ _ _ test) wide is.wide_order first e there h

  -- where the narrow heap is read first, its front is the front of the queue
  pub front-narrow :
      narrow_first narrow wide ≡ true → (packed : Packed) → 0 < length narrow → packed ≡ get_or narrow 0 packed →
      IsFront (waiting narrow wide) (packed.0 % 2 ^ 24)
  front-narrow test packed some at =
      let top = slice_get_read narrow (length narrow) 0 packed refl some at in
      subst (λ q. IsFront q (packed.0 % 2 ^ 24)) (sym (cond-true (narrow_first narrow wide) (map unpacked narrow ++ wide) (wide ++ map unpacked narrow) test))
      (record {
        rank = packed.0 / 2 ^ 24;
        first = slice_get-append (map unpacked narrow) wide 0 (unpacked packed) (first-unpacked narrow packed top);
        least = λ e h.
            elim (Contains-append_cases (map unpacked narrow) wide e h) [
              | inl there ↦ narrow-least packed top e there
              | inr there ↦
                  let other = first-there wide e there in
                  omega (
                    arith,
                    narrow-before narrow wide packed other.0 test top other.1,
                    wide-least other.0 other.1 e there,
                  )
            ];
      })

  -- and where the other is, that one's
  pub front-wide :
      narrow_first narrow wide ≡ false → (entry : Entry) → 0 < length wide → entry ≡ get_or wide 0 entry →
      IsFront (waiting narrow wide) entry.0.1
  front-wide test entry some at =
      let top = slice_get_read wide (length wide) 0 entry refl some at in
      subst (λ q. IsFront q entry.0.1) (sym (cond-false (narrow_first narrow wide) (map unpacked narrow ++ wide) (wide ++ map unpacked narrow) test))
      (record {
        rank = entry.0.0;
        first = slice_get-append wide (map unpacked narrow) 0 entry top;
        least = λ e h.
            elim (Contains-append_cases wide (map unpacked narrow) e h) [
              | inl there ↦ wide-least entry top e there
              | inr there ↦
                  let it = packed-there narrow e there in
                  let other = first-there narrow it.0 it.1 in
                  omega (
                    arith,
                    wide-before narrow wide other.0 entry test other.1 top,
                    narrow-least other.0 other.1 e there,
                  )
            ];
      })

module _ {X : Type 0} where
  -- what a heap says of an entry that was taken from it
  pub record PopsHeap (all rest : List X) (taken : Option X) (before : ℕ) : Type 0 where
    pub top : IfSome taken (λ x. x ≡ get_or all 0 x)
    pub permutation : IfSome taken (λ x. IsPermutation all (x ∷ rest))
    pub variant : IsSome taken ↔ (0 < before)
    pub counted : before ≡ length all

  -- the front is what was taken
  taken-first :
      (all rest : List X) (taken : Option X) (before : ℕ) → PopsHeap all rest taken before →
      (top : X) → slice_get all 0 ≡ Some top → IsPermutation all (top ∷ rest)
  taken-first all rest None before pops top there =
      let none = pops.variant.1 (omega (arith, pops.counted, slice_get_within all 0 top there)) in cc
  taken-first all rest (Some x) before pops top there =
      let same : x ≡ top = pops.top ∙ get_or_from_slice_get all 0 top x there in
      subst (λ y. IsPermutation all (y ∷ rest)) same pops.permutation

-- what waits is what stands in both heaps
waiting-is : (narrow : List Packed) (wide : List Entry) → IsPermutation (map unpacked narrow ++ wide) (waiting narrow wide)
waiting-is narrow wide =
    cond_both (narrow_first narrow wide) (map unpacked narrow ++ wide) (wide ++ map unpacked narrow)
    (λ q. IsPermutation (map unpacked narrow ++ wide) q) (λ test. IsPermutation-refl (map unpacked narrow ++ wide))
    (λ test. IsPermutation-append_comm (map unpacked narrow) wide)

-- where the narrow heap is read first and something waits, it has an entry
narrow-some :
    (narrow : List Packed) (wide : List Entry) (top : Entry) → narrow_first narrow wide ≡ true →
    slice_get (map unpacked narrow ++ wide) 0 ≡ Some top → 0 < length narrow
narrow-some [] [] top test there = absurd (omega (arith, slice_get_within [] 0 top there))
narrow-some [] (y ∷ ys) top test there = absurd (false≢true test)
narrow-some (x ∷ xs) wide top test there = omega arith

-- and where the other is read first, that one has
wide-some : (narrow : List Packed) (wide : List Entry) → narrow_first narrow wide ≡ false → 0 < length wide
wide-some narrow [] test = absurd (true≢false test)
wide-some narrow (y ∷ ys) test = omega arith

-- where the narrow heap is read first, its front is taken from the queue
pub takes-narrow :
    (narrow rest : List Packed) (wide : List Entry) (taken : Option Packed) (before : ℕ) →
    PopsHeap narrow rest taken before → narrow_first narrow wide ≡ true →
    (top : Entry) → slice_get (waiting narrow wide) 0 ≡ Some top →
    IsPermutation (waiting narrow wide) (top ∷ waiting rest wide)
takes-narrow narrow rest wide taken before pops test top =
    subst (λ q. slice_get q 0 ≡ Some top → IsPermutation q (top ∷ waiting rest wide))
    (sym (cond-true (narrow_first narrow wide) (map unpacked narrow ++ wide) (wide ++ map unpacked narrow) test))
    (λ there.
    let front = slice_get-there narrow 0 (narrow-some narrow wide top test there) in
    let first = first-unpacked narrow front.0 front.1 in
    let same : unpacked front.0 ≡ top =
    slice_get-same (map unpacked narrow ++ wide) 0 (unpacked front.0) top
    (slice_get-append (map unpacked narrow) wide 0 (unpacked front.0) first) there in
    let pops_first =
    IsPermutation-map unpacked narrow (front.0 ∷ rest)
    (taken-first narrow rest taken before pops front.0 front.1) in
    IsPermutation-trans (map unpacked narrow ++ wide) (top ∷ (map unpacked rest ++ wide)) (top ∷ waiting rest wide)
    (IsPermutation-append_left wide (map unpacked narrow) (top ∷ map unpacked rest)
    (subst (λ e. IsPermutation (map unpacked narrow) (e ∷ map unpacked rest)) same pops_first))
    (IsPermutation-cons top (map unpacked rest ++ wide) (waiting rest wide) (waiting-is rest wide)))

-- and where the other is, that one's
pub takes-wide :
    (narrow : List Packed) (wide rest : List Entry) (taken : Option Entry) (before : ℕ) →
    PopsHeap wide rest taken before → narrow_first narrow wide ≡ false →
    (top : Entry) → slice_get (waiting narrow wide) 0 ≡ Some top →
    IsPermutation (waiting narrow wide) (top ∷ waiting narrow rest)
takes-wide narrow wide rest taken before pops test top =
    subst (λ q. slice_get q 0 ≡ Some top → IsPermutation q (top ∷ waiting narrow rest))
    (sym (cond-false (narrow_first narrow wide) (map unpacked narrow ++ wide) (wide ++ map unpacked narrow) test))
    (λ there.
    let front = slice_get-there wide 0 (wide-some narrow wide test) in
    let same : front.0 ≡ top =
    slice_get-same (wide ++ map unpacked narrow) 0 front.0 top
    (slice_get-append wide (map unpacked narrow) 0 front.0 front.1) there in
    let pops_first =
    subst (λ e. IsPermutation wide (e ∷ rest)) same
    (taken-first wide rest taken before pops front.0 front.1) in
    IsPermutation-trans (wide ++ map unpacked narrow) (top ∷ (rest ++ map unpacked narrow)) (top ∷ waiting narrow rest)
    (IsPermutation-append_left (map unpacked narrow) wide (top ∷ rest) pops_first)
    (IsPermutation-cons top (rest ++ map unpacked narrow) (waiting narrow rest)
    (IsPermutation-trans (rest ++ map unpacked narrow) (map unpacked narrow ++ rest) (waiting narrow rest)
    (IsPermutation-append_comm rest (map unpacked narrow)) (waiting-is narrow rest))))

-- what joins what stands in both heaps joins what waits
joins :
    (narrow more : List Packed) (wide others : List Entry) (entry : Entry) →
    IsPermutation (entry ∷ (map unpacked narrow ++ wide)) (map unpacked more ++ others) →
    IsPermutation (entry ∷ waiting narrow wide) (waiting more others)
joins narrow more wide others entry puts =
    IsPermutation-trans (entry ∷ waiting narrow wide) (entry ∷ (map unpacked narrow ++ wide)) (waiting more others)
    (IsPermutation-cons entry (waiting narrow wide) (map unpacked narrow ++ wide)
    (IsPermutation-sym (map unpacked narrow ++ wide) (waiting narrow wide) (waiting-is narrow wide)))
    (IsPermutation-trans (entry ∷ (map unpacked narrow ++ wide)) (map unpacked more ++ others) (waiting more others) puts
    (waiting-is more others))

-- what joins the narrow entries joins the queue
pub puts-narrow :
    (narrow more : List Packed) (wide : List Entry) (rank number : ℕ) → number < 2 ^ 24 →
    IsPermutation (record { 0 = rank * 2 ^ 24 + number } ∷ narrow) more →
    IsPermutation (record { 0 = (rank, number) } ∷ waiting narrow wide) (waiting more wide)
puts-narrow narrow more wide rank number below puts =
    joins narrow more wide wide (record { 0 = (rank, number) })
    (IsPermutation-append_left wide (record { 0 = (rank, number) } ∷ map unpacked narrow) (map unpacked more)
    (subst (λ e. IsPermutation (e ∷ map unpacked narrow) (map unpacked more)) (unpacked-packed rank number below)
    (IsPermutation-map unpacked (record { 0 = rank * 2 ^ 24 + number } ∷ narrow) more puts)))

-- and so does what joins the others
pub puts-wide :
    (narrow : List Packed) (wide more : List Entry) (entry : Entry) → IsPermutation (entry ∷ wide) more →
    IsPermutation (entry ∷ waiting narrow wide) (waiting narrow more)
puts-wide narrow wide more entry puts =
    let entries = map unpacked narrow in
    joins narrow narrow wide more entry
    (IsPermutation-trans (entry ∷ (entries ++ wide)) (entries ++ entry ∷ wide) (entries ++ more)
    (IsPermutation-sym (entries ++ entry ∷ wide) (entry ∷ (entries ++ wide)) (IsPermutation-middle entries entry wide))
    (IsPermutation-append_right entries (entry ∷ wide) more puts))
