-- What pages come to as a list.
use Rattle.std.proofs.Common.{◌≡◌, ◌≢◌, ◌⊎◌, inl, inr, ℕ, zero, suc, ◌/◌, ◌%◌, ◌<◌, ◌≤◌, List, [], ◌∷◌, ◌++◌, length, get_or, replicate, set, Vec, refl, sym, ap, ◌∙◌, subst, arith}
use Rattle.std.proofs.lemmas.Bool.{cases_eq}
use Rattle.std.specs.declared.alloc.Global.{Global}
use Rattle.std.proofs.lemmas.List.{ext_get_or, get_or-map, length-map, map-set, get_or-set_same, get_or-set_other, get_or-replicate, get_or_past, length-set, length-replicate}
use Rattle.std.proofs.lemmas.List.FromFn.{get_or-map-range_with_len, length-map-range_with_len}
use Rattle.item_list.specs.Pages.{HasPages, Opens, listed, number_at, numbers_of, opened, page_at}

-- there are so many numbers
pub listed-length : {X : Type 0} → (pages : List (List X)) (rest : X) (count : ℕ) → length (listed pages rest count) ≡ count
unfolding listed
listed-length pages rest count = length-map-range_with_len (number_at pages rest) 0 count

-- each of them is that at its place
pub listed-at : {X : Type 0} → (pages : List (List X)) (rest : X) (count place : ℕ) (d : X) → place < count →
    get_or (listed pages rest count) place d ≡ number_at pages rest place
unfolding listed
listed-at pages rest count place d within =
    get_or-map-range_with_len (number_at pages rest) 0 count place place d within (omega arith)

-- numbers that are the same at each place are the same
pub listed-same : {X : Type 0} → (pages : List (List X)) (rest : X) (count : ℕ) (xs : List X) → length xs ≡ count →
    ((place : ℕ) → place < count → number_at pages rest place ≡ get_or xs place rest) → listed pages rest count ≡ xs
listed-same pages rest count xs counted same =
    ext_get_or rest (listed pages rest count) xs (listed-length pages rest count ∙ sym counted)
    (λ place within.
    let inner : place < count = omega (arith, listed-length pages rest count, within) in
    listed-at pages rest count place rest inner ∙ same place inner)

-- where no page was made, each is the rest
pub listed-none : {X : Type 0} → (pages : List (List X)) (rest : X) (count : ℕ) → ((page : ℕ) → page_at pages page ≡ []) →
    listed pages rest count ≡ replicate count rest
listed-none {X} pages rest count none =
    listed-same pages rest count (replicate count rest) (length-replicate count rest)
    (λ place within.
    ap (λ (xs : List X). get_or xs (place % 1024) rest) (none (place / 1024))
    ∙ get_or_past [] (place % 1024) rest (omega arith)
    ∙ sym (get_or-replicate count place rest rest within))

-- a page that is made reads as before
pub opened-at : {X : Type 0} → (rest : X) (xs : List X) (k : ℕ) → k < 1024 → get_or (opened rest xs) k rest ≡ get_or xs k rest
opened-at {X} rest [] k within = get_or-replicate 1024 k rest rest within ∙ sym (get_or_past [] k rest (omega arith))
opened-at {X} rest (x ∷ xs) k within = refl

-- and is whole
pub opened-whole : {X : Type 0} → (rest : X) (xs : List X) → (length xs ≡ 0) ⊎ (length xs ≡ 1024) → length (opened rest xs) ≡ 1024
opened-whole {X} rest [] is = length-replicate 1024 rest
opened-whole {X} rest (x ∷ xs) (inl none) = absurd (omega (arith, none))
opened-whole {X} rest (x ∷ xs) (inr whole) = whole

-- a number is set: its page was made, and in it its place was set
pub record Sets {X : Type 0} (rest : X) (place : ℕ) (number : X) (mid new : List (List X)) : Type 0 where
  pub counted : length new ≡ length mid
  pub here : page_at new (place / 1024) ≡ set (page_at mid (place / 1024)) (place % 1024) number
  pub others : (other : ℕ) → other ≢ place / 1024 → page_at new other ≡ page_at mid other

module _ {X : Type 0} (rest : X) (count place : ℕ) (number : X) (old mid new : List (List X)) (is : HasPages old count) (within : place < count)
    (opens : Opens rest (place / 1024) old mid) (sets : Sets rest place number mid new) where
  -- the page before its place was set
  abbrev before : List X
  before = page_at mid (place / 1024)

  -- it is whole
  before-whole : length before ≡ 1024
  before-whole = ap length opens.here ∙ opened-whole rest (page_at old (place / 1024)) (is.whole (place / 1024) (is.enough place within))

  -- the place is in it
  place-in : place % 1024 < length before
  place-in = omega (arith, before-whole)

  -- a number is the one that was set, or what it was
  set-at : (other : ℕ) → other < count → number_at new rest other ≡ get_or (set (listed old rest count) place number) other rest
  set-at other other_in =
      elim (cases_eq other place) [
        | inl same ↦
            let inner : place < length (listed old rest count) = omega (arith, listed-length old rest count, within) in
            let there : number_at new rest place ≡ number =
            ap (λ (xs : List X). get_or xs (place % 1024) rest) sets.here
            ∙ get_or-set_same before (place % 1024) number rest place-in in
            rw same (there ∙ sym (get_or-set_same (listed old rest count) place number rest inner))
        | inr apart ↦
            let kept : get_or (set (listed old rest count) place number) other rest ≡ number_at old rest other =
            get_or-set_other (listed old rest count) place other number rest apart
            ∙ listed-at old rest count other rest other_in in
            elim (cases_eq (other / 1024) (place / 1024)) [
              | inl one ↦
                  let elsewhere : other % 1024 ≢ place % 1024 = λ e. apart (omega (arith, e, one)) in
                  let read : number_at new rest other ≡ get_or (opened rest (page_at old (place / 1024))) (other % 1024) rest =
                  ap (λ p. get_or (page_at new p) (other % 1024) rest) one
                  ∙ ap (λ (xs : List X). get_or xs (other % 1024) rest) sets.here
                  ∙ get_or-set_other before (place % 1024) (other % 1024) number rest elsewhere
                  ∙ ap (λ (xs : List X). get_or xs (other % 1024) rest) opens.here in
                  read ∙ opened-at rest (page_at old (place / 1024)) (other % 1024) (omega arith)
                  ∙ ap (λ p. get_or (page_at old p) (other % 1024) rest) (sym one) ∙ sym kept
              | inr off ↦
                  ap (λ (xs : List X). get_or xs (other % 1024) rest) (sets.others (other / 1024) off ∙ opens.others (other / 1024) off)
                  ∙ sym kept
            ]
      ]

  -- so the numbers are those of before with one set
  pub set-listed : listed new rest count ≡ set (listed old rest count) place number
  set-listed =
      listed-same new rest count (set (listed old rest count) place number)
      (length-set (listed old rest count) place number ∙ listed-length old rest count) set-at

  -- and the pages stay whole
  pub set-pages : HasPages new count
  set-pages = record {
    enough = λ k k_in. omega (arith, is.enough k k_in, sets.counted, opens.counted);
    whole = λ page page_in.
        elim (cases_eq page (place / 1024)) [
          | inl here ↦
              inr (ap (λ p. length (page_at new p)) here ∙ ap length sets.here
              ∙ length-set before (place % 1024) number ∙ before-whole)
          | inr other ↦
              let same : page_at new page ≡ page_at old page = sets.others page other ∙ opens.others page other in
              subst (λ (xs : List X). (length xs ≡ 0) ⊎ (length xs ≡ 1024)) (sym same)
              (is.whole page (omega (arith, page_in, sets.counted, opens.counted)))
        ];
  }

-- ---- Pages as they are kept

-- a page as it is read
pub page-read : {X : Type 0} → (pages : List (Vec X Global)) (page : ℕ) (v : Vec X Global) → page < length pages → v ≡ get_or pages page v →
    page_at (numbers_of pages) page ≡ v.items
page-read {X} pages page v within read =
    get_or-map (λ (p : Vec X Global). p.items) pages page v [] within ∙ ap (λ (p : Vec X Global). p.items) (sym read)

-- a page that is put in the place of another
put-same : {X : Type 0} → (pages : List (Vec X Global)) (page : ℕ) (w : Vec X Global) → page < length pages →
    page_at (numbers_of (set pages page w)) page ≡ w.items
put-same {X} pages page w within =
    ap (λ xs. page_at xs page) (map-set (λ (p : Vec X Global). p.items) pages page w)
    ∙ get_or-set_same (numbers_of pages) page w.items [] (rw length-map within)

put-other : {X : Type 0} → (pages : List (Vec X Global)) (page other : ℕ) (w : Vec X Global) → other ≢ page →
    page_at (numbers_of (set pages page w)) other ≡ page_at (numbers_of pages) other
put-other {X} pages page other w apart =
    ap (λ xs. page_at xs other) (map-set (λ (p : Vec X Global). p.items) pages page w)
    ∙ get_or-set_other (numbers_of pages) page other w.items [] apart

put-length : {X : Type 0} → (pages : List (Vec X Global)) (page : ℕ) (w : Vec X Global) →
    length (numbers_of (set pages page w)) ≡ length (numbers_of pages)
put-length {X} pages page w =
    ap length (map-set (λ (p : Vec X Global). p.items) pages page w) ∙ length-set (numbers_of pages) page w.items

-- nothing is in a list without length
none-in : {X : Type 0} → (xs : List X) → length xs ≡ 0 → xs ≡ []
none-in [] is = refl
none-in (x ∷ xs) is = absurd (omega (arith, is))

-- a page without numbers
pub page-empty : {X : Type 0} → (pages : List (Vec X Global)) (page : ℕ) (v : Vec X Global) → page < length pages → v ≡ get_or pages page v →
    length v.items ≡ 0 → page_at (numbers_of pages) page ≡ []
page-empty {X} pages page v within read none = page-read pages page v within read ∙ none-in v.items none

-- a page is made where it wasn't
pub opens-one :
    {X : Type 0} → (rest : X) (page : ℕ) (pages : List (Vec X Global)) (w : Vec X Global) → page < length pages →
    page_at (numbers_of pages) page ≡ [] → w.items ≡ replicate 1024 rest →
    Opens rest page (numbers_of pages) (numbers_of (set pages page w))
opens-one {X} rest page pages w within none fresh = record {
  counted = put-length pages page w;
  here = put-same pages page w within ∙ fresh ∙ sym (ap (opened rest) none);
  others = λ other apart. put-other pages page other w apart;
}

-- a number is set in a page
pub sets-one :
    {X : Type 0} → (rest : X) (place : ℕ) (number : X) (pages : List (Vec X Global)) (v w : Vec X Global) → place / 1024 < length pages →
    v ≡ get_or pages (place / 1024) v → w.items ≡ set v.items (place % 1024) number →
    Sets rest place number (numbers_of pages) (numbers_of (set pages (place / 1024) w))
sets-one {X} rest place number pages v w within read is = record {
  counted = put-length pages (place / 1024) w;
  here = put-same pages (place / 1024) w within ∙ is
      ∙ ap (λ xs. set xs (place % 1024) number) (sym (page-read pages (place / 1024) v within read));
  others = λ other apart. put-other pages (place / 1024) other w apart;
}

-- where no page was made none is with one more that isn't
pub none-pushed :
    {X : Type 0} → (pages : List (Vec X Global)) (w : Vec X Global) → w.items ≡ [] → ((page : ℕ) → page_at (numbers_of pages) page ≡ []) →
    (page : ℕ) → page_at (numbers_of (pages ++ w ∷ [])) page ≡ []
none-pushed {X} [] w is none zero = is
none-pushed {X} [] w is none (suc page) = get_or_past [] page [] (omega arith)
none-pushed {X} (p ∷ pages) w is none zero = none 0
none-pushed {X} (p ∷ pages) w is none (suc page) = none-pushed pages w is (λ k. none (suc k)) page

-- ---- Reading

-- what is there doesn't hang on what is read where nothing is
get_or-there : {X : Type 0} → (xs : List X) (k : ℕ) (a b : X) → k < length xs → get_or xs k a ≡ get_or xs k b
get_or-there [] k a b within = absurd (omega (arith, within))
get_or-there (x ∷ xs) zero a b within = refl
get_or-there (x ∷ xs) (suc k) a b within = get_or-there xs k a b (omega (arith, within))

-- the number that is read from its page
pub read-there :
    {X : Type 0} → (rest : X) (count place : ℕ) (pages : List (Vec X Global)) (v : Vec X Global) (number : X) → place < count →
    place / 1024 < length pages → v ≡ get_or pages (place / 1024) v → place % 1024 < length v.items →
    number ≡ get_or v.items (place % 1024) number → number ≡ get_or (listed (numbers_of pages) rest count) place number
read-there {X} rest count place pages v number within page_in read in_page is =
    is ∙ get_or-there v.items (place % 1024) number rest in_page
    ∙ ap (λ (xs : List X). get_or xs (place % 1024) rest) (sym (page-read pages (place / 1024) v page_in read))
    ∙ sym (listed-at (numbers_of pages) rest count place number within)

-- and where its page wasn't made
pub read-rest :
    {X : Type 0} → (rest : X) (count place : ℕ) (pages : List (Vec X Global)) (v : Vec X Global) → place < count →
    place / 1024 < length pages → v ≡ get_or pages (place / 1024) v → length v.items ≤ place % 1024 →
    rest ≡ get_or (listed (numbers_of pages) rest count) place rest
read-rest {X} rest count place pages v within page_in read beyond =
    sym (listed-at (numbers_of pages) rest count place rest within
    ∙ ap (λ (xs : List X). get_or xs (place % 1024) rest) (page-read pages (place / 1024) v page_in read)
    ∙ get_or_past v.items (place % 1024) rest beyond)

-- a place is in the list, and its page is there
pub place-within : {X : Type 0} → (rest : X) (count place : ℕ) (pages : List (Vec X Global)) (xs : List X) →
    listed (numbers_of pages) rest count ≡ xs → place < length xs → place < count
place-within {X} rest count place pages xs is within =
    omega (arith, ap length is, listed-length (numbers_of pages) rest count, within)

pub page-within : {X : Type 0} → (count place : ℕ) (pages : List (Vec X Global)) → HasPages (numbers_of pages) count → place < count →
    place / 1024 < length pages
page-within {X} count place pages is within =
    omega (arith, is.enough place within, length-map pages (λ (p : Vec X Global). p.items))

pub opened-within : {X : Type 0} → (rest : X) (count place : ℕ) (old new : List (Vec X Global)) → HasPages (numbers_of old) count → place < count →
    Opens rest (place / 1024) (numbers_of old) (numbers_of new) → place / 1024 < length new
opened-within {X} rest count place old new is within opens =
    omega (
      arith,
      is.enough place within,
      opens.counted,
      length-map new (λ (p : Vec X Global). p.items),
    )

-- no numbers
pub listed-empty : {X : Type 0} → (pages : List (List X)) (rest : X) → listed pages rest 0 ≡ []
unfolding listed
listed-empty pages rest = refl
