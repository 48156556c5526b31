-- Numbers by place, in pages of 1024 that are made where something is set (this project's own rule).
use Rattle.std.specs.List.{range_with_len}
use Rattle.std.specs.Prelude.{◌≡◌, ◌≢◌, ◌⊎◌, ℕ, ◌/◌, ◌%◌, ◌<◌, List, [], ◌∷◌, length, get_or, map, replicate, Vec}
use Rattle.std.specs.declared.alloc.Global.{Global}

-- the numbers of each page, none of a page that wasn't made
abbrev pub numbers_of : {X : Type 0} → List (Vec X Global) → List (List X)
numbers_of {X} pages = map (λ (page : Vec X Global). page.items) pages

-- the numbers of a page
abbrev pub page_at : {X : Type 0} → List (List X) → ℕ → List X
page_at pages page = get_or pages page []

-- the number at a place
abbrev pub number_at : {X : Type 0} → List (List X) → X → ℕ → X
number_at pages rest place = get_or (page_at pages (place / 1024)) (place % 1024) rest

-- all numbers
unfoldable pub listed : {X : Type 0} → List (List X) → X → ℕ → List X
listed pages rest count = map (number_at pages rest) (range_with_len 0 count)

-- there is a page for each place, and each that was made is whole
pub record HasPages {X : Type 0} (pages : List (List X)) (count : ℕ) : Type 0 where
  pub enough : (place : ℕ) → place < count → place / 1024 < length pages
  pub whole : (page : ℕ) → page < length pages →
      (length (page_at pages page) ≡ 0) ⊎ (length (page_at pages page) ≡ 1024)

-- a page that is made
abbrev pub opened : {X : Type 0} → X → List X → List X
opened rest [] = replicate 1024 rest
opened rest (number ∷ numbers) = number ∷ numbers

-- a page was made where it wasn't
pub record Opens {X : Type 0} (rest : X) (page : ℕ) (old new : List (List X)) : Type 0 where
  pub counted : length new ≡ length old
  pub here : page_at new page ≡ opened rest (page_at old page)
  pub others : (other : ℕ) → other ≢ page → page_at new other ≡ page_at old other
