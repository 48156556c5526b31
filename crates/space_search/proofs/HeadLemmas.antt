-- The heads that numbers say.
use Rattle.std.proofs.Common.{◌≡◌, ℕ, zero, suc, ◌<◌, List, ◌∷◌, length, set, get_or, replicate, refl, ap, arith, sym, ◌∙◌}
use Rattle.std.proofs.lemmas.List.{get_or-map, length-map, map-set}
use Rattle.space_search.specs.Fronts.{head_of, heads_of}
use Rattle.space_search.specs.declared.fronts.Head.{Head}
use Rattle.space_search.specs.declared.fronts.Head.TheVariants.{Empty}

-- a slot of the heads is one of the numbers
pub code-within : (codes : List ℕ) (slot : ℕ) → slot < length (heads_of codes) → slot < length codes
code-within codes slot within = omega (arith, within, length-map codes head_of)

-- what a number says at its slot
pub head-said :
    (codes : List ℕ) (slot code : ℕ) (head : Head) → slot < length (heads_of codes) → code ≡ get_or codes slot code →
    head ≡ head_of code → head ≡ get_or (heads_of codes) slot head
head-said codes slot code head within reads is =
    is ∙ ap head_of reads ∙ sym (get_or-map head_of codes slot code head (code-within codes slot within))

-- a head is said at a slot
pub heads-set :
    (codes next : List ℕ) (slot code : ℕ) (head : Head) → next ≡ set codes slot code → head_of code ≡ head →
    heads_of next ≡ set (heads_of codes) slot head
heads-set codes next slot code head is says =
    ap heads_of is ∙ map-set head_of codes slot code ∙ ap (set (heads_of codes) slot) says

-- zeros say empty fronts
pub heads-zero : (count : ℕ) → heads_of (replicate count 0) ≡ replicate count Empty
heads-zero zero = refl
heads-zero (suc count) = ap (λ (l : List Head). Empty ∷ l) (heads-zero count)
