-- A node of four plain values.
use Rattle.std.proofs.Common.{◌≡◌, ℕ, ℤ, zero, List, [], ◌∷◌, length, Option, Some, None, Result, Ok, Err, sym, ap, subst, ◌∙◌, arith, inr}
use Rattle.std.specs.Prelude.{is_some, MatchResult}
use Rattle.item_list.specs.Answer.{Answers}
use Rattle.map_tables.specs.declared.error.MapError.TheVariants.{NoMemory}
use Rattle.map_elements.specs.Seen.{seen}
use Rattle.map_elements.specs.declared.elements.Element.{Element as Kind}
use mathlib.Core.Bool.{false≢true}
use lib.Chars.{codes}
use Rattle.json_text.specs.Marks.{Step}
use Rattle.map_tables.specs.declared.error.MapError.{MapError}
use Rattle.map_elements.specs.declared.front.Front.TheVariants as front_
use Rattle.map_elements.specs.Elements.{Element, element_by, element_of, need, node_at}
use Rattle.map_elements.specs.Entries.{Entry, entries_from, member, whole_entry}
use Rattle.map_elements.specs.Fields.{number_of, text_of, whole_number_of, with_some}
use Rattle.map_elements.specs.Front.{IsPlain, Fits, behind, told}
use Rattle.map_elements.proofs.FrontLemmas.{entries_lon, entries_plain}

-- a number is a plain step
number_plain : (step : Step) (text : List ℕ) → number_of (step ∷ []) ≡ Some text → IsPlain step
number_plain (Step.Number bytes) text is = record {}
number_plain (Step.Text bytes) text is = record {}
number_plain (Step.Opens bracket) text is = absurd (false≢true (ap is_some is))
number_plain (Step.Closes bracket) text is = absurd (false≢true (ap is_some is))
number_plain (Step.Key bytes) text is = absurd (false≢true (ap is_some is))
number_plain (Step.Word word) text is = absurd (false≢true (ap is_some is))

-- the first step is taken away as a part of its own
abbrev pub TakesOne : List Step → List Step → List Step → Type 0
TakesOne before one after = (step : Step) (steps : List Step) → before ≡ step ∷ steps → (one ≡ step ∷ []) × (after ≡ steps)

-- the four members
abbrev four : Step → Step → Step → Step → List Entry
four kind id lat lon =
    whole_entry (Some (codes "type")) (kind ∷ []) ∷ whole_entry (Some (codes "id")) (id ∷ [])
    ∷ whole_entry (Some (codes "lat")) (lat ∷ []) ∷ whole_entry (Some (codes "lon")) (lon ∷ []) ∷ []

-- they are a node where they have what it needs
node_is : (at : ℕ) (kind id lat lon : Step) (number : ℤ) (north east : List ℕ) → text_of (kind ∷ []) ≡ Some (codes "node")
    → whole_number_of (id ∷ []) ≡ Some number → number_of (lat ∷ []) ≡ Some north → number_of (lon ∷ []) ≡ Some east
    → need at (with_some (member (codes "type") (four kind id lat lon)) text_of) (λ type. element_by type at (four kind id lat lon))
    ≡ node_at number [] north east
node_is at kind id lat lon number north east kind_is id_is lat_is lon_is =
    ap (λ (o : Option (List ℕ)). need at o (λ type. element_by type at (four kind id lat lon))) kind_is
    ∙ ap (λ (o : Option ℤ). need at o (λ n. need at (number_of (lat ∷ [])) (λ a. need at (number_of (lon ∷ [])) (λ b. node_at n [] a b)))) id_is
    ∙ ap (λ (o : Option (List ℕ)). need at o (λ a. need at (number_of (lon ∷ [])) (λ b. node_at number [] a b))) lat_is
    ∙ ap (λ (o : Option (List ℕ)). need at o (λ b. node_at number [] north b)) lon_is

-- five steps of which the front tells four names, and of which the last closes, are such a node
pub short_is : (all l0 l1 l2 l3 l4 kind id lat lon : List Step) (number : ℤ) (north east : List ℕ)
    → length all ≡ 5 → Fits front_.Lon all → l0 ≡ all
    → TakesOne l0 kind l1 → TakesOne l1 id l2 → TakesOne l2 lat l3 → TakesOne l3 lon l4 → entries_from None [] zero l4 ≡ []
    → text_of kind ≡ Some (codes "node") → whole_number_of id ≡ Some number → number_of lat ≡ Some north → number_of lon ≡ Some east
    → (at : ℕ) → element_of at (told front_.Lon all) ≡ node_at number [] north east
short_is (k ∷ i ∷ a ∷ o ∷ c ∷ []) l0 l1 l2 l3 l4 kind id lat lon number north east size fits same t0 t1 t2 t3 ends kind_is id_is lat_is
    lon_is at =
    let (is_k, r1) = t0 k (i ∷ a ∷ o ∷ c ∷ []) same in
    let (is_i, r2) = t1 i (a ∷ o ∷ c ∷ []) r1 in
    let (is_a, r3) = t2 a (o ∷ c ∷ []) r2 in
    let (is_o, r4) = t3 o (c ∷ []) r3 in
    let o_is : number_of (o ∷ []) ≡ Some east = subst (λ (v : List Step). number_of v ≡ Some east) is_o lon_is in
    let entries : entries_from None [] zero (behind front_.Lon (k ∷ i ∷ a ∷ o ∷ c ∷ [])) ≡ four k i a o =
    entries_lon k i a (o ∷ c ∷ []) fits.0 fits.1.0 fits.1.1
    ∙ ap (λ (es : List Entry). whole_entry (Some (codes "type")) (k ∷ []) ∷ whole_entry (Some (codes "id")) (i ∷ [])
    ∷ whole_entry (Some (codes "lat")) (a ∷ []) ∷ es)
    (entries_plain (codes "lon") o (c ∷ []) (number_plain o east o_is)
    ∙ ap (λ (es : List Entry). whole_entry (Some (codes "lon")) (o ∷ []) ∷ es)
    (ap (λ (steps : List Step). entries_from None [] zero steps) (sym r4) ∙ ends)) in
    ap (λ (es : List Entry). need at (with_some (member (codes "type") es) text_of) (λ type. element_by type at es)) entries
    ∙ node_is at k i a o number north east
    (subst (λ (v : List Step). text_of v ≡ Some (codes "node")) is_k kind_is)
    (subst (λ (v : List Step). whole_number_of v ≡ Some number) is_i id_is)
    (subst (λ (v : List Step). number_of v ≡ Some north) is_a lat_is)
    o_is
short_is [] l0 l1 l2 l3 l4 kind id lat lon number north east size fits same t0 t1 t2 t3 ends kind_is id_is lat_is lon_is at = absurd (omega (arith, size))
short_is (k ∷ []) l0 l1 l2 l3 l4 kind id lat lon number north east size fits same t0 t1 t2 t3 ends kind_is
    id_is lat_is lon_is at = absurd (omega (arith, size))
short_is (k ∷ i ∷ []) l0 l1 l2 l3 l4 kind id lat lon number north east size fits same t0 t1 t2 t3 ends kind_is
    id_is lat_is lon_is at = absurd (omega (arith, size))
short_is (k ∷ i ∷ a ∷ []) l0 l1 l2 l3 l4 kind id lat lon number north east size fits same t0 t1 t2 t3 ends kind_is
    id_is lat_is lon_is at = absurd (omega (arith, size))
short_is (k ∷ i ∷ a ∷ o ∷ []) l0 l1 l2 l3 l4 kind id lat lon number north east size fits same t0 t1 t2 t3 ends kind_is
    id_is lat_is lon_is at = absurd (omega (arith, size))
short_is (k ∷ i ∷ a ∷ o ∷ c ∷ d ∷ more) l0 l1 l2 l3 l4 kind id lat lon number north east size fits same t0 t1 t2 t3 ends kind_is
    id_is lat_is lon_is at = absurd (omega (arith, size))

-- what is made of such a node answers for it
pub node_answers : (r : Result Kind MapError) (element : Result Element MapError) (tags : List (List ℕ × List ℕ)) (number : ℤ)
    (north east : List ℕ) → tags ≡ [] → element ≡ node_at number [] north east
    → MatchResult r (λ e. node_at number tags north east ≡ Ok (seen e)) (λ e. node_at number tags north east ≡ Err e)
    → Answers seen element NoMemory r
node_answers (Ok e) element tags number north east none is made =
    is ∙ ap (λ ts. node_at number ts north east) (sym none) ∙ made
node_answers (Err e) element tags number north east none is made =
    inr (is ∙ ap (λ ts. node_at number ts north east) (sym none) ∙ made)
