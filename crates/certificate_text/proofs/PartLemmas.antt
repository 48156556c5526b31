-- What is read of the parts of a line.
use Rattle.std.proofs.Common.{◌≡◌, ℕ, ℤ, ◌<◌, Bool, true, false, List, [], ◌∷◌, ◌++◌, Some, None, refl, sym, ap, ◌∙◌, arith, append_assoc}
use Rattle.std.specs.Prelude.{FitsSigned, decimal}
use Rattle.std.specs.Fmt.{signed_decimal}
use mir.Syntax.{w64}
use Rattle.std.proofs.lemmas.Fmt.{signed_decimal_injective}
use Rattle.overpass_graph.specs.Maps.{MapValue, IsMap, link_of}
use Rattle.overpass_graph.specs.Names.{LinkName, name_of, letter_of, step_text, name_text, FindsLink}
use Rattle.overpass_graph.proofs.CallerLemmas.{name-own}
use Rattle.certificate_text.specs.declared.certificate.Entry.{Entry}
use Rattle.certificate_text.specs.Lines.{link_text, entry_text, buffers_text, weights_text, IsLink, IsCost, IsBuffer, IsEntry}
use Rattle.certificate_text.specs.Parts.{HasNo, ReadsAt, ReadsTo, IsNumber, IsStep, print_step, AreWeights, print_weights}
use Rattle.certificate_text.proofs.ByteLemmas.{first-same, rest-same, no-append, cut-same}
use Rattle.certificate_text.proofs.NumberLemmas.{decimal-no, signed-no, small-id, decimal-own}

-- ---- Two parts, parted by a byte that the first doesn't have

module _ {A B : Type 0} (c : ℕ) (P : A → List ℕ) (Q : B → List ℕ) (IsP : A → Type 0) (IsQ : B → Type 0)
    (no_c : (a : A) → IsP a → HasNo c (P a)) (text : List ℕ) where
  -- a text whose first part says nothing is none of two parts, whatever follows them
  pub pair-first : ReadsTo c P IsP text None → (p : A × B) (rest : List ℕ) → IsP p.0 × IsQ p.1 →
      text ≡ (P p.0 ++ (c ∷ Q p.1)) ++ rest → ⊥
  pair-first none p rest fits same = none p.0 (Q p.1 ++ rest) fits.0 (same ∙ append_assoc (P p.0) (c ∷ Q p.1) rest)

  -- what follows the first part is of the second and of what follows that
  pub pair-rest : (a : A) (back : List ℕ) → ReadsTo c P IsP text (Some (a, back)) → (p : A × B) (rest : List ℕ) → IsP p.0 →
      text ≡ (P p.0 ++ (c ∷ Q p.1)) ++ rest → back ≡ Q p.1 ++ rest
  pair-rest a back first p rest fits same =
      (cut-same c (P a) (P p.0) back (Q p.1 ++ rest) (no_c a first.0) (no_c p.0 fits)
      (sym first.1 ∙ same ∙ append_assoc (P p.0) (c ∷ Q p.1) rest)).1

  -- two parts that say something are what the text is of
  pub pair-both : (a : A) (back : List ℕ) (b : B) (rest : List ℕ) → ReadsTo c P IsP text (Some (a, back)) → back ≡ Q b ++ rest →
      text ≡ (P a ++ (c ∷ Q b)) ++ rest
  pair-both a back b rest first second =
      first.1 ∙ ap (λ t. P a ++ (c ∷ t)) second ∙ sym (append_assoc (P a) (c ∷ Q b) rest)

-- ---- What the first parts don't have

pub number-no : (n : ℕ) → IsNumber n → HasNo 47 (decimal n)
number-no n fits = decimal-no 47 n (omega arith) (omega (arith, fits))

pub id-no : (z : ℤ) → FitsSigned w64 z → HasNo 47 (signed_decimal z)
id-no z fits = signed-no 47 z (omega arith) (λ same. absurd cc) (small-id z fits)

pub buffer-no : (z : ℤ) → IsBuffer z → HasNo 32 (signed_decimal z)
buffer-no z fits = signed-no 32 z (omega arith) (λ same. absurd cc) (small-id z fits.1)

pub cost-no : (n : ℕ) → IsCost n → HasNo 32 (decimal n)
cost-no n fits = decimal-no 32 n (omega arith) (omega (arith, fits))

-- ---- Names

-- the letters of directions that two texts begin with
letter-front : (b d : Bool) (xs ys : List ℕ) → letter_of b ++ xs ≡ letter_of d ++ ys → (b ≡ d) × (xs ≡ ys)
letter-front true true xs ys same = (refl, rest-same 98 98 xs ys same)
letter-front false false xs ys same = (refl, rest-same 102 102 xs ys same)
letter-front true false xs ys same = let h : 98 ≡ 102 = first-same 98 102 xs ys same in absurd (omega (arith, h))
letter-front false true xs ys same = let h : 102 ≡ 98 = first-same 102 98 xs ys same in absurd (omega (arith, h))

-- a letter isn't a low byte
letter-no : (c : ℕ) (b : Bool) → c < 45 → HasNo c (letter_of b)
letter-no c true low = (λ same. absurd (omega (arith, same)), tt)
letter-no c false low = (λ same. absurd (omega (arith, same)), tt)

-- a name has 64 bits for the id, and 32 for the segment
record FitsName (name : LinkName) : Type 0 where
  pub way : FitsSigned w64 name.way
  pub segment : IsNumber name.segment

-- so has the name of a link
link-fits : (map : MapValue) (link : ℕ) → IsMap map → IsLink map link → FitsName (name_of map link)
link-fits map link is below = record {
  way = is.names.id_fits (link_of map link).way (is.way_in link below);
  segment = is.names.segment_fits link below;
}

-- names of equal parts are one
names-same : (a b : LinkName) → a.way ≡ b.way → a.segment ≡ b.segment → a.back ≡ b.back → a ≡ b
names-same a b way segment back =
    ap (λ (w : ℤ). record { way = w; segment = a.segment; back = a.back }) way
    ∙ ap (λ (s : ℕ). record { way = b.way; segment = s; back = a.back }) segment
    ∙ ap (λ (d : Bool). record { way = b.way; segment = b.segment; back = d }) back

-- names that one text begins with are one, and so is what follows them
names-front : (a b : LinkName) (xs ys : List ℕ) → FitsName a → FitsName b → name_text a ++ xs ≡ name_text b ++ ys →
    (a ≡ b) × (xs ≡ ys)
unfolding name_text
names-front a b xs ys fits_a fits_b same =
    let outer = cut-same 47 (signed_decimal a.way) (signed_decimal b.way) (step_text a.segment a.back ++ xs)
    (step_text b.segment b.back ++ ys) (id-no a.way fits_a.way) (id-no b.way fits_b.way)
    (sym (append_assoc (signed_decimal a.way) (47 ∷ step_text a.segment a.back) xs) ∙ same
    ∙ append_assoc (signed_decimal b.way) (47 ∷ step_text b.segment b.back) ys) in
    let inner = cut-same 47 (decimal a.segment) (decimal b.segment) (letter_of a.back ++ xs) (letter_of b.back ++ ys)
    (number-no a.segment fits_a.segment) (number-no b.segment fits_b.segment)
    (sym (append_assoc (decimal a.segment) (47 ∷ letter_of a.back) xs) ∙ outer.1
    ∙ append_assoc (decimal b.segment) (47 ∷ letter_of b.back) ys) in
    let letters = letter-front a.back b.back xs ys inner.1 in (
      names-same a b
          (signed_decimal_injective a.way b.way (small-id a.way fits_a.way) (small-id b.way fits_b.way) outer.0)
          (decimal-own a.segment b.segment (omega (arith, fits_a.segment)) (omega (arith, fits_b.segment)) inner.0)
          letters.0,
      letters.1,
    )

-- links that one text begins with are one, and so is what follows them
pub link-front : (map : MapValue) (a b : ℕ) (xs ys : List ℕ) → IsMap map → IsLink map a → IsLink map b →
    link_text map a ++ xs ≡ link_text map b ++ ys → (a ≡ b) × (xs ≡ ys)
link-front map a b xs ys is a_in b_in same =
    let both = names-front (name_of map a) (name_of map b) xs ys (link-fits map a is a_in) (link-fits map b is b_in) same in
    (name-own map a b is a_in b_in both.0, both.1)

-- links of one text are one
pub link-own : (map : MapValue) (a b : ℕ) → IsMap map → IsLink map a → IsLink map b → link_text map a ≡ link_text map b → a ≡ b
link-own map a b is a_in b_in same = (link-front map a b [] [] is a_in b_in (ap (λ t. t ++ []) same)).0

-- a link's text has no low byte
pub link-no : (map : MapValue) (c link : ℕ) → c < 45 → IsMap map → IsLink map link → HasNo c (link_text map link)
unfolding name_text
link-no map c link low is below =
    let fits = link-fits map link is below in
    let name = name_of map link in
    no-append c (signed_decimal name.way) (47 ∷ step_text name.segment name.back)
    (signed-no c name.way (omega (arith, low)) (λ same. absurd (omega (arith, low, same))) (small-id name.way fits.way)) (
      (λ same. absurd (omega (arith, low, same))),
      no-append c (decimal name.segment) (47 ∷ letter_of name.back)
          (decimal-no c name.segment (omega (arith, low)) (omega (arith, fits.segment)))
          ((λ same. absurd (omega (arith, low, same))), letter-no c name.back low),
    )

-- a text that begins with no id and step names no link
pub link-none : (map : MapValue) (text : List ℕ) → IsMap map →
    ((p : ℤ × (ℕ × Bool)) (rest : List ℕ) → FitsSigned w64 p.0 × IsStep p.1 → text ≡ (signed_decimal p.0 ++ (47 ∷ print_step p.1)) ++ rest → ⊥) →
    ReadsAt (link_text map) (IsLink map) text None
unfolding name_text
link-none map text is none link rest below same =
    let fits = link-fits map link is below in
    let name = name_of map link in
    none (name.way, (name.segment, name.back)) rest (fits.way, (fits.segment, tt)) same

-- one that does names the link that is found, and so it is with none
module _ (map : MapValue) (text : List ℕ) (way : ℤ) (segment : ℕ) (back : Bool) (rest : List ℕ) (is : IsMap map)
    (fits : FitsSigned w64 way × IsNumber segment) (said : text ≡ (signed_decimal way ++ (47 ∷ print_step (segment, back))) ++ rest) where
  pub link-found : (link : ℕ) → FindsLink map (record { way = way; segment = segment; back = back }) (Some link) →
      ReadsAt (link_text map) (IsLink map) text (Some (link, rest))
  unfolding name_text
  link-found link found = (found.0, said ∙ ap (λ n. name_text n ++ rest) (sym found.1))

  pub link-lost : FindsLink map (record { way = way; segment = segment; back = back }) None →
      ReadsAt (link_text map) (IsLink map) text None
  unfolding name_text
  link-lost none link more below same =
      none link below
      (names-front (name_of map link) (record { way = way; segment = segment; back = back }) more rest (link-fits map link is below)
      (record { way = fits.0; segment = fits.1 }) (sym same ∙ said)).0

-- a text that begins with a link is of none before a byte where another one follows
pub link-unended : (map : MapValue) (text : List ℕ) (byte link : ℕ) (back : List ℕ) → IsMap map →
    ReadsAt (link_text map) (IsLink map) text (Some (link, back)) → ((more : List ℕ) → back ≡ byte ∷ more → ⊥) →
    ReadsTo byte (link_text map) (IsLink map) text None
link-unended map text byte link back is told other found more below same =
    other more (link-front map link found back (byte ∷ more) is told.0 below (sym told.1 ∙ same)).1

-- ---- Labels

-- a text that says no link and weights is no label
pub entry-none : (map : MapValue) (text : List ℕ) →
    ((p : ℕ × (ℕ × (ℤ × ℤ))) (rest : List ℕ) → IsLink map p.0 × AreWeights p.1 →
    text ≡ (link_text map p.0 ++ (32 ∷ print_weights p.1)) ++ (10 ∷ rest) → ⊥) →
    ReadsTo 10 (entry_text map) (IsEntry map) text None
entry-none map text none entry rest fits same =
    none (entry.link, (entry.cost, (entry.down, entry.up))) rest (fits.link, (fits.cost, (fits.down, fits.up))) same

-- labels of one text are one
pub entry-own : (map : MapValue) (a b : Entry) → IsMap map → IsEntry map a → IsEntry map b → entry_text map a ≡ entry_text map b → a ≡ b
entry-own map a b is fits_a fits_b same =
    let first = cut-same 32 (link_text map a.link) (link_text map b.link) (weights_text a.cost a.down a.up)
    (weights_text b.cost b.down b.up) (link-no map 32 a.link (omega arith) is fits_a.link)
    (link-no map 32 b.link (omega arith) is fits_b.link) same in
    let second = cut-same 32 (decimal a.cost) (decimal b.cost) (buffers_text a.down a.up) (buffers_text b.down b.up)
    (cost-no a.cost fits_a.cost) (cost-no b.cost fits_b.cost) first.1 in
    let third = cut-same 32 (signed_decimal a.down) (signed_decimal b.down) (signed_decimal a.up) (signed_decimal b.up)
    (buffer-no a.down fits_a.down) (buffer-no b.down fits_b.down) second.1 in
    let link : a.link ≡ b.link = link-own map a.link b.link is fits_a.link fits_b.link first.0 in
    let cost : a.cost ≡ b.cost = decimal-own a.cost b.cost (omega (arith, fits_a.cost)) (omega (arith, fits_b.cost)) second.0 in
    let down : a.down ≡ b.down =
    signed_decimal_injective a.down b.down (small-id a.down fits_a.down.1) (small-id b.down fits_b.down.1) third.0 in
    let up : a.up ≡ b.up = signed_decimal_injective a.up b.up (small-id a.up fits_a.up.1) (small-id b.up fits_b.up.1) third.1 in
    entries-same a b link cost down up
  where
    entries-same : (a b : Entry) → a.link ≡ b.link → a.cost ≡ b.cost → a.down ≡ b.down → a.up ≡ b.up → a ≡ b
    entries-same a b link cost down up =
        ap (λ (x : ℕ). record { cost = x; down = a.down; up = a.up; link = a.link }) cost
        ∙ ap (λ (x : ℤ). record { cost = b.cost; down = x; up = a.up; link = a.link }) down
        ∙ ap (λ (x : ℤ). record { cost = b.cost; down = b.down; up = x; link = a.link }) up
        ∙ ap (λ (x : ℕ). record { cost = b.cost; down = b.down; up = b.up; link = x }) link

-- a label's text has no line end
pub entry-no : (map : MapValue) (entry : Entry) → IsMap map → IsEntry map entry → HasNo 10 (entry_text map entry)
entry-no map entry is fits =
    no-append 10 (link_text map entry.link) (32 ∷ weights_text entry.cost entry.down entry.up)
    (link-no map 10 entry.link (omega arith) is fits.link) (
      (λ same. absurd cc),
      no-append 10 (decimal entry.cost) (32 ∷ buffers_text entry.down entry.up)
          (decimal-no 10 entry.cost (omega arith) (omega (arith, fits.cost))) (
            (λ same. absurd cc),
            no-append 10 (signed_decimal entry.down) (32 ∷ signed_decimal entry.up)
                (signed-no 10 entry.down (omega arith) (λ same. absurd cc) (small-id entry.down fits.down.1))
                ((λ same. absurd cc), signed-no 10 entry.up (omega arith) (λ same. absurd cc) (small-id entry.up fits.up.1)),
          ),
    )
