-- Reading a profile part by part.
use Rattle.std.proofs.Common.{◌≡◌, ℕ, zero, suc, ◌≤◌, false, List, [], ◌∷◌, ◌++◌, length, refl, sym, ◌∙◌, ap, append-nil, map, subst, inl, inr, ◌⊎◌, Option, None, Result, Ok, Err, arith}
use Rattle.profile_text.specs.declared.error.TextError.{TextError}
use Rattle.profile_text.specs.declared.error.TextError.TheVariants.{NoMemory}
use Rattle.profile_text.specs.declared.profile.Assign.{Assign}
use Rattle.profile_text.specs.declared.kind.Section.{Section}
use Rattle.profile_text.specs.Expr.{assignment_in}
use Rattle.profile_text.specs.Kind.{kind_of}
use Rattle.profile_text.specs.Part.{Stand, joined, onto, TakesPart, RefusesPart}
use Rattle.profile_text.specs.Read.{no_sections, from_front, sections_within, profile_of}
use Rattle.profile_text.specs.Source.{IsFirst}
use Rattle.profile_text.specs.Token.{Token, Place, start_of}
use Rattle.profile_text.specs.Tree.{Sections}
use Rattle.profile_text.proofs.TokenLemmas.{few_tokens}

-- what is read from a stand on comes to the whole, where there are at least as many parts as tokens left
pub record ReadsOn (text : List ℕ) (at : Stand) : Type 0 where
  pub parts : ℕ
  pub enough : length at.place.tokens ≤ parts
  pub whole : profile_of text ≡ onto at.sections (sections_within parts at.current at.place.last at.place.tokens)

-- no part is left where no token is
pub no_part : (parts : ℕ) (current : Option Section) (last : ℕ) → sections_within parts current last [] ≡ Ok no_sections
unfolding sections_within
no_part zero current last = refl
no_part (suc n) current last = refl

-- a part begins with the first token
pub one_part : (parts : ℕ) (current : Option Section) (last : ℕ) (t : Token) (ts : List Token)
    → sections_within (suc parts) current last (t ∷ ts)
    ≡ from_front (kind_of t.text) current (λ section p. sections_within parts section p.last p.tokens) t
    (record { last = t.line; tokens = ts })
unfolding sections_within
one_part parts current last t ts = refl

-- nothing in front changes nothing
onto_none : (r : Result Sections TextError) → onto no_sections r ≡ r
onto_none (Ok s) = refl
onto_none (Err e) = refl

-- nothing behind changes nothing
joined_none : (s : Sections) → joined s no_sections ≡ s
joined_none s =
    ap (λ l. record { global = l; way = s.way ++ []; node = s.node ++ [] }) (append-nil s.global)
    ∙ ap (λ l. record { global = s.global; way = l; node = s.node ++ [] }) (append-nil s.way)
    ∙ ap (λ l. record { global = s.global; way = s.way; node = l }) (append-nil s.node)

-- the stand before the first token
abbrev pub first_stand : List ℕ → Stand
first_stand text = record { sections = no_sections; current = None; place = start_of text }

-- the whole is what is read from the text's start
pub from_start : (text : List ℕ) → ReadsOn text (first_stand text)
unfolding profile_of
from_start text = record {
  parts = length text;
  enough = few_tokens false 1 text;
  whole = sym (onto_none (profile_of text));
}

-- nothing was read before the first token
pub reads_first : (text : List ℕ) (g w n : List Assign) (place : Place) → g ≡ [] → w ≡ [] → n ≡ [] → place ≡ start_of text
    → ReadsOn text (record {
      sections = record { global = map assignment_in g; way = map assignment_in w; node = map assignment_in n };
      current = None;
      place = place;
    })
reads_first text g w n place g_is w_is n_is place_is =
    let P : Stand → Type 0 = λ s. ReadsOn text s in
    let stand : List Assign → List Assign → List Assign → Place → Stand =
    λ g w n p. record {
      sections = record { global = map assignment_in g; way = map assignment_in w; node = map assignment_in n };
      current = None;
      place = p;
    } in
    subst P (sym (ap (λ l. stand l w n place) g_is ∙ ap (λ l. stand [] l n place) w_is ∙ ap (λ l. stand [] [] l place) n_is
    ∙ ap (stand [] [] []) place_is))
    (from_start text)

-- where no token is left, the profile so far is the whole
pub reads_all : (text : List ℕ) (at : Stand) → ReadsOn text at → at.place.tokens ≡ [] → profile_of text ≡ Ok at.sections
reads_all text at on none =
    on.whole
    ∙ ap (λ ts. onto at.sections (sections_within on.parts at.current at.place.last ts)) none
    ∙ ap (onto at.sections) (no_part on.parts at.current at.place.last)
    ∙ ap Ok (joined_none at.sections)

-- what a part does to the rest of the parts
abbrev pub rest_of : ℕ → Option Section → Place → Result Sections TextError
rest_of n section p = sections_within n section p.last p.tokens

-- a stand with a first token, and the place after it
module _ (text : List ℕ) (old : Stand) (t : Token) (after : Place) (on : ReadsOn text old) (first : IsFirst old.place t after) where
  -- the whole from the token on
  from_token : (n : ℕ) → onto old.sections (sections_within (suc n) old.current old.place.last old.place.tokens)
      ≡ onto old.sections (from_front (kind_of t.text) old.current (rest_of n) t after)
  from_token n =
      ap (λ ts. onto old.sections (sections_within (suc n) old.current old.place.last ts)) first.tokens
      ∙ ap (onto old.sections) (one_part n old.current old.place.last t after.tokens)
      ∙ ap (λ l. onto old.sections (from_front (kind_of t.text) old.current (rest_of n) t (record { last = l; tokens = after.tokens })))
      (sym first.last)

  -- a part that was taken in leaves what the rest adds
  pub reads_part : (new : Stand) → TakesPart (record old { place = after }) t new → length new.place.tokens ≤ length after.tokens
      → ReadsOn text new
  reads_part new takes further = by_parts on.parts on.enough on.whole
    where
      by_parts : (parts : ℕ) → length old.place.tokens ≤ parts
          → profile_of text ≡ onto old.sections (sections_within parts old.current old.place.last old.place.tokens) → ReadsOn text new
      by_parts zero enough whole = let none : ⊥ = omega (arith, enough, ap length first.tokens) in absurd none
      by_parts (suc n) enough whole = record {
        parts = n;
        enough = omega (arith, enough, further, ap length first.tokens);
        whole = whole ∙ from_token n ∙ takes (rest_of n);
      }

  -- a part that is refused refuses the whole
  pub reads_refusal : (e : TextError) → (e ≡ NoMemory) ⊎ RefusesPart (record old { place = after }) t e
      → (e ≡ NoMemory) ⊎ (profile_of text ≡ Err e)
  reads_refusal e (inl memory) = inl memory
  reads_refusal e (inr refuses) = inr (by_parts on.parts on.enough on.whole)
    where
      by_parts : (parts : ℕ) → length old.place.tokens ≤ parts
          → profile_of text ≡ onto old.sections (sections_within parts old.current old.place.last old.place.tokens)
          → profile_of text ≡ Err e
      by_parts zero enough whole = let none : ⊥ = omega (arith, enough, ap length first.tokens) in absurd none
      by_parts (suc n) enough whole = whole ∙ from_token n ∙ ap (onto old.sections) (refuses (rest_of n))
