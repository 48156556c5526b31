-- Profiles that are refused: what stands before the fault begins one, and with the fault it begins none.
use Rattle.std.proofs.Common.{◌≡◌, ℕ, zero, suc, ◌≤◌, false, List, [], ◌∷◌, length, length-append, refl, sym, ap, ◌∙◌, subst, inl, inr, ◌⊎◌, Option, Some, None, Result, Ok, Err, arith}
use Rattle.profile_text.specs.declared.error.TextError.{TextError}
use Rattle.profile_text.specs.declared.error.TextError.TheVariants.{At, NoMemory}
use Rattle.profile_text.specs.declared.error.TextKind.{TextKind}
use Rattle.profile_text.specs.declared.error.TextKind as Fault
use Rattle.profile_text.specs.declared.kind.Kind.{Kind}
use Rattle.profile_text.specs.declared.kind.Kind.TheVariants.{Opens, Assign}
use Rattle.profile_text.specs.declared.kind.Section.{Section}
use Rattle.profile_text.specs.Fault.{IsToldAt, IsFirstFault}
use Rattle.profile_text.specs.Grammar.{SpellsSections, the_end, a_section}
use Rattle.profile_text.specs.Kind.{kind_of, has_dashes}
use Rattle.profile_text.specs.Read.{Read, and_then, most_depth, assignment_of, put_first, with_first, no_sections, front_fault, from_front, sections_within, profile_of}
use Rattle.profile_text.specs.Token.{Token, Place, tokens_from}
use Rattle.profile_text.specs.Tree.{Assignment, Sections}
use Rattle.profile_text.proofs.OperandLemmas.{not_err}
use Rattle.profile_text.proofs.FrontLemmas.{Front, nothing, one, joined}
use Rattle.profile_text.proofs.GrammarLemmas.{before}
use Rattle.profile_text.proofs.PartLemmas.{one_part, no_part, rest_of}
use Rattle.profile_text.proofs.SectionLemmas.{assignment_takes, spelled_sections}
use Rattle.profile_text.proofs.StopLemmas.{StopsAt, same_error}
use Rattle.profile_text.proofs.TokenLemmas.{few_tokens}
use Rattle.profile_text.proofs.AssignmentFaultLemmas.{Begins, assignment_stops, TakesAssignment, takes_assignment}

-- the refusal is told at the first of these tokens, and so whatever follows it; or at the end
abbrev pub SectionsStopAt : Option Section → (List Token → List Token) → List Token → TextError → Type 0
SectionsStopAt current fill [] e = (line : ℕ) × (e ≡ At line Fault.TheVariants.End)
SectionsStopAt current fill (bad ∷ rest) e =
    ((kind : TextKind) × (e ≡ At bad.line kind))
    × ((parts last : ℕ) (more : List Token) → length (fill (bad ∷ more)) ≤ parts →
    sections_within parts current last (fill (bad ∷ more)) ≡ Err e)

-- sections of these tokens are refused after a front that begins some
pub record SectionsStop (current : Option Section) (ts : List Token) (e : TextError) : Type 0 where
  pub front : Front
  pub rest : List Token
  pub tokens : ts ≡ front.fill rest
  pub viable : Begins current front.fill
  pub told : SectionsStopAt current front.fill rest e

-- what the first part decides, where there are enough parts
first_part : (parts : ℕ) (current : Option Section) (last : ℕ) (t : Token) (ts : List Token) (r : Result Sections TextError)
    → length (t ∷ ts) ≤ parts → ((n : ℕ) → length ts ≤ n → from_front (kind_of t.text) current (rest_of n) t (before t.line ts) ≡ r)
    → sections_within parts current last (t ∷ ts) ≡ r
first_part zero current last t ts r enough decided = let none : ⊥ = omega (arith, enough) in absurd none
first_part (suc n) current last t ts r enough decided = one_part n current last t ts ∙ decided n (omega (arith, enough))

-- a front makes no list shorter
not_shorter : (f : Front) (ts : List Token) → length ts ≤ length (f.fill ts)
not_shorter f ts = omega (arith, ap length (f.is ts), length-append f.tokens ts)

-- with an assignment in front they are refused as without it
first_refused : (section : Section) (a : Assignment) (r : Result Sections TextError) (e : TextError) → with_first section a r ≡ Err e
    → r ≡ Err e
first_refused section a (Ok s) e h = cc
first_refused section a (Err d) e h = h

-- what is read of a first token of this kind and of what follows it
abbrev part_from : Kind → ℕ → Option Section → Token → List Token → Result Sections TextError
part_from k n current t ts = from_front k current (rest_of n) t (before t.line ts)

-- a first token that decides alone
at_first : (n : ℕ) (current : Option Section) (t : Token) (ts : List Token) (e : TextError) (kind : TextKind)
    → ((n : ℕ) (ts : List Token) → part_from (kind_of t.text) n current t ts ≡ Err (At t.line kind))
    → part_from (kind_of t.text) n current t ts ≡ Err e → SectionsStop current (t ∷ ts) e
at_first n current t ts e kind refused h =
    let e_is : At t.line kind ≡ e = same_error {A = Sections} (At t.line kind) e (sym (refused n ts) ∙ h) in
    record {
      front = nothing;
      rest = t ∷ ts;
      tokens = refl;
      viable = record { more = []; sections = no_sections; spells = the_end current };
      told = (
        (kind, sym e_is),
        λ parts last more enough. first_part parts current last t more (Err e) enough
            (λ n few. refused n more ∙ ap Err e_is),
      );
    }

-- a section line that is followed by a fault
opens_stops : (current : Option Section) (t : Token) (section : Section) (ts : List Token) (e : TextError) → kind_of t.text ≡ Opens section
    → SectionsStop (Some section) ts e → SectionsStop current (t ∷ ts) e
opens_stops current t section ts e k s = record {
  front = one t s.front;
  rest = s.rest;
  tokens = ap (λ ts. t ∷ ts) s.tokens;
  viable =
      record {
        more = s.viable.more;
        sections = s.viable.sections;
        spells = a_section current t section (s.front.fill s.viable.more) s.viable.sections k s.viable.spells;
      };
  told = by_rest s.rest s.told;
}
  where
    by_rest : (rest : List Token) → SectionsStopAt (Some section) s.front.fill rest e
        → SectionsStopAt current (λ tail. t ∷ s.front.fill tail) rest e
    by_rest [] told = told
    by_rest (bad ∷ rest) told = (
      told.0,
      λ parts last more enough. first_part parts current last t (s.front.fill (bad ∷ more)) (Err e) enough
          (λ n few. ap (λ x. from_front x current (rest_of n) t (before t.line (s.front.fill (bad ∷ more)))) k ∙ told.1 n t.line more few),
    )

-- an assignment that is at fault
assign_stops : (section : Section) (t : Token) (ts : List Token) (e : TextError) → kind_of t.text ≡ Assign
    → assignment_of (before t.line ts) ≡ Err e → SectionsStop (Some section) (t ∷ ts) e
assign_stops section t ts e k refused =
    let s = assignment_stops section t k t.line ts e refused in
    record {
      front = one t s.front;
      rest = s.rest;
      tokens = ap (λ ts. t ∷ ts) s.tokens;
      viable = s.viable;
      told = by_rest s.front.fill s.rest s.told;
    }
  where
    by_rest : (fill : List Token → List Token) (rest : List Token) → StopsAt assignment_of fill rest e
        → SectionsStopAt (Some section) (λ tail. t ∷ fill tail) rest e
    by_rest fill [] told = told
    by_rest fill (bad ∷ rest) told = (
      told.0,
      λ parts last more enough. first_part parts (Some section) last t (fill (bad ∷ more)) (Err e) enough
          (λ n few. ap (λ x. from_front x (Some section) (rest_of n) t (before t.line (fill (bad ∷ more)))) k
          ∙ ap (λ r. and_then r (λ a p. with_first section a (rest_of n (Some section) p))) (told.1 t.line more)),
    )

-- an assignment that is followed by a fault
after_stops : (section : Section) (t : Token) (ts : List Token) (e : TextError) (a : Assignment) (us : List Token) → kind_of t.text ≡ Assign
    → TakesAssignment ts a us → SectionsStop (Some section) us e → SectionsStop (Some section) (t ∷ ts) e
after_stops section t ts e a us k f s = record {
  front = one t (joined f.front s.front);
  rest = s.rest;
  tokens = ap (λ ts. t ∷ ts) (f.tokens ∙ ap f.front.fill s.tokens);
  viable =
      record {
        more = s.viable.more;
        sections = put_first section a s.viable.sections;
        spells = f.spells section t k (s.front.fill s.viable.more) s.viable.sections s.viable.spells;
      };
  told = by_rest s.rest s.told;
}
  where
    by_rest : (rest : List Token) → SectionsStopAt (Some section) s.front.fill rest e
        → SectionsStopAt (Some section) (λ tail. t ∷ f.front.fill (s.front.fill tail)) rest e
    by_rest [] told = told
    by_rest (bad ∷ rest) told = (
      told.0,
      λ parts last more enough.
          let ws : List Token = s.front.fill (bad ∷ more) in
          let x = f.reads t.line ws in
          first_part parts (Some section) last t (f.front.fill ws) (Err e) enough
          (λ n few.
          let fewer : length ws ≤ n = omega (arith, few, not_shorter f.front ws) in
          ap (λ x. from_front x (Some section) (rest_of n) t (before t.line (f.front.fill ws))) k
          ∙ ap (λ r. and_then r (λ a p. with_first section a (rest_of n (Some section) p))) x.1
          ∙ ap (with_first section a) (told.1 n x.0 more fewer)),
    )

-- sections of at most so many tokens stop so
abbrev SectionsStopWithin : ℕ → TextError → Type 0
SectionsStopWithin n e =
    (section : Section) (p : Place) → length p.tokens ≤ n → rest_of n (Some section) p ≡ Err e → SectionsStop (Some section) p.tokens e

-- what is refused from a token on stops so, where what follows does
front_stops : (n : ℕ) (current : Option Section) (t : Token) (ts : List Token) (e : TextError) → length ts ≤ n → SectionsStopWithin n e
    → (k : Kind) → kind_of t.text ≡ k → part_from k n current t ts ≡ Err e → SectionsStop current (t ∷ ts) e
front_stops n current t ts e enough inner (Opens section) k h =
    opens_stops current t section ts e k (inner section (before t.line ts) enough h)
front_stops n None t ts e enough inner Assign k h =
    at_first n None t ts e Fault.TheVariants.Section (λ n ts. ap (λ x. from_front x None (rest_of n) t (before t.line ts)) k)
    (ap (λ x. from_front x None (rest_of n) t (before t.line ts)) k ∙ h)
front_stops n (Some section) t ts e enough inner Assign k h = by_result (assignment_of (before t.line ts)) refl h
  where
    by_result : (r : Result (Read Assignment) TextError) → assignment_of (before t.line ts) ≡ r
        → and_then r (λ a p. with_first section a (rest_of n (Some section) p)) ≡ Err e → SectionsStop (Some section) (t ∷ ts) e
    by_result (Err d) is h = assign_stops section t ts e k (is ∙ ap Err (same_error {A = Sections} d e h))
    by_result (Ok r) is h =
        let less = assignment_takes (before t.line ts) r.place r.value is in
        after_stops section t ts e r.value r.place.tokens k (takes_assignment t.line ts r is)
        (inner section r.place (omega (arith, enough, less)) (first_refused section r.value (rest_of n (Some section) r.place) e h))
front_stops n current t ts e enough inner other k h =
    at_first n current t ts e (front_fault (has_dashes t.text) other)
    (λ n ts. ap (λ x. from_front x current (rest_of n) t (before t.line ts)) k)
    (ap (λ x. from_front x current (rest_of n) t (before t.line ts)) k ∙ h)

-- sections that are refused stop so
sections_stop : (parts : ℕ) (current : Option Section) (last : ℕ) (ts : List Token) (e : TextError) → length ts ≤ parts
    → sections_within parts current last ts ≡ Err e → SectionsStop current ts e
sections_stop parts current last [] e enough h = absurd (not_err _ _ (sym (no_part parts current last) ∙ h))
sections_stop zero current last (t ∷ ts) e enough h = let none : ⊥ = omega (arith, enough) in absurd none
sections_stop (suc n) current last (t ∷ ts) e enough h =
    front_stops n current t ts e (omega (arith, enough)) (λ section p few was. sections_stop n (Some section) p.last p.tokens e few was)
    (kind_of t.text) refl (sym (one_part n current last t ts) ∙ h)

-- a text that is refused is refused at its first fault
pub profile_stops : (text : List ℕ) (e : TextError) → profile_of text ≡ Err e → IsFirstFault text e
unfolding profile_of
profile_stops text e h =
    let s : SectionsStop None (tokens_from false 1 text) e =
    sections_stop (length text) None 1 (tokens_from false 1 text) e (few_tokens false 1 text) h in
    let P : List Token → Type 0 = λ ts. SpellsSections (suc most_depth) None ts s.viable.sections in
    record {
      front = s.front.tokens;
      rest = s.rest;
      split = s.tokens ∙ s.front.is s.rest;
      before = record { more = s.viable.more; sections = s.viable.sections; spells = subst P (s.front.is s.viable.more) s.viable.spells };
      told = by_rest s.front s.rest s.told;
    }
  where
    by_rest : (f : Front) (rest : List Token) → SectionsStopAt None f.fill rest e → IsToldAt f.tokens rest e
    by_rest f [] told = told
    by_rest f (bad ∷ rest) told = (
      told.0,
      λ more x spells.
          let ts : List Token = f.fill (bad ∷ more) in
          let Q : List Token → Type 0 = λ ts. SpellsSections most_depth None ts x in
          not_err x e (sym (spelled_sections None ts x (subst Q (sym (f.is (bad ∷ more))) spells) (length ts) 1 (omega arith))
          ∙ told.1 (length ts) 1 more (omega arith)),
    )

-- the same where memory may have run out
pub profile_cause : (text : List ℕ) (e : TextError) → (e ≡ NoMemory) ⊎ (profile_of text ≡ Err e) → (e ≡ NoMemory) ⊎ IsFirstFault text e
profile_cause text e (inl memory) = inl memory
profile_cause text e (inr refused) = inr (profile_stops text e refused)
