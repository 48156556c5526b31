-- Sections: what is spelled so is read, and what is read is spelled so.
use Rattle.std.proofs.Common.{◌≡◌, ℕ, zero, suc, ◌<◌, ◌≤◌, false, List, [], ◌∷◌, length, refl, sym, ◌∙◌, ap, subst, inl, inr, ◌⊎◌, Option, Some, None, Result, Ok, Err, arith}
use Rattle.profile_text.specs.declared.error.TextError.{TextError}
use Rattle.profile_text.specs.declared.error.TextError.TheVariants.{NoMemory}
use Rattle.profile_text.specs.declared.expected.Expected.TheVariants.{Variable}
use Rattle.profile_text.specs.declared.kind.Section.{Section}
use Rattle.profile_text.specs.declared.kind.Kind.{Kind}
use Rattle.profile_text.specs.declared.kind.Kind.TheVariants.{Opens, Assign, Equals, Name}
use Rattle.profile_text.specs.Grammar.{assigned_to, SpellsExpr, a_number, a_true, a_false, a_name, a_look, a_not, a_two, a_switch, an_if, a_bracket, SpellsSections, the_end, a_section, assigned, assigned_by, Spells}
use Rattle.profile_text.specs.Kind.{kind_of}
use Rattle.profile_text.specs.Read.{Read, read, and_then, name_fault, taken, expr_of, most_depth, after_equals, past_equals, assignment_of, put_first, with_first, no_sections, from_front, sections_within, profile_of}
use Rattle.profile_text.specs.Token.{Token, Place, tokens_from}
use Rattle.profile_text.specs.Tree.{Tree, Assignment, Sections}
use Rattle.profile_text.proofs.FoundLemmas.{went_on, taken_is_first, read_is_spelled, same_value}
use Rattle.profile_text.proofs.GrammarLemmas.{before, taken_first, spelled_is_read}
use Rattle.profile_text.proofs.PartLemmas.{one_part, no_part, rest_of}
use Rattle.profile_text.proofs.TokenLemmas.{few_tokens}

-- an expression takes tokens
pub expr_takes : (depth : ℕ) (ts : List Token) (e : Tree) (rest : List Token) → SpellsExpr depth ts e rest → length rest < length ts
expr_takes _ _ _ _ (a_number depth t n rest k) = omega arith
expr_takes _ _ _ _ (a_true depth t rest k) = omega arith
expr_takes _ _ _ _ (a_false depth t rest k) = omega arith
expr_takes _ _ _ _ (a_name depth t rest k) = omega arith
expr_takes _ _ _ _ (a_look depth t rest k) = omega arith
expr_takes _ _ _ _ (a_not depth t ts a rest k x) = let h = expr_takes depth ts a rest x in omega (arith, h)
expr_takes _ _ _ _ (a_two depth t op ts us a b rest k x y) =
    let h = expr_takes depth ts a us x in
    let i = expr_takes depth us b rest y in omega (arith, h, i)
expr_takes _ _ _ _ (a_switch depth t ts us vs a b c rest k x y z) =
    let h = expr_takes depth ts a us x in
    let i = expr_takes depth us b vs y in
    let j = expr_takes depth vs c rest z in omega (arith, h, i, j)
expr_takes _ _ _ _ (an_if depth t u v ts us vs a b c rest k x th y el z) =
    let h = expr_takes depth ts a (u ∷ us) x in
    let i = expr_takes depth us b (v ∷ vs) y in
    let j = expr_takes depth vs c rest z in omega (arith, h, i, j)
expr_takes _ _ _ _ (a_bracket depth t u ts a rest k x cl) = let h = expr_takes depth ts a (u ∷ rest) x in omega (arith, h)

-- no expression begins with `=`
pub no_equals : (last depth : ℕ) (ts : List Token) (e : Tree) (rest : List Token) → SpellsExpr depth ts e rest
    → past_equals last ts ≡ before last ts
no_equals last _ _ _ _ (a_number depth t n rest k) = ap (λ x. after_equals x t rest (before last (t ∷ rest))) k
no_equals last _ _ _ _ (a_true depth t rest k) = ap (λ x. after_equals x t rest (before last (t ∷ rest))) k
no_equals last _ _ _ _ (a_false depth t rest k) = ap (λ x. after_equals x t rest (before last (t ∷ rest))) k
no_equals last _ _ _ _ (a_name depth t rest k) = ap (λ x. after_equals x t rest (before last (t ∷ rest))) k
no_equals last _ _ _ _ (a_look depth t rest k) = ap (λ x. after_equals x t rest (before last (t ∷ rest))) k
no_equals last _ _ _ _ (a_not depth t ts a rest k x) = ap (λ x. after_equals x t ts (before last (t ∷ ts))) k
no_equals last _ _ _ _ (a_two depth t op ts us a b rest k x y) = ap (λ x. after_equals x t ts (before last (t ∷ ts))) k
no_equals last _ _ _ _ (a_switch depth t ts us vs a b c rest k x y z) = ap (λ x. after_equals x t ts (before last (t ∷ ts))) k
no_equals last _ _ _ _ (an_if depth t u v ts us vs a b c rest k x th y el z) = ap (λ x. after_equals x t ts (before last (t ∷ ts))) k
no_equals last _ _ _ _ (a_bracket depth t u ts a rest k x cl) = ap (λ x. after_equals x t ts (before last (t ∷ ts))) k

-- an assignment that is spelled so is read, where the place after the name is known
pub assignment_read : (last : ℕ) (name : Token) (us ts : List Token) (l : ℕ) (a : Tree) (rest : List Token) → kind_of name.text ≡ Name
    → past_equals name.line us ≡ before l ts → SpellsExpr most_depth ts a rest
    → (m : ℕ) × (assignment_of (before last (name ∷ us)) ≡ read (assigned_to name a) (before m rest))
unfolding assignment_of
assignment_read last name us ts l a rest k place_is spells =
    let x = spelled_is_read most_depth ts a rest spells l in (
      x.0,
      ap (λ r. and_then r (λ name p. and_then (expr_of most_depth (past_equals p.last p.tokens))
          (λ value q. read (assigned_to name value) q))) (taken_first Variable last name us Name k refl)
          ∙ ap (λ p. and_then (expr_of most_depth p) (λ value q. read (assigned_to name value) q)) place_is
          ∙ ap (λ r. and_then r (λ value q. read (assigned_to name value) q)) x.1,
    )

-- these tokens spell sections of a profile, where this one is open
abbrev SpellsIn : Section → List Token → Sections → Type 0
SpellsIn section ts s = SpellsSections most_depth (Some section) ts s

-- these tokens are read as sections, where this one is open
abbrev AreRead : ℕ → Section → ℕ → List Token → Sections → Type 0
AreRead parts section last ts s = sections_within parts (Some section) last ts ≡ Ok s

-- the parts after an assignment that was read
part_read : (n last : ℕ) (section : Section) (t : Token) (us rest : List Token) (m : ℕ) (a : Assignment) (s : Sections)
    → kind_of t.text ≡ Assign → assignment_of (before t.line us) ≡ read a (before m rest) → AreRead n section m rest s
    → AreRead (suc n) section last (t ∷ us) (put_first section a s)
part_read n last section t us rest m a s k assignment more =
    one_part n (Some section) last t us
    ∙ ap (λ x. from_front x (Some section) (rest_of n) t (before t.line us)) k
    ∙ ap (λ r. and_then r (λ a p. with_first section a (rest_of n (Some section) p))) assignment
    ∙ ap (with_first section a) more

-- sections that are spelled so are read, where there are as many parts as tokens
pub spelled_sections : (current : Option Section) (ts : List Token) (s : Sections) → SpellsSections most_depth current ts s
    → (parts last : ℕ) → length ts ≤ parts → sections_within parts current last ts ≡ Ok s
spelled_sections _ _ _ (the_end current) parts last enough = no_part parts current last
spelled_sections _ _ _ (a_section current t section ts s k more) zero last enough = let none : ⊥ = omega (arith, enough) in absurd none
spelled_sections _ _ _ (a_section current t section ts s k more) (suc n) last enough =
    one_part n current last t ts
    ∙ ap (λ x. from_front x current (rest_of n) t (before t.line ts)) k
    ∙ spelled_sections (Some section) ts s more n t.line (omega (arith, enough))
spelled_sections _ _ _ (assigned section t name ts rest a s k named spells more) zero last enough =
    let none : ⊥ = omega (arith, enough) in absurd none
spelled_sections _ _ _ (assigned section t name ts rest a s k named spells more) (suc n) last enough =
    let less = expr_takes most_depth ts a rest spells in
    let x = assignment_read t.line name ts ts name.line a rest named (no_equals name.line most_depth ts a rest spells) spells in
    part_read n last section t (name ∷ ts) rest x.0 (assigned_to name a) s k x.1
    (spelled_sections (Some section) rest s more n x.0 (omega (arith, enough, less)))
spelled_sections _ _ _ (assigned_by section t name equals ts rest a s k named by spells more) zero last enough =
    let none : ⊥ = omega (arith, enough) in absurd none
spelled_sections _ _ _ (assigned_by section t name equals ts rest a s k named by spells more) (suc n) last enough =
    let less = expr_takes most_depth ts a rest spells in
    let x =
    assignment_read t.line name (equals ∷ ts) ts equals.line a rest named
    (ap (λ x. after_equals x equals ts (before name.line (equals ∷ ts))) by) spells in
    part_read n last section t (name ∷ equals ∷ ts) rest x.0 (assigned_to name a) s k x.1
    (spelled_sections (Some section) rest s more n x.0 (omega (arith, enough, less)))

-- a profile that is spelled so is read
pub spelled_profile : (text : List ℕ) (s : Sections) → Spells text s → profile_of text ≡ Ok s
unfolding profile_of
spelled_profile text s spells = spelled_sections None (tokens_from false 1 text) s spells (length text) 1 (few_tokens false 1 text)

-- a name may stand where one is expected
pub name_word : (k : Kind) → name_fault k ≡ None → k ≡ Name
name_word Name h = refl
name_word _ h = cc

-- an assignment that was read: its name, what follows the name, and its tree
pub record Assigned (ts : List Token) (a : Assignment) (rest : List Token) : Type 0 where
  pub name : Token
  pub after : List Token
  pub tree : Tree
  pub tokens : ts ≡ name ∷ after
  pub named : kind_of name.text ≡ Name
  pub is : a ≡ assigned_to name tree
  pub spells : SpellsExpr most_depth (past_equals name.line after).tokens tree rest

-- each assignment that was read is one
pub assignment_spelled : (last : ℕ) (ts : List Token) (r : Read Assignment) → assignment_of (before last ts) ≡ Ok r
    → Assigned ts r.value r.place.tokens
unfolding assignment_of
assignment_spelled last ts r h =
    let x =
    went_on (taken Variable (before last ts))
    (λ name p. and_then (expr_of most_depth (past_equals p.last p.tokens)) (λ value q. read (assigned_to name value) q)) r h in
    let y =
    went_on (expr_of most_depth (past_equals x.place.last x.place.tokens)) (λ value q. read (assigned_to x.value value) q) r x.next in
    let first = taken_is_first Variable last ts x.value x.place x.was in
    let P : Read Assignment → Type 0 = λ r. Assigned ts r.value r.place.tokens in
    let L : ℕ → Type 0 = λ l. SpellsExpr most_depth (past_equals l x.place.tokens).tokens y.value y.place.tokens in
    subst P (same_value _ r y.next) (record {
      name = x.value;
      after = x.place.tokens;
      tree = y.value;
      tokens = first.tokens;
      named = name_word (kind_of x.value.text) first.fits;
      is = refl;
      spells =
          subst L first.last (read_is_spelled most_depth (past_equals x.place.last x.place.tokens)
          (record { value = y.value; place = y.place }) y.was);
    })

-- sections with an assignment in front were read from what follows it
pub record Followed (section : Section) (a : Assignment) (r : Result Sections TextError) (s : Sections) : Type 0 where
  pub later : Sections
  pub was : r ≡ Ok later
  pub is : put_first section a later ≡ s

-- so they were
followed : (section : Section) (a : Assignment) (r : Result Sections TextError) (s : Sections) → with_first section a r ≡ Ok s
    → Followed section a r s
followed section a (Ok later) s h = record { later = later; was = refl; is = same_value (put_first section a later) s h }
followed section a (Err e) s h = cc

-- these tokens after a name spell a value, after the `=` that may stand before it
abbrev SpellsValue : Token → List Token → Tree → List Token → Type 0
SpellsValue name after a rest = SpellsExpr most_depth (past_equals name.line after).tokens a rest

-- tokens after a name spell an assignment, with `=` or without
spells_assignment : (section : Section) (t name : Token) (after : List Token) (a : Tree) (rest : List Token) (s : Sections)
    → kind_of t.text ≡ Assign → kind_of name.text ≡ Name → SpellsValue name after a rest → SpellsIn section rest s
    → SpellsIn section (t ∷ name ∷ after) (put_first section (assigned_to name a) s)
spells_assignment section t name [] a rest s k named spells more = assigned section t name [] rest a s k named spells more
spells_assignment section t name (e ∷ es) a rest s k named spells more = by_kind (kind_of e.text) refl spells
  where
    by_kind : (x : Kind) → kind_of e.text ≡ x → SpellsExpr most_depth (after_equals x e es (before name.line (e ∷ es))).tokens a rest
        → SpellsSections most_depth (Some section) (t ∷ name ∷ e ∷ es) (put_first section (assigned_to name a) s)
    by_kind Equals is x = assigned_by section t name e es rest a s k named is x more
    by_kind _ is x = assigned section t name (e ∷ es) rest a s k named x more

-- how many tokens an assignment leaves
past_len : (last : ℕ) (ts : List Token) → length (past_equals last ts).tokens ≤ length ts
past_len last [] = omega arith
past_len last (t ∷ ts) = by_kind (kind_of t.text)
  where
    by_kind : (x : Kind) → length (after_equals x t ts (before last (t ∷ ts))).tokens ≤ suc (length ts)
    by_kind Equals = omega arith
    by_kind _ = omega arith

-- sections of at most so many tokens that are read are spelled so
abbrev AreSpelledWithin : ℕ → Type 0
AreSpelledWithin n =
    (section : Section) (p : Place) (s : Sections) → length p.tokens ≤ n → rest_of n (Some section) p ≡ Ok s
    → SpellsIn section p.tokens s

-- what is read from a token on is spelled so, where what is read after it is
front_spelled : (n : ℕ) (current : Option Section) (t : Token) (ts : List Token) (s : Sections) → length ts ≤ n → AreSpelledWithin n
    → (k : Kind) → kind_of t.text ≡ k → from_front k current (rest_of n) t (before t.line ts) ≡ Ok s
    → SpellsSections most_depth current (t ∷ ts) s
front_spelled n current t ts s enough inner (Opens section) k h =
    a_section current t section ts s k (inner section (before t.line ts) s enough h)
front_spelled n None t ts s enough inner Assign k h = cc
front_spelled n (Some section) t ts s enough inner Assign k h =
    let x = went_on (assignment_of (before t.line ts)) (λ a p. with_first section a (rest_of n (Some section) p)) s h in
    let a = assignment_spelled t.line ts (record { value = x.value; place = x.place }) x.was in
    let f = followed section x.value (rest_of n (Some section) x.place) s x.next in
    let len : length ts ≡ suc (length a.after) = ap length a.tokens in
    let less = expr_takes most_depth (past_equals a.name.line a.after).tokens a.tree x.place.tokens a.spells in
    let past = past_len a.name.line a.after in
    let more = inner section x.place f.later (omega (arith, enough, len, less, past)) f.was in
    let P : List Token → Type 0 = λ us. SpellsSections most_depth (Some section) (t ∷ us) s in
    let Q : Sections → Type 0 = λ s. SpellsSections most_depth (Some section) (t ∷ a.name ∷ a.after) s in
    subst P (sym a.tokens)
    (subst Q (ap (λ b. put_first section b f.later) (sym a.is) ∙ f.is)
    (spells_assignment section t a.name a.after a.tree x.place.tokens f.later k a.named a.spells more))
front_spelled n current t ts s enough inner _ k h = cc

-- sections that are read are spelled so
pub read_sections : (parts : ℕ) (current : Option Section) (last : ℕ) (ts : List Token) (s : Sections) → length ts ≤ parts
    → sections_within parts current last ts ≡ Ok s → SpellsSections most_depth current ts s
read_sections parts current last [] s enough h =
    let P : Sections → Type 0 = λ s. SpellsSections most_depth current [] s in
    subst P (same_value no_sections s (sym (no_part parts current last) ∙ h)) (the_end current)
read_sections zero current last (t ∷ ts) s enough h = let none : ⊥ = omega (arith, enough) in absurd none
read_sections (suc n) current last (t ∷ ts) s enough h =
    front_spelled n current t ts s (omega (arith, enough)) (λ section p s few was. read_sections n (Some section) p.last p.tokens s few was)
    (kind_of t.text) refl (sym (one_part n current last t ts) ∙ h)

-- a profile that is read is spelled so
pub read_profile : (text : List ℕ) (s : Sections) → profile_of text ≡ Ok s → Spells text s
unfolding profile_of
read_profile text s h = read_sections (length text) None 1 (tokens_from false 1 text) s (few_tokens false 1 text) h

-- no other profile is spelled so
pub only_read : (text : List ℕ) (s p : Sections) → profile_of text ≡ Ok s → Spells text p → s ≡ p
only_read text s p h spells = same_value s p (sym h ∙ spelled_profile text p spells)

-- a text that spells a profile is refused for want of memory alone
pub only_memory : (text : List ℕ) (e : TextError) (p : Sections) → (e ≡ NoMemory) ⊎ (profile_of text ≡ Err e) → Spells text p → e ≡ NoMemory
only_memory text e p (inl memory) spells = memory
only_memory text e p (inr h) spells =
    let clash : ◌≡◌ {A = Result Sections TextError} (Err e) (Ok p) = sym h ∙ spelled_profile text p spells in cc

-- an assignment that was read takes tokens
pub assignment_takes : (from to : Place) (a : Assignment) → assignment_of from ≡ read a to → length to.tokens < length from.tokens
assignment_takes from to a reading =
    let was = assignment_spelled from.last from.tokens (record { value = a; place = to }) reading in
    let len : length from.tokens ≡ suc (length was.after) = ap length was.tokens in
    let less = expr_takes most_depth (past_equals was.name.line was.after).tokens was.tree to.tokens was.spells in
    let past = past_len was.name.line was.after in omega (arith, len, less, past)
