-- Assignments that are refused: what stands before the fault begins sections of a profile.
use Rattle.std.proofs.Common.{◌≡◌, ℕ, zero, suc, ◌<◌, List, [], ◌∷◌, ◌++◌, length, refl, sym, ap, ◌∙◌, subst, pos, Option, Some, Result, Ok, Err, arith}
use lib.Chars.{codes}
use Rattle.profile_text.specs.declared.error.TextError.{TextError}
use Rattle.profile_text.specs.declared.error.TextError.TheVariants.{At}
use Rattle.profile_text.specs.declared.error.TextKind.{TextKind}
use Rattle.profile_text.specs.declared.error.TextKind as Fault
use Rattle.profile_text.specs.declared.expected.Expected.TheVariants.{Expression, Variable}
use Rattle.profile_text.specs.declared.kind.Kind.{Kind}
use Rattle.profile_text.specs.declared.kind.Kind.TheVariants.{Assign, Equals, Name}
use Rattle.profile_text.specs.declared.kind.Section.{Section}
use Rattle.profile_text.specs.Grammar.{assigned_to, SpellsExpr, SpellsSections, the_end, assigned, assigned_by}
use Rattle.profile_text.specs.Kind.{kind_of}
use Rattle.profile_text.specs.Read.{Read, read, and_then, form_of, expr_of, most_depth, after_equals, past_equals, assignment_of, put_first, no_sections}
use Rattle.profile_text.specs.Token.{Token, Place}
use Rattle.profile_text.specs.Tree.{Tree, Constant, Assignment, Sections}
use Rattle.profile_text.proofs.ExprFaultLemmas.{expr_stops}
use Rattle.profile_text.proofs.OperandLemmas.{not_err, Viable, operand_then}
use Rattle.profile_text.proofs.FrontLemmas.{Front, nothing, one, deeper, Takes, takes}
use Rattle.profile_text.proofs.GrammarLemmas.{before}
use Rattle.profile_text.proofs.SectionLemmas.{expr_takes, no_equals, assignment_read, assignment_spelled, name_word, Assigned}
use Rattle.profile_text.proofs.StopLemmas.{token, with_true, some_expr, name_is, Stops, StopsAt, TakesFront, taken_none, same_error, token_then}

-- the front begins sections, where one may be open, which other tokens make whole
pub record Begins (current : Option Section) (fill : List Token → List Token) : Type 0 where
  pub more : List Token
  pub sections : Sections
  pub spells : SpellsSections (suc most_depth) current (fill more) sections

-- what is read after a name
abbrev after_name : Token → Place → Result (Read Assignment) TextError
after_name name p = and_then (expr_of most_depth (past_equals p.last p.tokens)) (λ value q. read (assigned_to name value) q)

-- at the end no expression is read
expr_none : (room last : ℕ) → expr_of room (before last []) ≡ Err (At last Fault.TheVariants.End)
unfolding expr_of
expr_none zero last = ap (λ r. and_then r (λ t p. Err (At t.line Fault.TheVariants.Deep))) (taken_none Expression last)
expr_none (suc room) last = ap (λ r. and_then r (λ t p. form_of (expr_of room) t (kind_of t.text) p)) (taken_none Expression last)

-- a front with a token after it begins with the same token whatever follows that
pub record BeginsWith (u : Token) (ts : List Token) : Type 0 where
  pub later : List Token
  pub is : ts ≡ u ∷ later

-- so it does
first_stays : (f : Front) (u bad : Token) (us rest more : List Token) → u ∷ us ≡ f.fill (bad ∷ rest) → BeginsWith u (f.fill (bad ∷ more))
first_stays f u bad us rest more same = by_front f.tokens (same ∙ f.is (bad ∷ rest)) (f.is (bad ∷ more))
  where
    first_of : Token → List Token → Token
    first_of d [] = d
    first_of d (t ∷ ts) = t

    by_front : (front : List Token) → u ∷ us ≡ front ++ bad ∷ rest → f.fill (bad ∷ more) ≡ front ++ bad ∷ more
        → BeginsWith u (f.fill (bad ∷ more))
    by_front [] was now = record { later = more; is = now ∙ ap (λ t. t ∷ more) (sym (ap (first_of u) was)) }
    by_front (t ∷ ts) was now = record { later = ts ++ bad ∷ more; is = now ∙ ap (λ t. t ∷ ts ++ bad ∷ more) (sym (ap (first_of u) was)) }

-- an assignment of an open section, from the word `assign` on
module _ (section : Section) (t : Token) (k : kind_of t.text ≡ Assign) where
  -- the word and the front begin sections
  abbrev WithWord : (List Token → List Token) → Type 0
  WithWord fill = Begins (Some section) (λ tail. t ∷ fill tail)

  -- with a name and a number they are whole
  whole : (name : Token) → kind_of name.text ≡ Name
      → SpellsSections (suc most_depth) (Some section) (t ∷ name ∷ with_true [])
      (put_first section (assigned_to name (Constant (pos 1000000))) no_sections)
  whole name named =
      assigned section t name (with_true []) [] (Constant (pos 1000000)) no_sections k named (some_expr most_depth [])
      (the_end (Some section))

  -- the name and the front begin an assignment
  abbrev WithName : Token → (List Token → List Token) → Type 0
  WithName name fill = WithWord (λ tail. name ∷ fill tail)

  -- an expression that is begun after a name begins an assignment
  named_viable : (name : Token) → kind_of name.text ≡ Name → (fill : List Token → List Token) → Viable (suc most_depth) fill
      → WithName name fill
  named_viable name named fill v = record {
    more = v.more [];
    sections = put_first section (assigned_to name v.tree) no_sections;
    spells = assigned section t name (fill (v.more [])) [] v.tree no_sections k named (v.spells []) (the_end (Some section));
  }

  -- so it does after a name and a `=`
  equals_viable : (name u : Token) → kind_of name.text ≡ Name → kind_of u.text ≡ Equals → (fill : List Token → List Token)
      → Viable (suc most_depth) fill → WithName name (λ tail. u ∷ fill tail)
  equals_viable name u named is fill v = record {
    more = v.more [];
    sections = put_first section (assigned_to name v.tree) no_sections;
    spells = assigned_by section t name u (fill (v.more [])) [] v.tree no_sections k named is (v.spells []) (the_end (Some section));
  }

  -- a `=` after the name is passed
  equals_stops : (name u : Token) (us : List Token) (e : TextError) → kind_of name.text ≡ Name → kind_of u.text ≡ Equals
      → after_name name (before name.line (u ∷ us)) ≡ Err e → Stops (after_name name) (WithName name) (u ∷ us) e
  equals_stops name u us e named is h =
      let go : Tree → Place → Result (Read Assignment) TextError = λ value q. read (assigned_to name value) q in
      let passes : (last : ℕ) (ws : List Token)
      → after_name name (before last (u ∷ ws)) ≡ and_then (expr_of most_depth (before u.line ws)) go =
      λ last ws. ap (λ x. and_then (expr_of most_depth (after_equals x u ws (before last (u ∷ ws)))) go) is in
      let s : Stops (λ p. and_then (expr_of most_depth p) go) (λ fill. WithName name (λ tail. u ∷ fill tail)) us e =
      operand_then most_depth go (λ fill. WithName name (λ tail. u ∷ fill tail)) u.line us e (expr_stops most_depth)
      (equals_viable name u named is) (λ a used l us spells h. absurd (not_err _ _ h)) (sym (passes name.line us) ∙ h) in
      record {
        front = one u s.front;
        rest = s.rest;
        tokens = ap (λ ts. u ∷ ts) s.tokens;
        viable = s.viable;
        told = by_rest passes s.front.fill s.rest s.told;
      }
    where
      by_rest : ((last : ℕ) (ws : List Token)
          → after_name name (before last (u ∷ ws))
          ≡ and_then (expr_of most_depth (before u.line ws)) (λ value q. read (assigned_to name value) q))
          → (fill : List Token → List Token) (rest : List Token)
          → StopsAt (λ p. and_then (expr_of most_depth p) (λ value q. read (assigned_to name value) q)) fill rest e
          → StopsAt (after_name name) (λ tail. u ∷ fill tail) rest e
      by_rest passes fill [] told = told
      by_rest passes fill (bad ∷ rest) told = (told.0, λ last more. passes last (fill (bad ∷ more)) ∙ told.1 u.line more)

  -- another token after the name begins the expression
  plain_stops : (name u : Token) (us : List Token) (e : TextError) → kind_of name.text ≡ Name
      → ((last : ℕ) (ws : List Token) → past_equals last (u ∷ ws) ≡ before last (u ∷ ws))
      → after_name name (before name.line (u ∷ us)) ≡ Err e → Stops (after_name name) (WithName name) (u ∷ us) e
  plain_stops name u us e named plain h =
      let go : Tree → Place → Result (Read Assignment) TextError = λ value q. read (assigned_to name value) q in
      let s : Stops (λ p. and_then (expr_of most_depth p) go) (WithName name) (u ∷ us) e =
      operand_then most_depth go (WithName name) name.line (u ∷ us) e (expr_stops most_depth) (named_viable name named)
      (λ a used l us spells h. absurd (not_err _ _ h)) (sym (ap (λ p. and_then (expr_of most_depth p) go) (plain name.line us)) ∙ h) in
      record { front = s.front; rest = s.rest; tokens = s.tokens; viable = s.viable; told = by_rest s.front s.rest s.tokens s.told }
    where
      by_rest : (f : Front) (rest : List Token) → u ∷ us ≡ f.fill rest
          → StopsAt (λ p. and_then (expr_of most_depth p) (λ value q. read (assigned_to name value) q)) f.fill rest e
          → StopsAt (after_name name) f.fill rest e
      by_rest f [] same told = told
      by_rest f (bad ∷ rest) same told = (
        told.0,
        λ last more.
            let w : BeginsWith u (f.fill (bad ∷ more)) = first_stays f u bad us rest more same in
            let go : Place → Result (Read Assignment) TextError =
            λ p. and_then (expr_of most_depth p) (λ value q. read (assigned_to name value) q) in
            ap (λ ts. go (past_equals last ts)) w.is ∙ ap go (plain last w.later) ∙ ap (λ ts. go (before last ts)) (sym w.is)
            ∙ told.1 last more,
      )

  -- what follows a name stops so
  name_stops : (name : Token) (us : List Token) (e : TextError) → kind_of name.text ≡ Name → after_name name (before name.line us) ≡ Err e
      → Stops (after_name name) (WithName name) us e
  name_stops name [] e named h = record {
    front = nothing;
    rest = [];
    tokens = refl;
    viable =
        record {
          more = with_true [];
          sections = put_first section (assigned_to name (Constant (pos 1000000))) no_sections;
          spells = whole name named;
        };
    told = (
      name.line,
      sym (same_error {A = Read Assignment} (At name.line Fault.TheVariants.End) e
          (sym (ap (λ r. and_then r (λ value q. read (assigned_to name value) q)) (expr_none most_depth name.line)) ∙ h)),
    );
  }
  name_stops name (u ∷ us) e named h = by_kind (kind_of u.text) refl
    where
      by_kind : (x : Kind) → kind_of u.text ≡ x → Stops (after_name name) (WithName name) (u ∷ us) e
      by_kind Equals is = equals_stops name u us e named is h
      by_kind _ is = plain_stops name u us e named (λ last ws. ap (λ x. after_equals x u ws (before last (u ∷ ws))) is) h

  -- an assignment that is refused stops so
  pub assignment_stops : (last : ℕ) (ts : List Token) (e : TextError) → assignment_of (before last ts) ≡ Err e
      → Stops assignment_of WithWord ts e
  unfolding assignment_of
  assignment_stops last ts e h = token_then Variable after_name WithWord last ts e
      (record {
        more = token (codes "a") ∷ with_true [];
        sections = put_first section (assigned_to (token (codes "a")) (Constant (pos 1000000))) no_sections;
        spells =
            whole (token (codes "a")) name_is;
      })
      (λ name us fits h. name_stops name us e (name_word (kind_of name.text) fits) h)
      h

-- the tokens that an assignment takes are read whatever follows, and begin sections whatever follows
pub record TakesAssignment (ts : List Token) (a : Assignment) (rest : List Token) : Type 0 where
  pub front : Front
  pub tokens : ts ≡ front.fill rest
  pub reads : TakesFront assignment_of front a
  pub spells : (section : Section) (t : Token) → kind_of t.text ≡ Assign → (tail : List Token) (s : Sections)
      → SpellsSections (suc most_depth) (Some section) tail s
      → SpellsSections (suc most_depth) (Some section) (t ∷ front.fill tail) (put_first section a s)

-- each assignment that was read takes such tokens
pub takes_assignment : (last : ℕ) (ts : List Token) (r : Read Assignment) → assignment_of (before last ts) ≡ Ok r
    → TakesAssignment ts r.value r.place.tokens
takes_assignment last ts r h =
    let w : Assigned ts r.value r.place.tokens = assignment_spelled last ts r h in
    let P : Assignment → Type 0 = λ a. TakesAssignment ts a r.place.tokens in
    let Q : List Token → Type 0 = λ ts. TakesAssignment ts (assigned_to w.name w.tree) r.place.tokens in
    subst P (sym w.is) (subst Q (sym w.tokens) (by_after w.name w.named w.tree r.place.tokens w.after w.spells))
  where
    by_after : (name : Token) → kind_of name.text ≡ Name → (tree : Tree) (rest after : List Token)
        → SpellsExpr most_depth (past_equals name.line after).tokens tree rest → TakesAssignment (name ∷ after) (assigned_to name tree) rest
    by_after name named tree rest [] spells =
        let none : length rest < 0 = expr_takes most_depth [] tree rest spells in let no_text : ⊥ = omega (arith, none) in absurd no_text
    by_after name named tree rest (u ∷ us) spells = by_kind (kind_of u.text) refl spells
      where
        by_kind : (x : Kind) → kind_of u.text ≡ x → SpellsExpr most_depth (after_equals x u us (before name.line (u ∷ us))).tokens tree rest
            → TakesAssignment (name ∷ u ∷ us) (assigned_to name tree) rest
        by_kind Equals is spells =
            let f : Takes most_depth us tree rest = takes most_depth us tree rest spells in
            record {
              front = one name (one u f.front);
              tokens = ap (λ ts. name ∷ u ∷ ts) f.tokens;
              reads =
                  λ last tail. assignment_read last name (u ∷ f.front.fill tail) (f.front.fill tail) u.line tree tail named
                  (ap (λ x. after_equals x u (f.front.fill tail) (before name.line (u ∷ f.front.fill tail))) is) (f.spells tail);
              spells =
                  λ section t k tail s more. assigned_by section t name u (f.front.fill tail) tail tree s k named is
                  (deeper most_depth _ _ _ (f.spells tail)) more;
            }
        by_kind _ is spells =
            let f : Takes most_depth (u ∷ us) tree rest = takes most_depth (u ∷ us) tree rest spells in
            record {
              front = one name f.front;
              tokens = ap (λ ts. name ∷ ts) f.tokens;
              reads =
                  λ last tail. assignment_read last name (f.front.fill tail) (f.front.fill tail) name.line tree tail named
                  (no_equals name.line most_depth (f.front.fill tail) tree tail (f.spells tail)) (f.spells tail);
              spells =
                  λ section t k tail s more. assigned section t name (f.front.fill tail) tail tree s k named
                  (deeper most_depth _ _ _ (f.spells tail)) more;
            }
