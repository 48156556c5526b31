-- A front grows with each move.
use Rattle.std.proofs.Common.{◌≡◌, ℕ, ◌⊎◌, inl, inr, List, [], ◌∷◌, ◌++◌, refl, sym, ◌∙◌, ap, subst, append_assoc}
use Rattle.json_text.specs.declared.mode.Bracket.{Bracket}
use Rattle.json_text.specs.declared.mode.Mode.{Mode}
use Rattle.json_text.specs.declared.mode.Mode.TheVariants as mode_
use Rattle.json_text.specs.Marks.{Symbol, End, Step, Mark, Seen, Given, symbols_of, see, Begins}
use Rattle.json_text.specs.Grammar.{IsText, print_value}
use Rattle.json_text.specs.Rest.{Kept, keeping, holding, Rest, After, IsFrontOf}
use Rattle.json_text.specs.Machine.{Move, Reads, Gives, GivesFirst, Stuck, move_by}
use Rattle.json_text.proofs.Lists.{append_nil, symbols_append, head_of, tail_of, no_cons, cancel, begins, comparable, begins_trans, begins_more, begins_front}
use Rattle.json_text.proofs.Goes.{Goes, reads, gives, Ends, Follows, out_reads, out_gives, out_first}
use Rattle.json_text.proofs.Forth.{forth}
use Rattle.json_text.proofs.Back.{back}
use Rattle.json_text.proofs.Stops.{number_stops, number_free, Ended, FirstSays, first_says}

-- the marks before any symbol
pub empty_front : IsFrontOf [] [] mode_.Value (keeping 64 [] [])
empty_front = record {
  forth = λ rest t. (t.before, t.value, see t.behind (Seen End ∷ []), t.before_is, t.value_is, t.printed, (t.behind, t.behind_is, refl));
  back = λ rest r. text_of rest r;
  only = λ text t b. begins text refl;
  kin = λ other rest t e. inr (begins other refl);
}
  where
    text_of : (rest : List Mark) → Rest mode_.Value (keeping 64 [] []) rest → IsText rest
    text_of rest (before, value, middle, h, v, p, (behind, k, q)) = record {
      before = before;
      value = value;
      behind = behind;
      before_is = h;
      value_is = v;
      behind_is = k;
      printed = p ∙ ap (λ m. see before (print_value value m)) q;
    }

-- the marks that follow a front in a text, which begin with this symbol
pub record GoesOn (front : List Mark) (x : Symbol) (more : List Symbol) (mode : Mode) (kept : Kept) (text : List Mark) : Type 0 where
  pub rest : List Mark
  pub same : text ≡ front ++ rest
  pub follows : Follows mode kept rest
  pub seen : symbols_of rest ≡ x ∷ more

module _ {front : List Mark} {next : List Symbol} {mode : Mode} {kept : Kept} (f : IsFrontOf front next mode kept) where
  -- how a text goes on behind the front
  pub on : (x : Symbol) → Begins next (x ∷ []) → (text : List Mark) → IsText text →
      (b : Begins (symbols_of front ++ (x ∷ [])) (symbols_of text))
      → GoesOn front x b.rest mode kept text
  on x n text t b = on_at (f.only text t (begins_trans (begins_more (symbols_of front) n) b))
    where
      on_at : Begins front text → GoesOn front x b.rest mode kept text
      on_at g = record {
        rest = g.rest;
        same = g.same;
        follows = forth mode kept g.rest (f.forth g.rest (subst IsText g.same t));
        seen = cancel (symbols_of front) (sym (symbols_append front g.rest) ∙ sym (ap symbols_of g.same) ∙ b.same
            ∙ append_assoc (symbols_of front) (x ∷ []) b.rest);
      }

-- a step that stands first is that of a number, and the symbol behind it ends the number
given_after : (room : ℕ) (opens : List Bracket) (x : Symbol) (more : List Symbol) (rest : List Mark)
    → After room opens rest → symbols_of rest ≡ x ∷ more → (others : List Mark) × After room opens (Seen x ∷ others)
given_after room opens x more rest a s = split rest a (forth mode_.After (keeping room opens []) rest a) s
  where
    split : (rest : List Mark) → After room opens rest → Follows mode_.After (keeping room opens []) rest → symbols_of rest ≡ x ∷ more →
        (others : List Mark) × After room opens (Seen x ∷ others)
    split [] a f s = absurd f
    split (Seen y ∷ others) a f s = (others, subst (λ z. After room opens (Seen z ∷ others)) (head_of s) a)
    split (Given step ∷ others) a f s = absurd f

-- so the move by that symbol gives the step first
pub given_first : (mode : Mode) (kept : Kept) (x : Symbol) (more : List Symbol) (step : Step) (rest : List Mark)
    → Ends mode kept step rest → symbols_of rest ≡ x ∷ more → move_by mode kept x ≡ GivesFirst step mode_.After (holding kept [])
given_first (mode_.Number part) kept x more step rest (m, e, a) s =
    let r = given_after kept.room kept.opens x more rest a s in
    number_stops part kept x r.0 m r.1 ∙ ap (λ y. GivesFirst y mode_.After (holding kept [])) (sym e)
given_first _ kept x more step rest h s = absurd h

-- where a step stands first, no move is stuck
pub given_free : (mode : Mode) (kept : Kept) (x : Symbol) (step : Step) (rest : List Mark)
    → Ends mode kept step rest → move_by mode kept x ≡ Stuck → ⊥
given_free (mode_.Number part) kept x step rest (m, e, a) s = number_free part kept x m s
given_free _ kept x step rest h s = absurd h

-- a move that gives no step first
abbrev pub ReadsFirst : Move → Type 0
ReadsFirst (GivesFirst step mode kept) = ⊥
ReadsFirst _ = Unit {0}

-- behind a front whose move reads, a text that has the next symbol shows it first
pub shown : (mode : Mode) (kept : Kept) (x : Symbol) (more : List Symbol) (rest : List Mark)
    → ReadsFirst (move_by mode kept x) → Follows mode kept rest → symbols_of rest ≡ x ∷ more
    → (others : List Mark) × (rest ≡ Seen x ∷ others) × Goes (move_by mode kept x) others
shown mode kept x more [] n f s = absurd (no_cons s)
shown mode kept x more (Seen y ∷ others) n f s =
    (others, ap (λ z. Seen z ∷ others) (head_of s), subst (λ z. Goes (move_by mode kept z) others) (head_of s) f)
shown mode kept x more (Given step ∷ others) n f s =
    absurd (subst ReadsFirst (given_first mode kept x more step others f s) n)

-- marks that each text with their symbols begins with have kin alone
kin_of : (front : List Mark) → ((text : List Mark) → IsText text → Begins (symbols_of front ++ []) (symbols_of text) → Begins front text)
    → (other rest : List Mark) → IsText (other ++ rest) → symbols_of other ≡ symbols_of front → Begins other front ⊎ Begins front other
kin_of front only other rest t e =
    let b : Begins (symbols_of front ++ []) (symbols_of (other ++ rest)) =
    begins (symbols_of rest) (symbols_append other rest ∙ ap (λ s. s ++ symbols_of rest) (e ∙ sym (append_nil (symbols_of front)))) in
    let g = only (other ++ rest) t b in
    comparable other rest front g.rest g.same

module _ {front : List Mark} {next : List Symbol} {mode : Mode} {kept : Kept} (f : IsFrontOf front next mode kept)
    (x : Symbol) (n : Begins next (x ∷ [])) where
  -- with one more symbol, a text that begins so
  with_next : (added : List Mark) → symbols_of added ≡ x ∷ [] → (text : List Mark)
      → Begins (symbols_of (front ++ added) ++ []) (symbols_of text) → Begins (symbols_of front ++ (x ∷ [])) (symbols_of text)
  with_next added e text b =
      subst (λ s. Begins s (symbols_of text)) (append_nil (symbols_of (front ++ added)) ∙ symbols_append front added
      ∙ ap (λ s. symbols_of front ++ s) e) b

  -- a move that reads
  pub reads_on : (to : Mode) (kept_to : Kept)
      → move_by mode kept x ≡ Reads to kept_to → IsFrontOf (front ++ (Seen x ∷ [])) [] to kept_to
  reads_on to kept_to e = record { forth = forth_to; back = back_to; only = only_to; kin = kin_of (front ++ (Seen x ∷ [])) only_to }
    where
      forth_to : (rest : List Mark) → IsText ((front ++ (Seen x ∷ [])) ++ rest) → Rest to kept_to rest
      forth_to rest t =
          let g : Goes (move_by mode kept x) rest =
          forth mode kept (Seen x ∷ rest) (f.forth (Seen x ∷ rest) (subst IsText (append_assoc front (Seen x ∷ []) rest) t)) in
          out_reads (subst (λ v. Goes v rest) e g)

      back_to : (rest : List Mark) → Rest to kept_to rest → IsText ((front ++ (Seen x ∷ [])) ++ rest)
      back_to rest r =
          let g : Goes (move_by mode kept x) rest = subst (λ v. Goes v rest) (sym e) (reads r) in
          subst IsText (sym (append_assoc front (Seen x ∷ []) rest)) (f.back (Seen x ∷ rest) (back mode kept (Seen x ∷ rest) g))

      only_to : (text : List Mark) → IsText text → Begins (symbols_of (front ++ (Seen x ∷ [])) ++ []) (symbols_of text) →
          Begins (front ++ (Seen x ∷ [])) text
      only_to text t b =
          let c = with_next (Seen x ∷ []) refl text b in
          let o = on f x n text t c in
          let s = shown mode kept x c.rest o.rest (subst ReadsFirst (sym e) tt) o.follows o.seen in
          begins s.0 (o.same ∙ ap (λ r. front ++ r) s.1 ∙ sym (append_assoc front (Seen x ∷ []) s.0))

  -- a move that reads and gives a step
  pub gives_on : (step : Step) (to : Mode) (kept_to : Kept)
      → move_by mode kept x ≡ Gives step to kept_to → IsFrontOf (front ++ (Seen x ∷ Given step ∷ [])) [] to kept_to
  gives_on step to kept_to e = record {
    forth = forth_to;
    back = back_to;
    only = only_to;
    kin =
        kin_of (front ++ (Seen x ∷ Given step ∷ [])) only_to;
  }
    where
      forth_to : (rest : List Mark) → IsText ((front ++ (Seen x ∷ Given step ∷ [])) ++ rest) → Rest to kept_to rest
      forth_to rest t =
          let g : Goes (move_by mode kept x) (Given step ∷ rest) =
          forth mode kept (Seen x ∷ Given step ∷ rest)
          (f.forth (Seen x ∷ Given step ∷ rest) (subst IsText (append_assoc front (Seen x ∷ Given step ∷ []) rest) t)) in
          let o = out_gives (subst (λ v. Goes v (Given step ∷ rest)) e g) in
          subst (λ r. Rest to kept_to r) (sym (tail_of o.1)) o.2

      back_to : (rest : List Mark) → Rest to kept_to rest → IsText ((front ++ (Seen x ∷ Given step ∷ [])) ++ rest)
      back_to rest r =
          let g : Goes (move_by mode kept x) (Given step ∷ rest) = subst (λ v. Goes v (Given step ∷ rest)) (sym e) (gives r) in
          subst IsText (sym (append_assoc front (Seen x ∷ Given step ∷ []) rest))
          (f.back (Seen x ∷ Given step ∷ rest) (back mode kept (Seen x ∷ Given step ∷ rest) g))

      only_to : (text : List Mark) → IsText text → Begins (symbols_of (front ++ (Seen x ∷ Given step ∷ [])) ++ []) (symbols_of text) →
          Begins (front ++ (Seen x ∷ Given step ∷ [])) text
      only_to text t b =
          let c = with_next (Seen x ∷ Given step ∷ []) refl text b in
          let o = on f x n text t c in
          let s = shown mode kept x c.rest o.rest (subst ReadsFirst (sym e) tt) o.follows o.seen in
          let g = out_gives (subst (λ v. Goes v s.0) e s.2) in
          begins g.0 (o.same ∙ ap (λ r. front ++ r) (s.1 ∙ ap (λ r. Seen x ∷ r) g.1)
          ∙ sym (append_assoc front (Seen x ∷ Given step ∷ []) g.0))

-- marks with no symbol begin with a step, or are none
no_symbols : (marks : List Mark) → symbols_of marks ≡ [] →
    (marks ≡ []) ⊎ ((step : Step) × (others : List Mark) × (marks ≡ Given step ∷ others))
no_symbols [] e = inl refl
no_symbols (Seen x ∷ marks) e = absurd (no_cons (sym e))
no_symbols (Given step ∷ marks) e = inr (step, marks, refl)

-- a front as long as another by symbols has a step more, or is the same
pub longer_by : (front other : List Mark) (g : Begins front other) → symbols_of other ≡ symbols_of front →
    (other ≡ front) ⊎ ((step : Step) × (others : List Mark) × (other ≡ front ++ (Given step ∷ others)))
longer_by front other g e = elim (no_symbols g.rest none) [
  | inl h ↦ inl (g.same ∙ ap (λ r. front ++ r) h ∙ append_nil front)
  | inr (step, others, h) ↦ inr (step, others, g.same ∙ ap (λ r. front ++ r) h)
]
  where
    none : symbols_of g.rest ≡ []
    none = cancel (symbols_of front) (sym (symbols_append front g.rest) ∙ sym (ap symbols_of g.same) ∙ e
        ∙ sym (append_nil (symbols_of front)))

module _ {front : List Mark} {next : List Symbol} {mode : Mode} {kept : Kept} (f : IsFrontOf front next mode kept)
    (x : Symbol) (n : Begins next (x ∷ [])) where
  -- the steps that may stand behind the front
  pub stands : (step : Step) (others rest : List Mark) → IsText ((front ++ (Given step ∷ others)) ++ rest) →
      Ends mode kept step (others ++ rest)
  stands step others rest t =
      forth mode kept (Given step ∷ (others ++ rest))
      (f.forth (Given step ∷ (others ++ rest)) (subst IsText (append_assoc front (Given step ∷ others) rest) t))

  -- a move that gives a step without reading
  pub first_on : (step : Step) (to : Mode) (kept_to : Kept)
      → move_by mode kept x ≡ GivesFirst step to kept_to → IsFrontOf (front ++ (Given step ∷ [])) (x ∷ []) to kept_to
  first_on step to kept_to e = first_by (subst (FirstSays mode kept) e (first_says mode kept x))
    where
      first_by : Ended mode kept step to kept_to → IsFrontOf (front ++ (Given step ∷ [])) (x ∷ []) to kept_to
      first_by d = record { forth = forth_to; back = back_to; only = only_to; kin = kin_to }
        where
          here : (rest : List Mark) → Ends mode kept step rest → Ends (mode_.Number d.part) kept step rest
          here rest h = subst (λ m. Ends m kept step rest) d.is_number h

          there : (rest : List Mark) → Ends (mode_.Number d.part) kept step rest → Ends mode kept step rest
          there rest h = subst (λ m. Ends m kept step rest) (sym d.is_number) h

          arrives : (rest : List Mark) → After kept.room kept.opens rest → Rest to kept_to rest
          arrives rest a =
              subst (λ m. Rest m kept_to rest) (sym d.mode_is)
              (subst (λ z. After z.room z.opens rest) (sym d.kept_is) a)

          left : (rest : List Mark) → Rest to kept_to rest → After kept.room kept.opens rest
          left rest r =
              subst (λ z. After z.room z.opens rest) d.kept_is (subst (λ m. Rest m kept_to rest) d.mode_is r)

          forth_to : (rest : List Mark) → IsText ((front ++ (Given step ∷ [])) ++ rest) → Rest to kept_to rest
          forth_to rest t = arrives rest (here rest (stands step [] rest t)).2

          back_to : (rest : List Mark) → Rest to kept_to rest → IsText ((front ++ (Given step ∷ [])) ++ rest)
          back_to rest r =
              subst IsText (sym (append_assoc front (Given step ∷ []) rest))
              (f.back (Given step ∷ rest) (back mode kept (Given step ∷ rest) (there rest (d.ends, d.step_is, left rest r))))

          step_same : (other : Step) (rest : List Mark) → Ends mode kept other rest → other ≡ step
          step_same other rest h = (subst (λ m. Ends m kept other rest) d.is_number h).1 ∙ sym d.step_is

          only_rest : (rest : List Mark) (more : List Symbol) → Follows mode kept rest → symbols_of rest ≡ x ∷ more →
              (others : List Mark) × (rest ≡ Given step ∷ others)
          only_rest [] more h s = absurd h
          only_rest (Seen y ∷ others) more h s =
              absurd (out_first (subst (λ v. Goes v others) e (subst (λ z. Goes (move_by mode kept z) others) (head_of s) h)))
          only_rest (Given other ∷ others) more h s = (others, ap (λ z. Given z ∷ others) (step_same other others h))

          only_to : (text : List Mark) → IsText text → Begins (symbols_of (front ++ (Given step ∷ [])) ++ (x ∷ [])) (symbols_of text) →
              Begins (front ++ (Given step ∷ [])) text
          only_to text t b =
              let c : Begins (symbols_of front ++ (x ∷ [])) (symbols_of text) =
              subst (λ s. Begins (s ++ (x ∷ [])) (symbols_of text)) (symbols_append front (Given step ∷ [])
              ∙ append_nil (symbols_of front)) b in
              let o = on f x n text t c in
              let s = only_rest o.rest c.rest o.follows o.seen in
              begins s.0 (o.same ∙ ap (λ r. front ++ r) s.1 ∙ sym (append_assoc front (Given step ∷ []) s.0))

          kin_to : (other rest : List Mark) → IsText (other ++ rest) → symbols_of other ≡ symbols_of (front ++ (Given step ∷ [])) →
              Begins other (front ++ (Given step ∷ [])) ⊎ Begins (front ++ (Given step ∷ [])) other
          kin_to other rest t s = elim (f.kin other rest t same) [
            | inl g ↦ inl (begins_trans g (begins_front front (Given step ∷ [])))
            | inr g ↦ elim (longer_by front other g same) [
              | inl h ↦ inl (begins (Given step ∷ []) (ap (λ r. r ++ (Given step ∷ [])) (sym h)))
              | inr (y, others, h) ↦ inr (begins others (h
                  ∙ ap (λ z. front ++ (Given z ∷ others))
                  (step_same y (others ++ rest) (stands y others rest (subst (λ r. IsText (r ++ rest)) h t)))
                  ∙ sym (append_assoc front (Given step ∷ []) others)))
            ]
          ]
            where
              same : symbols_of other ≡ symbols_of front
              same = s ∙ symbols_append front (Given step ∷ []) ∙ append_nil (symbols_of front)
