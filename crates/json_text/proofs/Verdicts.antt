-- What a front says of a text, and that what is read of it is unique.
use Rattle.std.proofs.Common.{◌≡◌, ℕ, inl, inr, Bool, true, false, List, [], ◌∷◌, ◌++◌, length, refl, sym, ◌∙◌, ap, subst, append_assoc}
use mathlib.Core.Bool.{false≢true}
use Rattle.json_text.specs.declared.mode.Mode.{Mode}
use Rattle.json_text.specs.Marks.{Symbol, End, Step, Mark, Seen, Given, symbols_of, steps_of, symbols, Begins}
use Rattle.json_text.specs.Grammar.{IsText}
use Rattle.json_text.specs.Reading.{seen, Verdict, More, Whole, BadAt, IsMore, IsWhole, IsBad, IsFrontFor, Reads, AreFixed}
use Rattle.json_text.specs.Rest.{Kept, IsFrontOf, first_of}
use Rattle.json_text.specs.Machine.{Finishes, Stuck, move_by}
use Rattle.json_text.proofs.Lists.{append_nil, symbols_append, head_of, no_cons, cancel, nothing_more, begins, comparable, begins_trans, begins_more, begins_front, begins_antisym, symbols_begin, steps_begin}
use Rattle.json_text.proofs.Goes.{Goes, finishes, out_stuck, out_finishes}
use Rattle.json_text.proofs.Alive.{alive}
use Rattle.json_text.proofs.Back.{back}
use Rattle.json_text.proofs.Fronts.{on, shown, ReadsFirst, given_free, longer_by, stands}

-- nothing is fixed behind the front
pub more_at : {front : List Mark} {mode : Mode} {kept : Kept} (bytes : List ℕ)
    → IsFrontOf front [] mode kept → symbols_of front ≡ symbols bytes → IsMore bytes front
more_at {front} {mode} {kept} bytes f e =
    let a = alive mode kept in
    record {
      same = e;
      goes_on = (a.symbol, a.rest, f.back (Seen a.symbol ∷ a.rest) a.follows);
      only = λ text t b. f.only text t (subst (λ s. Begins s (symbols_of text)) (sym e ∙ sym (append_nil (symbols_of front))) b);
    }

-- the front is a whole text once its end is seen
pub whole_at : {front : List Mark} {next : List Symbol} {mode : Mode} {kept : Kept} (bytes : List ℕ)
    → IsFrontOf front next mode kept → Begins next (End ∷ []) → symbols_of front ≡ symbols bytes
    → move_by mode kept End ≡ Finishes → IsWhole bytes (front ++ (Seen End ∷ []))
whole_at {front} {next} {mode} {kept} bytes f n s e = record { same = same_at; is_text = text_at; only = only_at }
  where
    same_at : symbols_of (front ++ (Seen End ∷ [])) ≡ seen bytes true
    same_at = symbols_append front (Seen End ∷ []) ∙ ap (λ y. y ++ (End ∷ [])) s

    text_at : IsText (front ++ (Seen End ∷ []))
    text_at = f.back (Seen End ∷ []) (back mode kept (Seen End ∷ []) (subst (λ v. Goes v []) (sym e) finishes))

    only_at : (text : List Mark) → IsText text → symbols_of text ≡ seen bytes true → text ≡ front ++ (Seen End ∷ [])
    only_at text t q =
        let b : Begins (symbols_of front ++ (End ∷ [])) (symbols_of text) =
        begins [] (q ∙ ap (λ y. y ++ (End ∷ [])) (sym s) ∙ sym (append_nil (symbols_of front ++ (End ∷ [])))) in
        let o = on f End n text t b in
        let w = shown mode kept End b.rest o.rest (subst ReadsFirst (sym e) tt) o.follows o.seen in
        o.same ∙ ap (λ r. front ++ r) (w.1 ∙ ap (λ r. Seen End ∷ r) (out_finishes (subst (λ v. Goes v w.0) e w.2)))

module _ {front : List Mark} {next : List Symbol} {mode : Mode} {kept : Kept} (f : IsFrontOf front next mode kept) (x : Symbol) (n :
    Begins next (x ∷ [])) where
  -- no text goes on behind the front
  pub bad_at : (bytes : List ℕ) (ended : Bool) (others : List Symbol) → seen bytes ended ≡ symbols_of front ++ (x ∷ others)
      → move_by mode kept x ≡ Stuck → IsBad bytes ended front
  bad_at bytes ended others s e =
      let a = alive mode kept in
      record {
        next = x;
        others = others;
        same = s;
        begins = (Seen a.symbol ∷ a.rest, f.back (Seen a.symbol ∷ a.rest) a.follows);
        longest =
            longest_at;
        all = all_at;
      }
    where
      longest_at : (text : List Mark) → IsText text → Begins (symbols_of front ++ (x ∷ [])) (symbols_of text) → ⊥
      longest_at text t b =
          let o = on f x n text t b in
          let w = shown mode kept x b.rest o.rest (subst ReadsFirst (sym e) tt) o.follows o.seen in
          out_stuck (subst (λ v. Goes v w.0) e w.2)

      all_at : (other rest : List Mark) → IsText (other ++ rest) → symbols_of other ≡ symbols_of front → Begins other front
      all_at other rest t q = elim (f.kin other rest t q) [
        | inl g ↦ g
        | inr g ↦ elim (longer_by front other g q) [
          | inl h ↦ begins [] (sym h ∙ sym (append_nil other))
          | inr (step, more, h) ↦ absurd (given_free mode kept x step (more ++ rest)
              (stands f x n step more rest (subst (λ r. IsText (r ++ rest)) h t)) e)
        ]
      ]

-- a front within a text that shows a symbol behind another front, at least as long, lies within that front
pub within : (front other rest : List Mark) (x : Symbol) → Begins front (other ++ (Seen x ∷ rest)) →
    Begins (symbols_of front) (symbols_of other) → Begins front other
within front other rest x g s = elim (comparable front g.rest other (Seen x ∷ rest) (sym g.same)) [
  | inl h ↦ h
  | inr h ↦ within_by h.rest h.same
]
  where
    within_by : (m : List Mark) → front ≡ other ++ m → Begins front other
    within_by [] e = begins [] (sym (e ∙ append_nil other) ∙ sym (append_nil front))
    within_by (Seen y ∷ m) e =
        absurd (no_cons (sym (nothing_more (symbols_of other) (y ∷ (symbols_of m ++ s.rest))
        (s.same ∙ ap (λ z. z ++ s.rest) (ap symbols_of e ∙ symbols_append other (Seen y ∷ m))
        ∙ append_assoc (symbols_of other) (y ∷ symbols_of m) s.rest))))
    within_by (Given y ∷ m) e =
        let k : Given y ∷ (m ++ g.rest) ≡ Seen x ∷ rest =
        cancel other (sym (append_assoc other (Given y ∷ m) g.rest) ∙ ap (λ r. r ++ g.rest) (sym e) ∙ sym g.same) in
        absurd (not_seen (head_of k))
      where
        not_seen : Given y ≡ Seen x → ⊥
        not_seen e = cc

-- the longest beginnings of two fronts are one
not_shorter : (bytes : List ℕ) (ended : Bool) (front other : List Mark) (b : IsBad bytes ended front) (c : IsBad bytes ended other) (m :
    List Symbol)
    → symbols_of other ≡ symbols_of front ++ m → symbols_of other ≡ symbols_of front
not_shorter bytes ended front other b c [] e = e ∙ append_nil (symbols_of front)
not_shorter bytes ended front other b c (y ∷ m) e =
    let k : b.next ∷ b.others ≡ (y ∷ m) ++ (c.next ∷ c.others) =
    cancel (symbols_of front) (sym b.same ∙ c.same ∙ ap (λ s. s ++ (c.next ∷ c.others)) e
    ∙ append_assoc (symbols_of front) (y ∷ m) (c.next ∷ c.others)) in
    let g : Begins (symbols_of front ++ (b.next ∷ [])) (symbols_of other) =
    begins m (e ∙ ap (λ z. symbols_of front ++ (z ∷ m)) (sym (head_of k)) ∙ sym (append_assoc (symbols_of front) (b.next ∷ []) m)) in
    absurd (b.longest (other ++ c.begins.0) c.begins.1 (begins_trans g (symbols_begin (begins_front other c.begins.0))))

-- so both beginnings are as long
same_length : (bytes : List ℕ) (ended : Bool) (front other : List Mark) → IsBad bytes ended front → IsBad bytes ended other →
    symbols_of other ≡ symbols_of front
same_length bytes ended front other b c =
    elim (comparable (symbols_of front) (b.next ∷ b.others) (symbols_of other) (c.next ∷ c.others) (sym b.same ∙ c.same)) [
      | inl g ↦ not_shorter bytes ended front other b c g.rest g.same
      | inr g ↦ sym (not_shorter bytes ended other front c b g.rest g.same)
    ]

-- what was seen of a text that goes on
pub seen_more : (bytes : List ℕ) → seen bytes false ≡ symbols bytes
seen_more bytes = append_nil (symbols bytes)

-- the bytes begin a text that goes on from them
pub goes_begin : (bytes : List ℕ) (front : List Mark) (m : IsMore bytes front) →
    Begins (symbols bytes) (symbols_of (front ++ (Seen m.goes_on.0 ∷ m.goes_on.1)))
goes_begin bytes front m =
    begins (m.goes_on.0 ∷ symbols_of m.goes_on.1) (symbols_append front (Seen m.goes_on.0 ∷ m.goes_on.1)
    ∙ ap (λ s. s ++ (m.goes_on.0 ∷ symbols_of m.goes_on.1)) m.same)

-- of two fronts behind which nothing is fixed, one lies within the other
more_within : (bytes : List ℕ) (front other : List Mark) → IsMore bytes front → IsMore bytes other → Begins front other
more_within bytes front other b c =
    within front other c.goes_on.1 c.goes_on.0 (b.only (other ++ (Seen c.goes_on.0 ∷ c.goes_on.1)) c.goes_on.2 (goes_begin bytes other c))
    (begins [] (c.same ∙ sym b.same ∙ sym (append_nil (symbols_of front))))

-- where more may come, no beginning is bad
more_not_bad : (bytes : List ℕ) (front other : List Mark) → IsMore bytes front → IsBad bytes false other → ⊥
more_not_bad bytes front other m b =
    let g : Begins (symbols_of other ++ (b.next ∷ [])) (symbols bytes) =
    begins b.others (sym (seen_more bytes) ∙ b.same ∙ sym (append_assoc (symbols_of other) (b.next ∷ []) b.others)) in
    b.longest (front ++ (Seen m.goes_on.0 ∷ m.goes_on.1)) m.goes_on.2 (begins_trans g (goes_begin bytes front m))

-- where the text is whole, no beginning is bad
whole_not_bad : (bytes : List ℕ) (front other : List Mark) → IsWhole bytes front → IsBad bytes true other → ⊥
whole_not_bad bytes front other w b =
    b.longest front w.is_text (begins b.others (w.same ∙ b.same ∙ sym (append_assoc (symbols_of other) (b.next ∷ []) b.others)))

-- the same front, and the same verdict
same_front : (bytes : List ℕ) (ended : Bool) (front other : List Mark) (v w : Verdict) → IsFrontFor bytes ended front v →
    IsFrontFor bytes ended other w → (front ≡ other) × (v ≡ w)
same_front bytes ended front other More More (e, b) (k, c) =
    (begins_antisym (more_within bytes front other b c) (more_within bytes other front c b), refl)
same_front bytes ended front other More Whole (e, b) (k, c) = absurd (false≢true (sym e ∙ k))
same_front bytes ended front other More (BadAt n) (e, b) (k, c) =
    absurd (more_not_bad bytes front other b (subst (λ t. IsBad bytes t other) e c))
same_front bytes ended front other Whole More (e, b) (k, c) = absurd (false≢true (sym k ∙ e))
same_front bytes ended front other Whole Whole (e, b) (k, c) = (c.only front b.is_text b.same, refl)
same_front bytes ended front other Whole (BadAt n) (e, b) (k, c) =
    absurd (whole_not_bad bytes front other b (subst (λ t. IsBad bytes t other) e c))
same_front bytes ended front other (BadAt n) More (e, b) (k, c) =
    absurd (more_not_bad bytes other front c (subst (λ t. IsBad bytes t front) k b))
same_front bytes ended front other (BadAt n) Whole (e, b) (k, c) =
    absurd (whole_not_bad bytes other front c (subst (λ t. IsBad bytes t front) k b))
same_front bytes ended front other (BadAt n) (BadAt p) (e, b) (k, c) =
    let s = same_length bytes ended front other b c in (
      begins_antisym (c.all front b.begins.0 b.begins.1 (sym s)) (b.all other c.begins.0 c.begins.1 s),
      ap BadAt (sym e ∙ ap length (sym s) ∙ k),
    )

-- one list of steps, and one verdict
pub unique : (bytes : List ℕ) (ended : Bool) (steps others : List Step) (v w : Verdict) → Reads bytes ended steps v →
    Reads bytes ended others w → (steps ≡ others) × (v ≡ w)
unique bytes ended steps others v w b c =
    let s = same_front bytes ended b.front c.front v w b.fits c.fits in
    (sym b.given ∙ ap steps_of s.0 ∙ c.given, s.1)

module _ (bytes : List ℕ) (ended : Bool) (front other : List Mark) (pending : List Symbol) (c : IsBad bytes ended other) (s :
    seen bytes ended ≡ symbols_of front ++ pending)
    (rest : List Mark) (t : IsText (front ++ rest)) (only : (y : Symbol) (m : List Symbol) →
    symbols_of other ≡ symbols_of front ++ (y ∷ m) → Begins front (other ++ c.begins.0)) where
  -- the front of a fault that has more symbols begins with a front
  longer : (m : List Symbol) → symbols_of other ≡ symbols_of front ++ m → Begins front other
  longer [] e = c.all front rest t (sym (e ∙ append_nil (symbols_of front)))
  longer (y ∷ m) e =
      let g = only y m e in
      elim (comparable front g.rest other c.begins.0 (sym g.same)) [
        | inl h ↦ h
        | inr h ↦ absurd (no_cons (sym (nothing_more (symbols_of front) (y ∷ (m ++ symbols_of h.rest))
            (ap symbols_of h.same ∙ symbols_append other h.rest ∙ ap (λ z. z ++ symbols_of h.rest) e
            ∙ append_assoc (symbols_of front) (y ∷ m) (symbols_of h.rest)))))
      ]

  -- it has no fewer
  shorter : (m : List Symbol) → symbols_of front ≡ symbols_of other ++ m → Begins front other
  shorter [] e = c.all front rest t (e ∙ append_nil (symbols_of other))
  shorter (y ∷ m) e =
      let p : c.next ∷ c.others ≡ y ∷ (m ++ pending) =
      cancel (symbols_of other) (sym c.same ∙ s ∙ ap (λ z. z ++ pending) e ∙ append_assoc (symbols_of other) (y ∷ m) pending) in
      let g : Begins (symbols_of other ++ (c.next ∷ [])) (symbols_of front) =
      begins m (e ∙ ap (λ z. symbols_of other ++ (z ∷ m)) (sym (head_of p)) ∙ sym (append_assoc (symbols_of other) (c.next ∷ []) m)) in
      absurd (c.longest (front ++ rest) t (begins_trans g (symbols_begin (begins_front front rest))))

  -- a front that texts with more symbols begin with begins the front of a fault
  pub bad_behind : Begins front other
  bad_behind = elim (comparable (symbols_of front) pending (symbols_of other) (c.next ∷ c.others) (sym s ∙ c.same)) [
    | inl g ↦ longer g.rest g.same
    | inr g ↦ shorter g.rest g.same
  ]

-- the first symbol begins what it is the first of
first_begins : (pending : List Symbol) → Begins (first_of pending) pending
first_begins [] = begins [] refl
first_begins (x ∷ others) = begins others refl

module _ {front : List Mark} {mode : Mode} {kept : Kept} (pending : List Symbol) (bytes : List ℕ) (ended : Bool)
    (f : IsFrontOf front (first_of pending) mode kept) (s : seen bytes ended ≡ symbols_of front ++ pending) where
  -- the front and its next symbol were seen
  next_seen : Begins (symbols_of front ++ first_of pending) (seen bytes ended)
  next_seen = subst (λ z. Begins (symbols_of front ++ first_of pending) z) (sym s) (begins_more (symbols_of front) (first_begins pending))

  -- the front begins that of a fault
  before_bad : (other : List Mark) → IsBad bytes ended other → Begins front other
  before_bad other c =
      let a = alive mode kept in
      bad_behind bytes ended front other pending c s (Seen a.symbol ∷ a.rest) (f.back (Seen a.symbol ∷ a.rest) a.follows) longer
    where
      longer : (y : Symbol) (m : List Symbol) → symbols_of other ≡ symbols_of front ++ (y ∷ m) → Begins front (other ++ c.begins.0)
      longer y m e =
          let p : pending ≡ y ∷ (m ++ (c.next ∷ c.others)) =
          cancel (symbols_of front) (sym s ∙ c.same ∙ ap (λ z. z ++ (c.next ∷ c.others)) e
          ∙ append_assoc (symbols_of front) (y ∷ m) (c.next ∷ c.others)) in
          let n : Begins (symbols_of front ++ first_of pending) (symbols_of other) =
          begins m (e ∙ sym (append_assoc (symbols_of front) (y ∷ []) m) ∙ ap (λ z. (symbols_of front ++ first_of z) ++ m) (sym p)) in
          f.only (other ++ c.begins.0) c.begins.1 (begins_trans n (symbols_begin (begins_front other c.begins.0)))

  -- and that of a text that may go on
  before_more : (other : List Mark) → ended ≡ false → IsMore bytes other → Begins front other
  before_more other e c =
      let q : symbols bytes ≡ symbols_of front ++ pending = sym (seen_more bytes) ∙ ap (λ t. seen bytes t) (sym e) ∙ s in
      let n : Begins (symbols_of front ++ first_of pending) (symbols bytes) =
      subst (λ z. Begins (symbols_of front ++ first_of pending) z) (sym q) (begins_more (symbols_of front) (first_begins pending)) in
      within front other c.goes_on.1 c.goes_on.0
      (f.only (other ++ (Seen c.goes_on.0 ∷ c.goes_on.1)) c.goes_on.2 (begins_trans n (goes_begin bytes other c)))
      (begins pending (c.same ∙ q))

  -- and that of a whole text
  before_whole : (other : List Mark) → ended ≡ true → IsWhole bytes other → Begins front other
  before_whole other e c =
      f.only other c.is_text (subst (λ z. Begins (symbols_of front ++ first_of pending) z) (ap (λ t. seen bytes t) e
      ∙ sym c.same) next_seen)

  -- so it begins each front of a reading
  before : (other : List Mark) (v : Verdict) → IsFrontFor bytes ended other v → Begins front other
  before other More (e, c) = before_more other e c
  before other Whole (e, c) = before_whole other e c
  before other (BadAt n) (e, c) = before_bad other c

  -- so its steps are fixed
  pub fixed : AreFixed bytes ended (steps_of front)
  fixed all v r = subst (λ z. Begins (steps_of front) z) r.given (steps_begin (before r.front v r.fits))
