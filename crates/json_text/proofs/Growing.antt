-- What was read of a text, when more of it comes.
use Rattle.std.proofs.Common.{◌≡◌, ℕ, Bool, true, false, List, [], ◌∷◌, ◌++◌, sym, ◌∙◌, ap, subst, append_assoc, if◌then◌else◌}
use mathlib.Core.Bool.{false≢true}
use Rattle.json_text.specs.Marks.{End, Step, Mark, Seen, symbols_of, steps_of, symbols, Begins}
use Rattle.json_text.specs.Reading.{seen, Verdict, More, Whole, BadAt, IsMore, IsWhole, IsBad, IsFrontFor, Reads}
use Rattle.json_text.proofs.Lists.{bytes_append, begins, begins_trans, begins_self, begins_front, symbols_begin, steps_begin}
use Rattle.json_text.proofs.Verdicts.{within, seen_more, goes_begin, bad_behind, unique}

-- what was seen of a longer text
seen_longer : (bytes more : List ℕ) (ended : Bool) →
    seen (bytes ++ more) ended ≡ symbols bytes ++ (symbols more ++ (if ended then End ∷ [] else []))
seen_longer bytes more ended =
    ap (λ z. z ++ (if ended then End ∷ [] else [])) (bytes_append bytes more)
    ∙ append_assoc (symbols bytes) (symbols more) (if ended then End ∷ [] else [])

-- no text goes on where more follows
bad_stays : (bytes more : List ℕ) (ended : Bool) (front : List Mark) → IsBad bytes false front → IsBad (bytes ++ more) ended front
bad_stays bytes more ended front b = record {
  next = b.next;
  others = b.others ++ (symbols more ++ (if ended then End ∷ [] else []));
  same = seen_longer bytes more ended ∙ ap (λ z. z ++ (symbols more ++ (if ended then End ∷ [] else []))) (sym (seen_more bytes) ∙ b.same)
      ∙ append_assoc (symbols_of front) (b.next ∷ b.others) (symbols more ++ (if ended then End ∷ [] else []));
  begins = b.begins;
  longest = b.longest;
  all = b.all;
}

-- what is bad stays bad at the same byte, behind the same steps
pub stays : (bytes more : List ℕ) (ended : Bool) (steps : List Step) (at : ℕ) → Reads bytes false steps (BadAt at) →
    Reads (bytes ++ more) ended steps (BadAt at)
stays bytes more ended steps at r =
    record { front = r.front; given = r.given; fits = (r.fits.0, bad_stays bytes more ended r.front r.fits.1) }

module _ (bytes more : List ℕ) (ended : Bool) (front other : List Mark) (m : IsMore bytes front) where
  -- the front begins each longer text that goes on
  more_more : IsMore (bytes ++ more) other → Begins front other
  more_more c =
      within front other c.goes_on.1 c.goes_on.0
      (m.only (other ++ (Seen c.goes_on.0 ∷ c.goes_on.1)) c.goes_on.2
      (begins_trans (begins (symbols more) (bytes_append bytes more)) (goes_begin (bytes ++ more) other c)))
      (begins (symbols more) (c.same ∙ bytes_append bytes more ∙ ap (λ z. z ++ symbols more) (sym m.same)))

  -- and each that is whole
  more_whole : IsWhole (bytes ++ more) other → Begins front other
  more_whole c = m.only other c.is_text (begins (symbols more ++ (End ∷ [])) (c.same ∙ seen_longer bytes more true))

  -- and each that is at fault
  more_bad : IsBad (bytes ++ more) ended other → Begins front other
  more_bad c =
      bad_behind (bytes ++ more) ended front other (symbols more ++ (if ended then End ∷ [] else [])) c
      (seen_longer bytes more ended ∙ ap (λ z. z ++ (symbols more ++ (if ended then End ∷ [] else []))) (sym m.same))
      (Seen m.goes_on.0 ∷ m.goes_on.1) m.goes_on.2
      (λ y rest e. m.only (other ++ c.begins.0) c.begins.1
      (begins_trans (begins (y ∷ rest) (e ∙ ap (λ z. z ++ (y ∷ rest)) m.same)) (symbols_begin (begins_front other c.begins.0))))

  -- so it begins each front of a longer text
  longer : (v : Verdict) → IsFrontFor (bytes ++ more) ended other v → Begins front other
  longer More (e, c) = more_more c
  longer Whole (e, c) = more_whole c
  longer (BadAt n) (e, c) = more_bad c

-- what was fixed of a text stays fixed
pub grows : (bytes more : List ℕ) (ended : Bool) (steps all : List Step) (verdict last : Verdict)
    → Reads bytes false steps verdict → Reads (bytes ++ more) ended all last → Begins steps all
grows bytes more ended steps all More last r q =
    subst (λ z. Begins z all) r.given (subst (λ z. Begins (steps_of r.front) z) q.given
    (steps_begin (longer bytes more ended r.front q.front r.fits.1 last q.fits)))
grows bytes more ended steps all Whole last r q = absurd (false≢true r.fits.0)
grows bytes more ended steps all (BadAt n) last r q =
    subst (λ z. Begins steps z) (unique (bytes ++ more) ended steps all (BadAt n) last (stays bytes more ended steps n r) q).0
    (begins_self steps)
