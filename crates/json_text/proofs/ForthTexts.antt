-- What may follow between quotation marks goes where the move by its first symbol leads.
use Rattle.std.proofs.Common.{◌≡◌, ℕ, inl, inr, true, List, [], ◌∷◌, ◌++◌, refl, sym, ◌∙◌, ap, subst, append_assoc, Option, Some, None}
use Rattle.json_text.specs.declared.mode.Tail.{Tail}
use Rattle.json_text.specs.declared.mode.Tail.TheVariants as tail_
use Rattle.json_text.specs.declared.mode.Lead.{Lead}
use Rattle.json_text.specs.declared.mode.Lead.TheVariants as lead_
use Rattle.json_text.specs.declared.mode.Escape.TheVariants as escape_
use Rattle.json_text.specs.declared.mode.Role.{Role}
use Rattle.json_text.specs.declared.mode.Role.TheVariants as role_
use Rattle.json_text.specs.declared.mode.Place.{Place}
use Rattle.json_text.specs.declared.mode.Place.TheVariants as place_
use Rattle.json_text.specs.declared.mode.Mode.TheVariants as mode_
use Rattle.json_text.specs.Marks.{Step, Mark, Given, see}
use Rattle.json_text.specs.Bytes.{Range, Any, FromA0, To9F, From90, To8F, is_in, AreIn, ranges_of, lead_of, escape_of}
use Rattle.json_text.specs.Chars.{Char, Plain, Short, Coded, AreChars, Follow, print_chars, lone, content_of, unit_of, unit_bytes, waits, text_step, close_text}
use Rattle.json_text.specs.Rest.{Kept, holding, Behind, InEscape, RestOfText}
use Rattle.json_text.specs.Machine.{Gives, Stuck, fits_tail, tail_after, mode_behind, tail_move, lead_move, escape_move}
use Rattle.json_text.proofs.Goes.{Goes, reads, gives, Follows, if_true}

-- behind a text between quotation marks
behind_text : (role : Role) (step : Step) (kept : Kept) (rest : List Mark)
    → Behind role kept.room kept.opens rest → Goes (Gives step (mode_behind role) kept) (Given step ∷ rest)
behind_text role_.Name step kept rest b = gives b
behind_text role_.Value step kept rest b = gives b

-- the content so far, moved past what a character adds to it
pub moved : (role : Role) (content added front : List ℕ) (chars : List Char) (w : Option ℕ) (rest : List Mark)
    → see front (print_chars chars (close_text role (content ++ (added ++ content_of w chars)) rest))
    ≡ see front (print_chars chars (close_text role ((content ++ added) ++ content_of w chars) rest))
moved role content added front chars w rest =
    ap (λ x. see front (print_chars chars (close_text role x rest))) (sym (append_assoc content added (content_of w chars)))

-- past what waited, and a byte
pub moved_byte : (role : Role) (content waited : List ℕ) (b : ℕ) (front more : List ℕ) (chars : List Char) (rest : List Mark)
    → see front (print_chars chars (close_text role (content ++ (waited ++ (b ∷ more))) rest))
    ≡ see front (print_chars chars (close_text role (((content ++ waited) ++ (b ∷ [])) ++ more) rest))
moved_byte role content waited b front more chars rest =
    ap (λ x. see front (print_chars chars (close_text role x rest)))
    (sym (append_assoc (content ++ waited) (b ∷ []) more ∙ append_assoc content waited (b ∷ more)))

-- inside a character of several bytes
abbrev pub OnTail : Option Tail → List ℕ → Type 0
OnTail None bytes = bytes ≡ []
OnTail (Some tail) bytes = AreIn (ranges_of tail) bytes

-- the next byte of a character, and those behind it
record TailBytes (tail : Tail) (bytes : List ℕ) : Type 0 where
  byte : ℕ
  more : List ℕ
  same : bytes ≡ byte ∷ more
  fits : fits_tail tail byte ≡ true
  others : OnTail (tail_after tail) more

-- no byte lies in no range
no_more : (bytes : List ℕ) → AreIn [] bytes → bytes ≡ []
no_more [] h = refl
no_more (b ∷ bytes) h = absurd h

-- bytes in ranges begin with one in the first range
first_in : (tail : Tail) (r : Range) (ranges : List Range) → ((b : ℕ) → is_in r b ≡ true → fits_tail tail b ≡ true)
    → ((more : List ℕ) → AreIn ranges more → OnTail (tail_after tail) more) → (bytes : List ℕ) → AreIn (r ∷ ranges) bytes →
    TailBytes tail bytes
first_in tail r ranges f g [] h = absurd h
first_in tail r ranges f g (b ∷ bytes) h = record { byte = b; more = bytes; same = refl; fits = f b h.0; others = g bytes h.1 }

-- the bytes that are to come of a character begin with one that is wanted
tail_bytes : (tail : Tail) (bytes : List ℕ) → AreIn (ranges_of tail) bytes → TailBytes tail bytes
tail_bytes tail_.One bytes h = first_in tail_.One Any [] (λ b f. f) no_more bytes h
tail_bytes tail_.Two bytes h = first_in tail_.Two Any (ranges_of tail_.One) (λ b f. f) (λ more f. f) bytes h
tail_bytes tail_.Three bytes h = first_in tail_.Three Any (ranges_of tail_.Two) (λ b f. f) (λ more f. f) bytes h
tail_bytes tail_.BehindE0 bytes h = first_in tail_.BehindE0 FromA0 (ranges_of tail_.One) (λ b f. f) (λ more f. f) bytes h
tail_bytes tail_.BehindEd bytes h = first_in tail_.BehindEd To9F (ranges_of tail_.One) (λ b f. f) (λ more f. f) bytes h
tail_bytes tail_.BehindF0 bytes h = first_in tail_.BehindF0 From90 (ranges_of tail_.Two) (λ b f. f) (λ more f. f) bytes h
tail_bytes tail_.BehindF4 bytes h = first_in tail_.BehindF4 To8F (ranges_of tail_.Two) (λ b f. f) (λ more f. f) bytes h

module _ (role : Role) (kept : Kept) (chars : List Char) (rest : List Mark) (h : AreChars chars) (k :
    Behind role kept.room kept.opens rest) where
  -- where a character of its own bytes begins
  at_plain : (w : Option ℕ) (lead : Lead) (b : ℕ) (bytes : List ℕ) → Follow lead bytes → Goes (lead_move role w lead kept b)
      (see bytes (print_chars chars (close_text role (kept.content ++ (lone w ++ (b ∷ (bytes ++ content_of None chars)))) rest)))
  at_plain w lead_.Quote b bytes f = absurd f
  at_plain w lead_.Backslash b bytes f = absurd f
  at_plain w lead_.Whole b [] f =
      reads (chars, rest, h, moved_byte role kept.content (lone w) b [] (content_of None chars) chars rest, k)
  at_plain w lead_.Whole b (x ∷ bytes) f = cc
  at_plain w (lead_.Longer tail) b bytes f =
      reads (bytes, chars, rest, f, h, moved_byte role kept.content (lone w) b bytes (bytes ++ content_of None chars) chars rest, k)
  at_plain w lead_.Nothing b bytes f = absurd f

  -- behind a backslash
  at_short : (w : Option ℕ) (b letter : ℕ) → escape_of letter ≡ escape_.Short b → Follows (mode_.Text role (place_.Escape w)) kept
      (see (letter ∷ []) (print_chars chars (close_text role (kept.content ++ content_of w (Short b letter ∷ chars)) rest)))
  at_short w b letter e =
      subst (λ x. Goes (escape_move role w x kept)
      (print_chars chars (close_text role (kept.content ++ content_of w (Short b letter ∷ chars)) rest)))
      (sym e) (reads (chars, rest, h, moved_byte role kept.content (lone w) b [] (content_of None chars) chars rest, k))

  -- behind a byte of a character
  at_tail_byte : (next : Option Tail) (b : ℕ) (more : List ℕ) → OnTail next more →
      Goes (tail_move role next (holding kept (kept.content ++ (b ∷ []))))
      (see more (print_chars chars (close_text role (kept.content ++ (b ∷ (more ++ content_of None chars))) rest)))
  at_tail_byte None b [] t = reads (chars, rest, h, moved role kept.content (b ∷ []) [] chars None rest, k)
  at_tail_byte None b (x ∷ more) t = cc
  at_tail_byte (Some tail) b more t =
      reads (
        more,
        chars,
        rest,
        t,
        h,
        ap (λ x. see more (print_chars chars (close_text role x rest)))
            (sym (append_assoc kept.content (b ∷ []) (more ++ content_of None chars))),
        k,
      )

  -- inside a character of several bytes
  at_tail : (tail : Tail) (bytes : List ℕ) → AreIn (ranges_of tail) bytes → Follows (mode_.Text role (place_.Tail tail)) kept
      (see bytes (print_chars chars (close_text role (kept.content ++ (bytes ++ content_of None chars)) rest)))
  at_tail tail bytes t =
      let s = tail_bytes tail bytes t in
      subst (λ bs. Follows (mode_.Text role (place_.Tail tail)) kept
      (see bs (print_chars chars (close_text role (kept.content ++ (bs ++ content_of None chars)) rest))))
      (sym s.same) (if_true Stuck s.fits (at_tail_byte (tail_after tail) s.byte s.more s.others))

-- where a character begins
at_chars : (role : Role) (w : Option ℕ) (kept : Kept) (chars : List Char) (rest : List Mark)
    → AreChars chars → Behind role kept.room kept.opens rest
    → Follows (mode_.Text role (place_.Chars w)) kept (print_chars chars (close_text role (kept.content ++ content_of w chars) rest))
at_chars role w kept [] rest h k = behind_text role (text_step role (kept.content ++ lone w)) (holding kept []) rest k
at_chars role w kept (Plain [] ∷ chars) rest h k = absurd h.0
at_chars role w kept (Plain (b ∷ bytes) ∷ chars) rest h k = at_plain role kept chars rest h.1 k w (lead_of b) b bytes h.0
at_chars role w kept (Short b letter ∷ chars) rest h k = reads (inl (b, letter, (chars, rest, h.0, h.1, refl, k)))
at_chars role w kept (Coded a b c d ∷ chars) rest h k = reads (inr (a, b, c, d, (chars, rest, h.0, h.1, refl, k)))

-- behind a backslash stands a letter, or a code unit
at_escape : (role : Role) (w : Option ℕ) (kept : Kept) (marks : List Mark)
    → InEscape role kept w marks → Follows (mode_.Text role (place_.Escape w)) kept marks
at_escape role w kept marks (inl (b, letter, (chars, rest, e, h, p, k))) =
    subst (λ m. Follows (mode_.Text role (place_.Escape w)) kept m) (sym p) (at_short role kept chars rest h k w b letter e)
at_escape role w kept marks (inr (a, b, c, d, (chars, rest, e, h, p, k))) =
    subst (λ m. Follows (mode_.Text role (place_.Escape w)) kept m) (sym p)
    (reads (a, b, c, d, (chars, rest, (e.0, (e.1, (e.2, (e.3, tt)))), h, refl, k)))

-- between quotation marks
pub at_place : (role : Role) (place : Place) (kept : Kept) (marks : List Mark)
    → RestOfText role place kept marks → Follows (mode_.Text role place) kept marks
at_place role (place_.Chars w) kept marks (chars, rest, h, p, k) =
    subst (λ m. Follows (mode_.Text role (place_.Chars w)) kept m) (sym p) (at_chars role w kept chars rest h k)
at_place role (place_.Escape w) kept marks e = at_escape role w kept marks e
at_place role (place_.Hex1 w) kept marks (a, b, c, d, (chars, rest, e, h, p, k)) =
    subst (λ m. Follows (mode_.Text role (place_.Hex1 w)) kept m) (sym p)
    (if_true Stuck e.0 (reads (b, c, d, (chars, rest, e.1, h, refl, k))))
at_place role (place_.Hex2 w a) kept marks (b, c, d, (chars, rest, e, h, p, k)) =
    subst (λ m. Follows (mode_.Text role (place_.Hex2 w a)) kept m) (sym p)
    (if_true Stuck e.0 (reads (c, d, (chars, rest, e.1, h, refl, k))))
at_place role (place_.Hex3 w a b) kept marks (c, d, (chars, rest, e, h, p, k)) =
    subst (λ m. Follows (mode_.Text role (place_.Hex3 w a b)) kept m) (sym p)
    (if_true Stuck e.0 (reads (d, (chars, rest, e.1, h, refl, k))))
at_place role (place_.Hex4 w a b c) kept marks (d, (chars, rest, e, h, p, k)) =
    subst (λ m. Follows (mode_.Text role (place_.Hex4 w a b c)) kept m) (sym p)
    (if_true Stuck e.0 (reads (
      chars,
      rest,
      h,
      moved role kept.content (unit_bytes w (unit_of a b c d)) [] chars (waits (unit_of a b c d)) rest,
      k,
    )))
at_place role (place_.Tail tail) kept marks (bytes, chars, rest, t, h, p, k) =
    subst (λ m. Follows (mode_.Text role (place_.Tail tail)) kept m) (sym p) (at_tail role kept chars rest h k tail bytes t)
