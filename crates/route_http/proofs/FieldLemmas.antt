-- What header lines say of a body's length, line by line and digit by digit.
use Rattle.std.proofs.Common.{◌≡◌, ℕ, ◌+◌, ◌*◌, ◌-◌, ◌≤◌, ◌<◌, Bool, true, false, ◌&&◌, ◌||◌, cond, List, [], ◌∷◌, length, drop, get_or, map, add-one, drop-cons, subst, refl, sym, ap, ◌∙◌, arith, Option, Some, None, option_map, if◌then◌else◌, min}
use Rattle.std.specs.Prelude.{◌↔◌, IsTrue, unwrap_or, codes, is_some}
use Rattle.std.proofs.lemmas.Bool.Decides.{same_from_decides}
use Rattle.std.proofs.lemmas.Slice.Eq.{bytes_eq-Decides}
use Rattle.std.specs.Char.{is_ascii_digit, to_ascii_lowercase}
use Rattle.std.specs.List.{filter, list_any}
use Rattle.std.specs.Str.{all_ascii_digits}
use Rattle.fixed_num.specs.Decimal.{digits_after}
use Rattle.route_http.specs.Fields.{same_name, is_named, values_of, number_of, told_length, body_of}
use Rattle.route_http.specs.Told.{told_more}

-- ---- Lines

-- what further lines leave told, where one line more can be told no more soundly
abbrev pub and_on : Option (Option ℕ) → (Option ℕ → Option ℕ) → Option ℕ
and_on None go = None
and_on (Some told) go = go told

-- what is told at last, after further lines
abbrev pub told_after : Option ℕ → List (List ℕ × List ℕ) → Option ℕ
told_after told [] = Some (unwrap_or told 0)
told_after told (h ∷ hs) = and_on (told_more told h) (λ t. told_after t hs)

-- the length that a length so far and further values tell
abbrev pub told_with : Option ℕ → List (List ℕ) → Option ℕ
told_with None values = told_length values
told_with (Some n) [] = Some n
told_with (Some n) (v ∷ values) = None

-- the same, unless a Transfer-Encoding is named
abbrev pub told_unless : Bool → Option ℕ → List (List ℕ) → Option ℕ
told_unless named told values = if named then None else told_with told values

-- a value after no length is the length so far
after_value : (named : Bool) (n : Option ℕ) (v : List ℕ) (values : List (List ℕ)) → number_of v ≡ n
    → and_on (option_map (λ (m : ℕ). Some m) n) (λ t. told_unless named t values) ≡ told_unless named None (v ∷ values)
after_value true None v values is = refl
after_value true (Some n) v values is = refl
after_value false None v [] is = sym is
after_value false None v (w ∷ values) is = refl
after_value false (Some n) v [] is = sym is
after_value false (Some n) v (w ∷ values) is = refl

-- a second value is one too many
second_value : (named : Bool) (n : ℕ) (v : List ℕ) (values : List (List ℕ)) → None ≡ told_unless named (Some n) (v ∷ values)
second_value true n v values = refl
second_value false n v values = refl

-- what a line tells by the tests of its name, after a length so far, where its value is this number
abbrev told_by : (encoding long : Bool) (told number : Option ℕ) → Option (Option ℕ)
told_by encoding long told number =
    if encoding then None else (if long then (if is_some told then None else option_map (λ (m : ℕ). Some m) number) else Some told)

-- one line more, where further lines are known to tell what they do
module _ (any : Bool) (h : List ℕ × List ℕ) (found : List (List ℕ × List ℕ)) (go : Option ℕ → Option ℕ)
    (rest : (t : Option ℕ) → go t ≡ told_unless any t (map (λ (h : List ℕ × List ℕ). h.1) found)) where
  -- by the tests of its name
  line_more : (encoding long : Bool) (told n : Option ℕ) → number_of h.1 ≡ n → and_on (told_by encoding long told n) go
      ≡ told_unless (encoding || any) told (map (λ (h : List ℕ × List ℕ). h.1) (cond long (h ∷ found) found))
  line_more true long told n is = refl
  line_more false true None None is = after_value any None h.1 (map (λ (h : List ℕ × List ℕ). h.1) found) is
  line_more false true None (Some n) is =
      rest (Some n) ∙ after_value any (Some n) h.1 (map (λ (h : List ℕ × List ℕ). h.1) found) is
  line_more false true (Some m) n is = second_value any m h.1 (map (λ (h : List ℕ × List ℕ). h.1) found)
  line_more false false told n is = rest told

-- what is told line by line is what all lines tell together
told_all : (told : Option ℕ) (hs : List (List ℕ × List ℕ))
    → told_after told hs ≡ told_unless (list_any (is_named (codes "transfer-encoding")) hs) told (values_of (codes "content-length") hs)
told_all None [] = refl
told_all (Some n) [] = refl
told_all told (h ∷ hs) =
    line_more (list_any (is_named (codes "transfer-encoding")) hs) h (filter (is_named (codes "content-length")) hs)
    (λ t. told_after t hs) (λ t. told_all t hs)
    (is_named (codes "transfer-encoding") h) (is_named (codes "content-length") h) told (number_of h.1) refl

-- what is told line by line is the body's length
told_is : (hs : List (List ℕ × List ℕ)) → told_after None hs ≡ body_of hs
told_is hs = told_all None hs

-- what the lines from here on leave told is the body's length
pub record TellsOn (all left : List (List ℕ × List ℕ)) (told : Option ℕ) : Type 0 where
  pub same : told_after told left ≡ body_of all

-- at first nothing is told
pub TellsOn-init : (all : List (List ℕ × List ℕ)) → TellsOn all all None
TellsOn-init all = record { same = told_is all }

-- a line is read, and the others are left
pub TellsOn-more : (all left : List (List ℕ × List ℕ)) (h : List ℕ × List ℕ) (told next : Option ℕ) → TellsOn all (h ∷ left) told
    → told_more told h ≡ Some next → TellsOn all left next
TellsOn-more all left h told next tells is =
    record { same = sym (ap (λ r. and_on r (λ t. told_after t left)) is) ∙ tells.same }

-- a line after which nothing can be told soundly
pub TellsOn-none : (all left : List (List ℕ × List ℕ)) (h : List ℕ × List ℕ) (told : Option ℕ) → TellsOn all (h ∷ left) told
    → told_more told h ≡ None → body_of all ≡ None
TellsOn-none all left h told tells is = sym tells.same ∙ ap (λ r. and_on r (λ t. told_after t left)) is

-- at the end it is told
pub TellsOn-done : (all left : List (List ℕ × List ℕ)) (told : Option ℕ) → TellsOn all left told → length left ≡ 0
    → body_of all ≡ Some (unwrap_or told 0)
TellsOn-done all [] told tells none = sym tells.same
TellsOn-done all (h ∷ left) told tells none = absurd (omega arith)

-- ---- Digits

-- a number that is held down at a digit may as well be held down at the end
held_once : (a d : ℕ) → min (10 * min a 18446744073709551615 + d) 18446744073709551615 ≡ min (10 * a + d) 18446744073709551615
held_once a d = omega arith

-- a number that is held down may as well be held down at the end
held : (a : ℕ) (cs : List ℕ) → min (digits_after (min a 18446744073709551615) cs) 18446744073709551615 ≡
    min (digits_after a cs) 18446744073709551615
held a [] = omega arith
held a (c ∷ cs) =
    sym (held (10 * min a 18446744073709551615 + (c - 48)) cs)
    ∙ ap (λ (k : ℕ). min (digits_after k cs) 18446744073709551615) (held_once a (c - 48))
    ∙ held (10 * a + (c - 48)) cs

-- the number that digits spell after a number, held down, where they are digits
abbrev pub number_after : ℕ → List ℕ → Option ℕ
number_after n cs = if all_ascii_digits cs then Some (min (digits_after n cs) 18446744073709551615) else None

-- what the bytes from here on leave of the number is the number of the text
pub record CountsOn (text left : List ℕ) (n : ℕ) : Type 0 where
  pub same : number_after n left ≡ number_after 0 text
  pub fits : n ≤ 18446744073709551615

-- at first the number is 0
pub CountsOn-init : (text : List ℕ) → CountsOn text text 0
CountsOn-init text = record { same = refl; fits = omega arith }

-- a digit is read
pub CountsOn-more : (text left : List ℕ) (c n next : ℕ) → CountsOn text (c ∷ left) n → is_ascii_digit c ≡ true
    → next ≡ min (min (n * 10) 18446744073709551615 + (c - 48)) 18446744073709551615 → CountsOn text left next
CountsOn-more text left c n next counts digit is =
    let same : next ≡ min (10 * n + (c - 48)) 18446744073709551615 = omega arith in
    record {
      same = ap (λ (k : ℕ). number_after k left) same
          ∙ ap (λ (k : ℕ). if all_ascii_digits left then Some k else None) (held (10 * n + (c - 48)) left)
          ∙ sym (ap (λ (t : Bool). if t && all_ascii_digits left then Some (min (digits_after n (c ∷ left)) 18446744073709551615) else None)
          digit)
          ∙ counts.same;
      fits = omega arith;
    }

-- a byte that is no digit
pub CountsOn-none : (text left : List ℕ) (c n : ℕ) → CountsOn text (c ∷ left) n → is_ascii_digit c ≡ false → 0 < length text
    → number_of text ≡ None
unfolding number_of
CountsOn-none [] left c n counts other some = absurd (omega arith)
CountsOn-none (d ∷ ds) left c n counts other some =
    sym counts.same
    ∙ ap (λ (t : Bool). if t && all_ascii_digits left then Some (min (digits_after n (c ∷ left)) 18446744073709551615) else None) other

-- at the end it is the number
pub CountsOn-done : (text left : List ℕ) (n : ℕ) → CountsOn text left n → length left ≡ 0 → 0 < length text → number_of text ≡ Some n
unfolding number_of
CountsOn-done text (c ∷ left) n counts none some = absurd (omega arith)
CountsOn-done [] [] n counts none some = absurd (omega arith)
CountsOn-done (c ∷ cs) [] n counts none some = sym counts.same ∙ ap (λ (k : ℕ). Some k) (let fits = counts.fits in omega arith)

-- a text without bytes is no number
pub no_number : (text : List ℕ) → length text ≡ 0 → number_of text ≡ None
unfolding number_of
no_number [] none = refl
no_number (c ∷ cs) none = absurd (omega arith)

-- ---- As the code goes on

-- the next digit of a text is read
pub CountsOn-step : (text : List ℕ) (i n next : ℕ) → i < length text → CountsOn text (drop i text) n →
    is_ascii_digit (get_or text i 0) ≡ true
    → next ≡ min (min (n * 10) 18446744073709551615 + (get_or text i 0 - 48)) 18446744073709551615 → CountsOn text (drop (i + 1) text) next
CountsOn-step text i n next inside counts digit is =
    let cut : drop i text ≡ get_or text i 0 ∷ drop (i + 1) text = drop-cons text i 0 inside
    ∙ ap (λ k. get_or text i 0 ∷ drop k text) (sym (add-one i)) in
    CountsOn-more text (drop (i + 1) text) (get_or text i 0) n next (subst (λ (l : List ℕ). CountsOn text l n) cut counts) digit is

-- a test that says whether two names are one in small letters is the test of the names
pub named_is : (r : Bool) (a b : List ℕ) → (IsTrue r ↔ (map to_ascii_lowercase a ≡ map to_ascii_lowercase b)) → r ≡ same_name a b
unfolding same_name
named_is r a b tells = same_from_decides r _ (tells.0, tells.1) (bytes_eq-Decides (map to_ascii_lowercase a) (map to_ascii_lowercase b))

-- a number that is put together in three steps
pub next_number : (next times byte t b : ℕ) → next ≡ min (times + byte) 18446744073709551615 → times ≡ t → byte ≡ b
    → next ≡ min (t + b) 18446744073709551615
next_number next times byte t b next_is times_is byte_is =
    next_is ∙ ap (λ (k : ℕ). min (k + byte) 18446744073709551615) times_is ∙ ap (λ (k : ℕ). min (t + k) 18446744073709551615) byte_is
