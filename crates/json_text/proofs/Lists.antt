-- Laws of beginnings, and of the symbols and steps among marks.
use Rattle.std.proofs.Common.{◌≡◌, ℕ, suc, length, ◌⊎◌, inl, inr, List, [], ◌∷◌, ◌++◌, refl, sym, ◌∙◌, ap, append_assoc}
use Rattle.json_text.specs.Marks.{Byte, Mark, Seen, Given, symbols_of, steps_of, symbols, Begins}

-- nothing behind a list changes nothing
pub append_nil : {A : Type 0} (xs : List A) → xs ++ [] ≡ xs
append_nil [] = refl
append_nil (x ∷ xs) = ap (λ ys. x ∷ ys) (append_nil xs)

-- the symbols of marks one behind the other
pub symbols_append : (a b : List Mark) → symbols_of (a ++ b) ≡ symbols_of a ++ symbols_of b
symbols_append [] b = refl
symbols_append (Seen x ∷ a) b = ap (λ ys. x ∷ ys) (symbols_append a b)
symbols_append (Given s ∷ a) b = symbols_append a b

-- the steps of marks one behind the other
pub steps_append : (a b : List Mark) → steps_of (a ++ b) ≡ steps_of a ++ steps_of b
steps_append [] b = refl
steps_append (Seen x ∷ a) b = steps_append a b
steps_append (Given s ∷ a) b = ap (λ ys. s ∷ ys) (steps_append a b)

-- the symbols of bytes one behind the other
pub bytes_append : (a b : List ℕ) → symbols (a ++ b) ≡ symbols a ++ symbols b
bytes_append [] b = refl
bytes_append (x ∷ a) b = ap (λ ys. Byte x ∷ ys) (bytes_append a b)

-- two lists that are equal have equal heads and tails
tail_same : {A : Type 0} {x y : A} {xs ys : List A} → x ∷ xs ≡ y ∷ ys → (x ≡ y) × (xs ≡ ys)
tail_same {A} {x} {y} {xs} {ys} e = (cc, cc)

-- their heads are equal
pub head_of : {A : Type 0} {x y : A} {xs ys : List A} → x ∷ xs ≡ y ∷ ys → x ≡ y
head_of e = (tail_same e).0

-- their tails are equal
pub tail_of : {A : Type 0} {x y : A} {xs ys : List A} → x ∷ xs ≡ y ∷ ys → xs ≡ ys
tail_of e = (tail_same e).1

-- a list with a head is not empty
pub no_cons : {A : Type 0} {x : A} {xs : List A} → [] ≡ x ∷ xs → ⊥
no_cons e = cc

-- what follows the same front in equal lists is equal
pub cancel : {A : Type 0} (a : List A) {b c : List A} → a ++ b ≡ a ++ c → b ≡ c
cancel [] e = e
cancel (x ∷ a) e = cancel a (tail_of e)

-- a beginning, by what follows it
pub begins : {A : Type 0} {front whole : List A} (rest : List A) → whole ≡ front ++ rest → Begins front whole
begins rest e = record { rest = rest; same = e }

-- two beginnings of one list
pub comparable : {A : Type 0} (a b c d : List A) → a ++ b ≡ c ++ d → Begins a c ⊎ Begins c a
comparable [] b c d e = inl (begins c refl)
comparable (x ∷ a) b [] d e = inr (begins (x ∷ a) refl)
comparable (x ∷ a) b (y ∷ c) d e = elim (comparable a b c d (tail_of e)) [
  | inl f ↦ inl (begins f.rest (ap (λ ys. y ∷ ys) f.same ∙ ap (λ z. z ∷ (a ++ f.rest)) (sym (head_of e))))
  | inr f ↦ inr (begins f.rest (ap (λ ys. x ∷ ys) f.same ∙ ap (λ z. z ∷ (c ++ f.rest)) (head_of e)))
]

-- the beginning of a beginning
pub begins_trans : {A : Type 0} {a b c : List A} → Begins a b → Begins b c → Begins a c
begins_trans {A} {a} f g = begins (f.rest ++ g.rest) (g.same ∙ ap (λ x. x ++ g.rest) f.same ∙ append_assoc a f.rest g.rest)

-- each list begins itself
pub begins_self : {A : Type 0} (a : List A) → Begins a a
begins_self a = begins [] (sym (append_nil a))

-- what follows a list in itself is nothing
pub nothing_more : {A : Type 0} (a m : List A) → a ≡ a ++ m → m ≡ []
nothing_more a m e = sym (cancel a (append_nil a ∙ e))

-- the front of an empty list is empty
front_nil : {A : Type 0} (m n : List A) → m ++ n ≡ [] → m ≡ []
front_nil [] n e = refl
front_nil (x ∷ m) n e = absurd (no_cons (sym e))

-- two lists that begin each other are equal
pub begins_antisym : {A : Type 0} {a b : List A} → Begins a b → Begins b a → a ≡ b
begins_antisym {A} {a} {b} f g =
    let none : f.rest ++ g.rest ≡ [] =
    nothing_more a (f.rest ++ g.rest) (g.same ∙ ap (λ x. x ++ g.rest) f.same ∙ append_assoc a f.rest g.rest) in
    let left : f.rest ≡ [] = front_nil f.rest g.rest none in
    sym (f.same ∙ ap (λ x. a ++ x) left ∙ append_nil a)

-- the symbols and the steps of a beginning
pub symbols_begin : {a b : List Mark} → Begins a b → Begins (symbols_of a) (symbols_of b)
symbols_begin {a} f = begins (symbols_of f.rest) (ap symbols_of f.same ∙ symbols_append a f.rest)

-- the steps of a beginning
pub steps_begin : {a b : List Mark} → Begins a b → Begins (steps_of a) (steps_of b)
steps_begin {a} f = begins (steps_of f.rest) (ap steps_of f.same ∙ steps_append a f.rest)

-- one of two texts with the same first part begins with more
pub begins_more : {A : Type 0} (a : List A) {b c : List A} → Begins b c → Begins (a ++ b) (a ++ c)
begins_more a {b} f = begins f.rest (ap (λ x. a ++ x) f.same ∙ sym (append_assoc a b f.rest))

-- a front begins what it is the front of
pub begins_front : {A : Type 0} (a b : List A) → Begins a (a ++ b)
begins_front a b = begins b refl

-- bytes have as many symbols
pub length_symbols : (bytes : List ℕ) → length (symbols bytes) ≡ length bytes
length_symbols [] = refl
length_symbols (b ∷ bytes) = ap suc (length_symbols bytes)
