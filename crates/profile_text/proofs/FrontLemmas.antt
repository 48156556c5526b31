-- The tokens in front of others, and what they spell whatever follows.
use Rattle.std.proofs.Common.{◌≡◌, ℕ, suc, List, [], ◌∷◌, ◌++◌, refl, sym, ap, ◌∙◌, append_assoc}
use Rattle.profile_text.specs.Grammar.{SpellsExpr, a_number, a_true, a_false, a_name, a_look, a_not, a_two, a_switch, an_if, a_bracket}
use Rattle.profile_text.specs.Token.{Token}
use Rattle.profile_text.specs.Tree.{Tree}

-- tokens that stand in front of others
pub record Front : Type 0 where
  pub tokens : List Token
  pub fill : List Token → List Token
  pub is : (tail : List Token) → fill tail ≡ tokens ++ tail

-- no tokens
abbrev pub nothing : Front
nothing = record { tokens = []; fill = λ tail. tail; is = λ tail. refl }

-- one token before others
abbrev pub one : Token → Front → Front
one t f = record { tokens = t ∷ f.tokens; fill = λ tail. t ∷ f.fill tail; is = λ tail. ap (λ ts. t ∷ ts) (f.is tail) }

-- tokens before others
abbrev pub joined : Front → Front → Front
joined f g = record {
  tokens = f.tokens ++ g.tokens;
  fill = λ tail. f.fill (g.fill tail);
  is = λ tail. f.is (g.fill tail) ∙ ap (λ ts. f.tokens ++ ts) (g.is tail) ∙ sym (append_assoc f.tokens g.tokens tail);
}

-- what is spelled so at a depth is spelled so one deeper
pub deeper : (depth : ℕ) (ts : List Token) (e : Tree) (rest : List Token) → SpellsExpr depth ts e rest → SpellsExpr (suc depth) ts e rest
deeper _ _ _ _ (a_number depth t n rest k) = a_number (suc depth) t n rest k
deeper _ _ _ _ (a_true depth t rest k) = a_true (suc depth) t rest k
deeper _ _ _ _ (a_false depth t rest k) = a_false (suc depth) t rest k
deeper _ _ _ _ (a_name depth t rest k) = a_name (suc depth) t rest k
deeper _ _ _ _ (a_look depth t rest k) = a_look (suc depth) t rest k
deeper _ _ _ _ (a_not depth t ts a rest k x) = a_not (suc depth) t ts a rest k (deeper depth ts a rest x)
deeper _ _ _ _ (a_two depth t op ts us a b rest k x y) =
    a_two (suc depth) t op ts us a b rest k (deeper depth ts a us x) (deeper depth us b rest y)
deeper _ _ _ _ (a_switch depth t ts us vs a b c rest k x y z) =
    a_switch (suc depth) t ts us vs a b c rest k (deeper depth ts a us x) (deeper depth us b vs y) (deeper depth vs c rest z)
deeper _ _ _ _ (an_if depth t u v ts us vs a b c rest k x th y el z) =
    an_if (suc depth) t u v ts us vs a b c rest k (deeper depth ts a (u ∷ us) x) th (deeper depth us b (v ∷ vs) y) el
    (deeper depth vs c rest z)
deeper _ _ _ _ (a_bracket depth t u ts a rest k x cl) = a_bracket (suc depth) t u ts a rest k (deeper depth ts a (u ∷ rest) x) cl

-- the tokens that an expression takes spell it whatever follows
pub record Takes (depth : ℕ) (ts : List Token) (e : Tree) (rest : List Token) : Type 0 where
  pub front : Front
  pub tokens : ts ≡ front.fill rest
  pub spells : (tail : List Token) → SpellsExpr depth (front.fill tail) e tail

-- each expression takes such tokens
pub takes : (depth : ℕ) (ts : List Token) (e : Tree) (rest : List Token) → SpellsExpr depth ts e rest → Takes depth ts e rest
takes _ _ _ _ (a_number depth t n rest k) = record { front = one t nothing; tokens = refl; spells = λ tail. a_number depth t n tail k }
takes _ _ _ _ (a_true depth t rest k) = record { front = one t nothing; tokens = refl; spells = λ tail. a_true depth t tail k }
takes _ _ _ _ (a_false depth t rest k) = record { front = one t nothing; tokens = refl; spells = λ tail. a_false depth t tail k }
takes _ _ _ _ (a_name depth t rest k) = record { front = one t nothing; tokens = refl; spells = λ tail. a_name depth t tail k }
takes _ _ _ _ (a_look depth t rest k) = record { front = one t nothing; tokens = refl; spells = λ tail. a_look depth t tail k }
takes _ _ _ _ (a_not depth t ts a rest k x) =
    let f : Takes depth ts a rest = takes depth ts a rest x in
    record {
      front = one t f.front;
      tokens = ap (λ ts. t ∷ ts) f.tokens;
      spells = λ tail. a_not depth t (f.front.fill tail) a tail k (f.spells tail);
    }
takes _ _ _ _ (a_two depth t op ts us a b rest k x y) =
    let f : Takes depth ts a us = takes depth ts a us x in
    let g : Takes depth us b rest = takes depth us b rest y in
    record {
      front = one t (joined f.front g.front);
      tokens = ap (λ ts. t ∷ ts) (f.tokens ∙ ap f.front.fill g.tokens);
      spells =
          λ tail. a_two depth t op (f.front.fill (g.front.fill tail)) (g.front.fill tail) a b tail k (f.spells (g.front.fill tail))
          (g.spells tail);
    }
takes _ _ _ _ (a_switch depth t ts us vs a b c rest k x y z) =
    let f : Takes depth ts a us = takes depth ts a us x in
    let g : Takes depth us b vs = takes depth us b vs y in
    let h : Takes depth vs c rest = takes depth vs c rest z in
    record {
      front = one t (joined f.front (joined g.front h.front));
      tokens = ap (λ ts. t ∷ ts) (f.tokens ∙ ap f.front.fill (g.tokens ∙ ap g.front.fill h.tokens));
      spells = λ tail.
          a_switch depth t (f.front.fill (g.front.fill (h.front.fill tail))) (g.front.fill (h.front.fill tail))
          (h.front.fill tail) a b c tail k
          (f.spells (g.front.fill (h.front.fill tail))) (g.spells (h.front.fill tail)) (h.spells tail);
    }
takes _ _ _ _ (an_if depth t u v ts us vs a b c rest k x th y el z) =
    let f : Takes depth ts a (u ∷ us) = takes depth ts a (u ∷ us) x in
    let g : Takes depth us b (v ∷ vs) = takes depth us b (v ∷ vs) y in
    let h : Takes depth vs c rest = takes depth vs c rest z in
    record {
      front = one t (joined f.front (one u (joined g.front (one v h.front))));
      tokens = ap (λ ts. t ∷ ts) (f.tokens ∙ ap (λ ts. f.front.fill (u ∷ ts)) (g.tokens ∙ ap (λ ts. g.front.fill (v ∷ ts)) h.tokens));
      spells = λ tail.
          an_if depth t u v (f.front.fill (u ∷ g.front.fill (v ∷ h.front.fill tail))) (g.front.fill (v ∷ h.front.fill tail))
          (h.front.fill tail) a b c tail k
          (f.spells (u ∷ g.front.fill (v ∷ h.front.fill tail))) th (g.spells (v ∷ h.front.fill tail)) el (h.spells tail);
    }
takes _ _ _ _ (a_bracket depth t u ts a rest k x cl) =
    let f : Takes depth ts a (u ∷ rest) = takes depth ts a (u ∷ rest) x in
    record {
      front = one t (joined f.front (one u nothing));
      tokens = ap (λ ts. t ∷ ts) f.tokens;
      spells = λ tail. a_bracket depth t u (f.front.fill (u ∷ tail)) a tail k (f.spells (u ∷ tail)) cl;
    }
