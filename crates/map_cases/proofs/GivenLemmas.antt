-- Facts of one link more.
use Rattle.std.proofs.Common.{◌+◌, ◌<◌, ◌^◌, Bool, true, false, cond, List, [], ◌∷◌, ◌++◌, length, sym, subst, inl, inr, arith, length-append}
use Rattle.std.proofs.lemmas.Bool.{cases_eq}
use Rattle.std.proofs.lemmas.List.{get_or_append_left, get_or_push}
use Rattle.cost_model.specs.Facts.{AreFacts}
use Rattle.cost_model.specs.declared.facts.LinkFacts.{LinkFacts}
use Rattle.map_cases.specs.Given.{AreGiven, no_facts}

-- the facts of each link keep the bounds where those of one more do
pub given-push : (xs : List LinkFacts) (facts : LinkFacts) (more : Bool) → AreGiven xs → AreFacts facts →
    AreGiven (cond more (xs ++ facts ∷ []) xs)
given-push xs facts false is f link below = is link below
given-push xs facts true is f link below =
    elim (cases_eq (length xs) link) [
      | inl last ↦ subst AreFacts (sym (get_or_push xs facts no_facts link last)) f
      | inr other ↦
          let inner : link < length xs = omega (arith, length-append xs (facts ∷ [])) in
          subst AreFacts (sym (get_or_append_left xs (facts ∷ []) no_facts link inner)) (is link inner)
    ]

-- and there are few where there were fewer
pub few-push : (xs : List LinkFacts) (facts : LinkFacts) (more : Bool) → length xs + 1 < 2 ^ 32 →
    length (cond more (xs ++ facts ∷ []) xs) < 2 ^ 32
few-push xs facts false few = omega arith
few-push xs facts true few = omega (arith, length-append xs (facts ∷ []))
