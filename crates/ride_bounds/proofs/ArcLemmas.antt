-- One arc more, and walks over other arcs.
use Rattle.std.proofs.Common.{◌≡◌, ℕ, ◌+◌, ◌⊎◌, inl, inr, List, [], ◌∷◌, ◌++◌, length, refl, sym, ◌∙◌, arith}
use Rattle.std.proofs.lemmas.Bool.{cases_lt}
use Rattle.std.proofs.lemmas.List.{get_or_append_left, get_or_push, length_push}
use Rattle.link_hierarchy.specs.Arcs.{HasArc, arc_from}
use Rattle.link_hierarchy.specs.Hierarchies.{Carries}
use Rattle.link_hierarchy.specs.Walks.{Edges, HasWalkUpTo, IsWalk, Step}
use Rattle.link_hierarchy.specs.declared.arcs.Arc.{Arc}

module _ (arcs : List Arc) (arc : Arc) where
  -- an arc that was there stays
  pub arc-stays : (a b price : ℕ) → HasArc arcs a b price → HasArc (arcs ++ arc ∷ []) a b price
  arc-stays a b price has = record {
    number = has.number;
    within = omega (arith, length_push arcs arc, has.within);
    is = get_or_append_left arcs (arc ∷ []) (arc_from a b price) has.number has.within ∙ has.is;
  }

  -- the last one is there
  pub arc-last : (a b price : ℕ) → arc ≡ arc_from a b price → HasArc (arcs ++ arc ∷ []) a b price
  arc-last a b price is = record {
    number = length arcs;
    within = omega (arith, length_push arcs arc);
    is = get_or_push arcs arc (arc_from a b price) (length arcs) refl ∙ is;
  }

  -- an arc was there, or is the last one
  pub arc-cases : (a b price : ℕ) → HasArc (arcs ++ arc ∷ []) a b price → HasArc arcs a b price ⊎ (arc ≡ arc_from a b price)
  arc-cases a b price has =
      elim (cases_lt has.number (length arcs)) [
        | inl old ↦
            inl (record {
              number = has.number;
              within = old;
              is = sym (get_or_append_left arcs (arc ∷ []) (arc_from a b price) has.number old) ∙ has.is;
            })
        | inr last ↦
            inr (sym (get_or_push arcs arc (arc_from a b price) has.number (omega (arith, last, has.within, length_push arcs arc)))
            ∙ has.is)
      ]

-- a walk over edges is one over others that have them
pub walk-other : (first second : Edges) → ((a b weight : ℕ) → first a b weight → second a b weight) → (walk : List Step) (a b : ℕ) →
    IsWalk first a walk b → IsWalk second a walk b
walk-other first second has [] a b is = is
walk-other first second has (step ∷ walk) a b is =
    (has a step.to step.weight is.0, walk-other first second has walk step.to b is.1)

-- edges have the least sums of other arcs that are the same
pub carries-other : (far : ℕ) (first second edge : Edges) → ((a b weight : ℕ) → first a b weight → second a b weight) →
    ((a b weight : ℕ) → second a b weight → first a b weight) → Carries far first edge → Carries far second edge
carries-other far first second edge there back carries = record {
  base = λ a b weight is apart. carries.base a b weight (back a b weight is) apart;
  real = λ a b weight is.
      let real : HasWalkUpTo far first a b weight = carries.real a b weight is in
      record {
        sum = real.sum;
        has = record {
          walk = real.has.walk;
          is = walk-other first second there real.has.walk a b real.has.is;
          comes_to = real.has.comes_to;
        };
        cut = real.cut;
      };
}
