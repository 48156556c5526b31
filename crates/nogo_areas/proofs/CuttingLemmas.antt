-- The links of a map are judged one after the other.
use Rattle.std.proofs.Common.{◌≡◌, ℕ, ◌+◌, ◌-◌, ◌%◌, ◌<◌, List, [], ◌∷◌, ◌++◌, length, take, sym, ap, ◌∙◌, subst, arith}
use Rattle.std.proofs.lemmas.List.{length_push}
use Rattle.overpass_graph.specs.Maps.{IsMap, MapValue}
use Rattle.nogo_areas.specs.Cuts.{cut_of, is_cut}
use Rattle.nogo_areas.specs.Cuttings.{IsCutting, judged}
use Rattle.nogo_areas.specs.Fences.{AreFences}
use Rattle.nogo_areas.specs.declared.circle.Circle.{Circle}
use Rattle.nogo_areas.specs.declared.cutting.Cutting.{Cutting}
use Rattle.nogo_areas.proofs.CutLemmas.{cut-step, second-cut}

module _ (roads : MapValue) (circles : List Circle) (old : Cutting) (over : IsCutting roads circles old)
    (below : judged old < length roads.links) where
  -- the second link of a segment is cut where the one that was judged last is
  pub as-the-last : IsMap roads → (judged old % 2 ≡ 0 → ⊥) → old.last ≡ is_cut roads circles (judged old)
  as-the-last lawful odd =
      over.last (omega (arith, odd)) ∙ second-cut roads circles (judged old) lawful below odd

  -- a link more is judged
  pub judges-more : (new : Cutting) → new.fences ≡ old.fences → new.cut.items ≡ old.cut.items ++ new.last ∷ [] →
      new.last ≡ is_cut roads circles (judged old) → IsCutting roads circles new
  judges-more new fences pushed is =
      let more : judged new ≡ judged old + 1 = ap length pushed ∙ length_push old.cut.items new.last in
      record {
        fences = subst (AreFences circles) (sym fences) over.fences;
        within = omega (arith, more, below);
        cut = cut-step roads circles (judged old) old.cut.items new.cut.items new.last below over.cut is pushed
            ∙ ap (λ n. take n (cut_of roads circles)) (sym more);
        last = λ odd. is ∙ ap (is_cut roads circles) (back (judged new) (judged old) more);
      }
    where
      back : (n m : ℕ) → n ≡ m + 1 → m ≡ n - 1
      back n m e = omega (arith, e)
