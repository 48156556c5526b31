-- Places that move on among those of a higher node.
use Rattle.std.proofs.Common.{ℕ, ◌+◌, ◌<◌, inl, inr, arith}
use Rattle.std.proofs.lemmas.Bool.{cases_order}
use Rattle.link_hierarchy.specs.Topologies.{Half, IsHalf, IsPair, start_of}
use Rattle.link_hierarchy.specs.Customizing.{IsAhead}

-- ---- Places move on

module _ (half : Half) (is : IsHalf half) (node high : ℕ) where
  -- before any is looked for
  pub ahead-begins : (from : ℕ) → IsAhead half node high from (start_of half high)
  ahead-begins from = record { from_start = omega arith; ahead = λ x j k least p q. q.at.from_start }

  -- one isn't there
  pub ahead-skips : (from place : ℕ) → IsAhead half node high from place → IsAhead half node high (from + 1) place
  ahead-skips from place to = record {
    from_start = to.from_start;
    ahead = λ x j k least p q. to.ahead x j k (omega (arith, least)) p q;
  }

  -- one is found
  pub ahead-found : (from x place : ℕ) → IsPair half node x from → IsPair half high x place → IsAhead half node high (from + 1) place
  ahead-found from x place here there = record {
    from_start = there.at.from_start;
    ahead = λ y j k least p q.
        let more : x < y = omega (arith, is.sorted node from j here.at p.at (omega (arith, least)), here.is, p.is) in
        elim (cases_order k place) [
          | inl same ↦ omega (arith, same)
          | inr (inl less) ↦ absurd (omega (arith, is.sorted high k place q.at there.at less, there.is, q.is, more))
          | inr (inr above) ↦ omega (arith, above)
        ];
  }
