-- The earlier alternatives of a track, one after the other.
use Rattle.std.proofs.Common.{◌≡◌, ℕ, ◌<◌, inl, inr, List, [], length, get_or, take, sym, ap, ◌∙◌, subst, arith}
use Rattle.std.proofs.Math.Seq.{take-length}
use Rattle.std.proofs.lemmas.Bool.{cases_lt}
use Rattle.std.proofs.lemmas.List.{get_or-map, get_or_past, length-map}
use Rattle.std.proofs.lemmas.List.FromFn.{get_or-range_with_len, length-range_with_len}
use Rattle.track_legs.specs.Rows.{AreBelow}
use Rattle.track_reply.specs.Earlier.{numbers_of, walks_of}
use Rattle.track_reply.specs.Showable.{AreAlternativesBelow, AreWalksBelow}

module _ (earlier : List (List (List ℕ))) (count : ℕ) (is : count ≡ length (get_or earlier 0 []))
  where
    -- as many numbers there are
    numbers-length : length (numbers_of earlier) ≡ count
    numbers-length = length-range_with_len 0 (length (get_or earlier 0 [])) ∙ sym is

    -- a number below the count is one of them
    pub number-within : (number : ℕ) → number < count → number < length (numbers_of earlier)
    number-within number below = omega (arith, below, numbers-length)

    -- it stands at its own place
    pub number-there : (number : ℕ) → number < count → number ≡ get_or (numbers_of earlier) number 0
    number-there number below =
        omega (arith, get_or-range_with_len 0 (length (get_or earlier 0 [])) number 0 (omega (arith, is, below)))

    -- those before the count are all
    pub numbers-all : (number : ℕ) → number ≡ count → take number (numbers_of earlier) ≡ numbers_of earlier
    numbers-all number end = ap (λ n. take n (numbers_of earlier)) (end ∙ sym numbers-length) ∙ take-length (numbers_of earlier)

module _ (earlier : List (List (List ℕ))) (number : ℕ)
  where
    -- an alternative has a walk for each leg
    walks-length : length (walks_of earlier number) ≡ length earlier
    walks-length = length-map earlier (λ walks. get_or walks number [])

    -- one for each of these
    pub leg-within : (leg : ℕ) → leg < length earlier → leg < length (walks_of earlier number)
    leg-within leg below = omega (arith, below, walks-length)

    -- those before the last leg's end are all
    pub walks-all : (leg : ℕ) → leg ≡ length earlier → take leg (walks_of earlier number) ≡ walks_of earlier number
    walks-all leg end =
        ap (λ n. take n (walks_of earlier number)) (end ∙ sym walks-length) ∙ take-length (walks_of earlier number)

    module _ (count : ℕ)
      where
        -- the links of its walk among those of a leg are below a count
        any-below : (walks : List (List ℕ)) → AreWalksBelow count walks → AreBelow count (get_or walks number [])
        any-below walks below =
            elim (cases_lt number (length walks)) [
              | inl within ↦ below number within
              | inr past ↦
                  subst (λ w. AreBelow count w) (sym (get_or_past walks number [] past)) (λ position inside. absurd (omega (arith, inside)))
            ]

        -- so are those of its walk on a leg
        pub earlier-below : (leg : ℕ) (walk : List ℕ) → AreAlternativesBelow count earlier → leg < length earlier →
            walk ≡ get_or (walks_of earlier number) leg [] → AreBelow count walk
        earlier-below leg walk below inside is =
            let there = get_or-map (λ (w : List (List ℕ)). get_or w number []) earlier leg [] [] inside in
            subst (λ w. AreBelow count w) (sym (is ∙ there)) (any-below (get_or earlier leg []) (below leg inside))
