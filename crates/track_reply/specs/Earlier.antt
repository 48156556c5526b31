-- The earlier alternatives of a track, which has their walks leg by leg (this project's own rule).
use Rattle.std.specs.Prelude.{ℕ, List, [], length, get_or, map}
use Rattle.std.specs.List.{range_with_len}

-- the numbers of the earlier alternatives, of each of which the first leg has a walk
abbrev pub numbers_of : List (List (List ℕ)) → List ℕ
numbers_of earlier = range_with_len 0 (length (get_or earlier 0 []))

-- the walks of the earlier alternative of a number, leg by leg
abbrev pub walks_of : List (List (List ℕ)) → ℕ → List (List ℕ)
walks_of earlier number = map (λ walks. get_or walks number []) earlier
