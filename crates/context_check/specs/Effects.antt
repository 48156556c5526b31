-- The names of the sections that have an effect, after the routing profiles of the developers guide.
use Rattle.std.specs.Prelude.{ℕ, List, [], ◌∷◌, ℤ, pos, map}
use lib.Chars.{codes}

-- the seven names of the global section in their order, each with its default
abbrev pub global_effects : List (List ℕ × ℤ)
global_effects =
    (codes "uphillcost", pos 0)
    ∷ (codes "downhillcost", pos 0)
    ∷ (codes "uphillcutoff", pos 0)
    ∷ (codes "downhillcutoff", pos 0)
    ∷ (codes "elevationpenaltybuffer", pos 5000000)
    ∷ (codes "elevationmaxbuffer", pos 10000000)
    ∷ (codes "elevationbufferreduce", pos 0)
    ∷ []

-- the seven names of the global section
abbrev pub global_names : List (List ℕ)
global_names = map (λ e. e.0) global_effects

-- the name that each way section assigns
abbrev pub costfactor_name : List ℕ
costfactor_name = codes "costfactor"
