-- This project's own rule: what stands where a text was to grow and memory ran out.
use Rattle.std.specs.Prelude.{ℕ, ◌≡◌, List, ◌++◌, take}

-- the new text is the old one followed by a front of these bytes
pub record EndsWithFront (old bytes new : List ℕ) : Type 0 where
  pub taken : ℕ
  pub held : new ≡ old ++ take taken bytes
