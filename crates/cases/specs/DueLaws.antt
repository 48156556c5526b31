-- What one state that covers another by the same place with no more due has of it.
use Rattle.std.proofs.Common.{◌≡◌, ℕ, ◌≤◌, arith}
use Rattle.std.proofs.lemmas.Bool.Decides.{nat_tests}
use Rattle.std.specs.Bool.{IsTrue}
use Rattle.std.proofs.lemmas.Int.{ints}
use Rattle.space_search.specs.Rules.{IsUnder}
use Rattle.cases.specs.Due.{due_covers, due_point}

-- what covers stands at the same place
pub same-place : (a b : ℕ × ℕ) (ca cb : ℕ) → IsTrue (due_covers a ca b cb) → a.0 ≡ b.0
same-place (p, d) (p', d') ca cb covers = grind (arith, nat_tests)

-- has no more due
pub no-more_due : (a b : ℕ × ℕ) (ca cb : ℕ) → IsTrue (due_covers a ca b cb) → a.1 ≤ b.1
no-more_due (p, d) (p', d') ca cb covers = grind (arith, nat_tests)

-- and costs no more
pub no-more : (a b : ℕ × ℕ) (ca cb : ℕ) → IsTrue (due_covers a ca b cb) → ca ≤ cb
no-more (p, d) (p', d') ca cb covers = grind (arith, nat_tests)

-- so its point lies under that of what it covers
pub point-under : (a b : ℕ × ℕ) (ca cb : ℕ) → IsTrue (due_covers a ca b cb) →
    IsUnder (due_point a ca) (due_point b cb)
point-under a b ca cb covers =
    record {
      x = omega (arith, ints, no-more_due a b ca cb covers);
      y = omega (arith, ints, no-more a b ca cb covers);
      z = omega (arith, ints);
    }

-- and each that stands so covers
pub covers-these : (a b : ℕ × ℕ) (ca cb : ℕ) → a.0 ≡ b.0 → a.1 ≤ b.1 → ca ≤ cb → IsTrue (due_covers a ca b cb)
covers-these (p, d) (p', d') ca cb place due cost = grind (arith, nat_tests)
