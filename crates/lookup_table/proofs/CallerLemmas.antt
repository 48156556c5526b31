-- What crates above cite of this one.
use Rattle.std.proofs.Common.{ℕ, ◌+◌, ◌≤◌, Bool, true, false, ◌&&◌, List, [], ◌∷◌, length, set, IsTrue, arith}
use Rattle.std.specs.Str.{bytes_eq}
use Rattle.lookup_table.specs.declared.part.Part.{Part}
use Rattle.lookup_table.specs.First.{begins_as, first_name, begins_with_yes}
use Rattle.lookup_table.specs.Numbers.{AreNumbersOf}
use Rattle.lookup_table.specs.Tag.{TagRow}
-- an empty line is skipped
pub use Rattle.lookup_table.proofs.ReadLemmas.{line_form-empty}

-- numbers of a part's tags stay so where the first of them is set to 0, to 1 or to the number of its first value, 2
pub AreNumbersOf-first : (part : Part) (rows : List TagRow) (numbers : List ℕ) (number : ℕ) → IsTrue (begins_as part rows) → number ≤ 2
    → AreNumbersOf rows numbers → AreNumbersOf rows (set numbers 0 number)
AreNumbersOf-first part [] numbers number begins few fits = absurd cc
AreNumbersOf-first part (r ∷ rs) [] number begins few fits = fits
AreNumbersOf-first part (r ∷ rs) (n ∷ ns) number begins few fits = (by_test (bytes_eq r.name (first_name part)) r.firsts begins, fits.1)
  where
    by_test : (b : Bool) (firsts : List (List ℕ)) → IsTrue (b && begins_with_yes firsts) → number ≤ length firsts + 1
    by_test true [] listed = absurd cc
    by_test true (s ∷ ss) listed = omega arith
    by_test false firsts listed = absurd cc
