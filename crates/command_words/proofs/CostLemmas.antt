-- A cost that a word tells is that of a number.
use Rattle.std.proofs.Common.{◌≡◌, ℕ, zero, suc, ◌≤◌, Bool, true, false, cond, List, ℤ, unsigned_abs, nat_le, Option, Some, None, Ok, Err, refl, sym, ap, ◌∙◌, arith}
use Rattle.std.proofs.lemmas.Bool.Decides.{nat_tests}
use Rattle.std.specs.Int.{is_negative}
use Rattle.fixed_num.specs.Decimal.{Decimal, cut_millionths, parts_of, value_from, with_sign}
use Rattle.fixed_num.specs.Literal.{literal_of}
use Rattle.fixed_num.specs.declared.literal.NumError.TheVariants.{NotNumber, TooLarge}
use Rattle.command_words.specs.Fit.{most_cost}
use Rattle.command_words.specs.Value.{cost_value, number_in, unsigned_value}
use Rattle.command_words.specs.declared.value.Value.{Value}
use Rattle.command_words.specs.declared.value.Value.TheVariants.{Number}

-- a sign leaves the size
sized : (negative : Bool) (n : ℕ) → unsigned_abs (with_sign negative n) ≡ n
sized true zero = refl
sized true (suc n) = refl
sized false n = refl

-- the number of a value that may be none
abbrev number_or : Option Value → ℕ
number_or None = 0
number_or (Some value) = number_in value

-- a number that isn't negative has its size as its value
unsigned-is : (number : ℤ) (value : Value) → unsigned_value number ≡ Some value → number_in value ≡ unsigned_abs number
unsigned-is number value e = go (is_negative number) e
  where
    go : (b : Bool) → cond b None (Some (Number (unsigned_abs number))) ≡ Some value → number_in value ≡ unsigned_abs number
    go true e = cc
    go false e = sym (ap number_or e)

-- a cost that is read is within the limit of numbers
pub cost-fit : (text : List ℕ) (value : Value) → cost_value (literal_of text) ≡ Some value → number_in value ≤ most_cost
unfolding literal_of
cost-fit text value e = by_parts (parts_of text) e
  where
    by_size : (d : Decimal) (b : Bool) → nat_le (cut_millionths d) 1000000000000000 ≡ b →
        cost_value (cond b (Ok (with_sign d.is_negative (cut_millionths d))) (Err TooLarge)) ≡ Some value → number_in value ≤ most_cost
    by_size d true small e =
        let is : number_in value ≡ cut_millionths d =
        unsigned-is (with_sign d.is_negative (cut_millionths d)) value e ∙ sized d.is_negative (cut_millionths d) in
        let fits : cut_millionths d ≤ 1000000000000000 = grind (arith, nat_tests) in
        omega (arith, is, fits)
    by_size d false small e = cc

    by_parts : (parts : Option Decimal) → cost_value (value_from cut_millionths 1000000000000000 NotNumber TooLarge parts) ≡ Some value →
        number_in value ≤ most_cost
    by_parts None e = cc
    by_parts (Some d) e = by_size d (nat_le (cut_millionths d) 1000000000000000) refl e
