-- What stages spend, item by item and one stage after the other.
use Rattle.std.proofs.Common.{◌≡◌, ◌∙◌, ◌<◌, ◌≤◌, ℕ, suc, ◌+◌, ◌-◌, ◌*◌, refl, sym, ap, inl, inr, subst, arith}
use Rattle.std.proofs.Math.Nat.{mul-suc}
use Rattle.std.proofs.lemmas.Bool.{cases_eq}
use Rattle.profile_code.specs.Flat.{Flat}
use Rattle.way_class.specs.Spending.{Advances, AddsOne, Progress, Spends, classes_at, items_at, weight_of}

-- nothing is spent where nothing is done
pub spends-none : (weight budget n : ℕ) → Spends weight budget budget n n
spends-none weight budget n = record {
  fits = omega arith;
  counted = λ some. refl;
  used = λ none. omega arith;
  within = omega arith;
  none = λ none. refl;
}

-- one more item costs at least 1, and at most 1 more than an evaluation
pub spends-more : (weight budget left rest start now next cost : ℕ) → Spends weight budget left start now → 0 < left →
    0 < cost → cost ≤ suc (suc weight) → next ≡ now + cost → rest ≡ left - cost →
    Spends weight budget rest start next
spends-more weight budget left rest start now next cost spends some least most next_is rest_is =
    let exact : now + left ≡ start + budget = spends.counted some in
    let fits : left ≤ budget = spends.fits in
    record {
      fits = omega arith;
      counted = λ more. omega arith;
      used = λ none. omega arith;
      within = omega arith;
      none = λ none. absurd (omega arith);
    }

-- a stage without evaluations spends no more than one with them
pub spends-light : (weight budget left a b : ℕ) → Spends 0 budget left a b → Spends weight budget left a b
spends-light weight budget left a b light = record {
  fits = light.fits;
  counted = light.counted;
  used = light.used;
  within = omega (arith, light.within);
  none = light.none;
}

-- two parts of what is done, one after the other
pub spends-both : (weight budget left rest a b c : ℕ) → Spends weight budget left a b → Spends weight left rest b c →
    Spends weight budget rest a c
spends-both weight budget left rest a b c first second =
    let fits : left ≤ budget = first.fits in
    let fewer : rest ≤ left = second.fits in
    record {
      fits = omega arith;
      counted = λ some. omega (arith, first.counted (omega arith), second.counted some);
      used = λ none. elim (cases_eq left 0) [
        | inl zero ↦ omega (arith, first.used zero, second.none zero)
        | inr other ↦ omega (arith, first.counted (omega arith), second.used none)
      ];
      within = elim (cases_eq left 0) [
        | inl zero ↦ omega (arith, first.within, second.none zero)
        | inr other ↦ omega (arith, first.counted (omega arith), second.within)
      ];
      none = λ none. omega (arith, first.none none, second.none (omega arith));
    }

-- what is spent beside what stays is spent
pub spends-beside : (weight budget left a b x y : ℕ) → Spends weight budget left a b → (other : ℕ) → x ≡ a + other →
    y ≡ b + other → Spends weight budget left x y
spends-beside weight budget left a b x y spends other before after =
    let counted_first : 0 < left → b + left ≡ a + budget = spends.counted in
    let used_first : left ≡ 0 → a + budget ≤ b = spends.used in
    let within_first : b ≤ a + budget + suc weight = spends.within in
    let none_first : budget ≡ 0 → b ≡ a = spends.none in
    record {
      fits = spends.fits;
      counted = λ some. omega arith;
      used = λ none. omega arith;
      within = omega arith;
      none = λ none. omega arith;
    }

-- a stage that did nothing yet
pub advances-none : (weight budget most : ℕ) (start : Progress) → start.done ≤ most →
    Advances weight budget budget most start start
advances-none weight budget most start within = record {
  spends = spends-none weight budget start.spent;
  less = omega arith;
  grows = omega arith;
  within = within;
}

-- one item more that costs what it counts
pub item-more : (budget left rest most count next cost : ℕ) (start : Progress) →
    Advances 0 budget left most start (items_at most count) → next ≡ count + cost → next ≤ most → 0 < left →
    0 < cost → cost ≤ 2 → rest ≡ left - cost → Advances 0 budget rest most start (items_at most next)
item-more budget left rest most count next cost start are next_is within some least two rest_is =
    let less : (most - count) + count ≤ start.rest + start.spent = are.less in
    let grows : start.done ≤ count = are.grows in
    record {
      spends = spends-more 0 budget left rest start.spent count next cost are.spends some least two next_is rest_is;
      less = omega arith;
      grows = omega arith;
      within = within;
    }

-- the rest of a stage with classes, where one item of it is done
rest-fewer : (unit most numbers : ℕ) → numbers < most → unit * (most - numbers) ≡ unit * (most - (numbers + 1)) + unit
rest-fewer unit most numbers below =
    let one : most - numbers ≡ suc (most - (numbers + 1)) = omega arith in
    ap (λ (n : ℕ). unit * n) one ∙ mul-suc unit (most - (numbers + 1))

-- one more way or node, whose class was found or evaluated
pub class-more : (weight budget left rest most numbers classes more next : ℕ) (start : Progress) →
    Advances weight budget left most start (classes_at weight most numbers classes) → next ≡ numbers + 1 →
    numbers < most → 0 < left → AddsOne classes more → (more ≡ classes → rest ≡ left - 1) →
    (more ≡ suc classes → rest ≡ left - suc weight) →
    Advances weight budget rest most start (classes_at weight most next more)
class-more weight budget left rest most numbers classes more next start are next_is below some adds known evaluated =
    subst (λ n. Advances weight budget rest most start (classes_at weight most n more)) (sym next_is)
    (elim (cases_eq more classes) [
      | inl same ↦ subst (λ m. Advances weight budget rest most start (classes_at weight most (numbers + 1) m)) (sym same)
          (by-cost classes 1 (omega arith) (omega arith) (omega arith) (known same))
      | inr other ↦
          let one : more ≡ suc classes = omega (arith, adds.more, adds.few) in
          let product : weight * suc classes ≡ weight * classes + weight = mul-suc weight classes in
          subst (λ m. Advances weight budget rest most start (classes_at weight most (numbers + 1) m)) (sym one)
          (by-cost (suc classes) (suc weight) (omega arith) (omega arith) (omega arith) (evaluated one))
    ])
  where
    by-cost : (these cost : ℕ) → 0 < cost → cost ≤ suc weight →
        numbers + 1 + weight * these ≡ numbers + weight * classes + cost → rest ≡ left - cost →
        Advances weight budget rest most start (classes_at weight most (numbers + 1) these)
    by-cost these cost least fits is rest_is =
        let less : suc weight * (most - numbers) + (numbers + weight * classes) ≤ start.rest + start.spent = are.less in
        let fewer : suc weight * (most - numbers) ≡ suc weight * (most - (numbers + 1)) + suc weight =
        rest-fewer (suc weight) most numbers below in
        let grows : start.done ≤ numbers = are.grows in
        record {
          spends = spends-more weight budget left rest start.spent (numbers + weight * classes)
              (numbers + 1 + weight * these) cost are.spends some least (omega arith) is rest_is;
          less = omega arith;
          grows = omega arith;
          within = omega arith;
        }

-- an evaluation counts no more than a million and one
pub weight-most : (flat : Flat) → weight_of flat ≤ 1000001
unfolding weight_of
weight-most flat = omega arith
