-- In a profile that was checked each variable and each look is known.
use Rattle.std.proofs.Common.{◌≡◌, ℕ, suc, ◌<◌, Bool, true, false, ◌||◌, List, [], ◌∷◌, length, ℤ, Option, Some, None, Result, Ok, refl, ap, ◌∙◌, arith}
use Rattle.std.specs.Option.{option_or}
use Rattle.std.specs.Prelude.{slice_get, slice_index_or, is_some, option_map, if◌then◌else◌}
use Rattle.std.specs.Str.{bytes_eq}
use Rattle.std.proofs.lemmas.Option.{slice_get-get_or}
use Rattle.context_check.proofs.CallerLemmas.{names_of}
use Rattle.context_check.specs.declared.error.CheckError.TheVariants.{UnknownName}
use Rattle.context_check.specs.Refusal.{value_refusal, tag_refusal, look_refusal, variable_refusal}
use Rattle.lookup_table.specs.Tag.{TagRow, place_of}
use Rattle.profile_code.proofs.AscendingLemmas.{ascending_listed}
use Rattle.profile_code.proofs.NameLemmas.{numbers_of}
use Rattle.profile_code.proofs.OperatorLemmas.{Gives, gives_number}
use Rattle.profile_code.specs.Emit.{variable_instr, look_instr, ascending}
use Rattle.profile_code.specs.Machine.{Given, pushed, look_value}
use Rattle.profile_code.specs.declared.instr.Instr.{Instr}
use Rattle.profile_code.specs.declared.instr.Instr.TheVariants.{Own, Global}
use Rattle.profile_text.specs.Meaning.{Fault, known, and_then, truth, is_listed, is_found, look_at, looks_in, look_numbers, row_at, later_value, last_value, variable_in}
use Rattle.profile_text.specs.Names.{later_place, last_place}

-- ---- Variables

-- a value and the place where it stands in a list; or neither
abbrev pub StandsAt : Option ℤ → Option ℕ → List ℤ → Type 0
StandsAt (Some n) (Some place) values = slice_get values place ≡ Some n
StandsAt (Some n) None values = ⊥
StandsAt None (Some place) values = ⊥
StandsAt None None values = Unit {0}

-- the value that a name was given last stands at the name's last place
pub last_stands : (values : List (List ℕ × ℤ)) (name : List ℕ) →
    StandsAt (last_value values name) (last_place (names_of values) name) (numbers_of values)
last_stands [] name = tt
last_stands (v ∷ vs) name =
    further (bytes_eq name v.0) (last_value vs name) (last_place (names_of vs) name) (last_stands vs name)
  where
    further : (first : Bool) (value : Option ℤ) (place : Option ℕ) → StandsAt value place (numbers_of vs) →
        StandsAt (later_value first v.1 value) (later_place first place) (v.1 ∷ numbers_of vs)
    further first (Some n) (Some place) stands = stands
    further first (Some n) None stands = absurd stands
    further first None (Some place) stands = absurd stands
    further true None None stands = refl
    further false None None stands = tt

module _ (given : Given) (global own : List (List ℕ × ℤ)) where
  -- the operation of a variable that is known gives its value
  pub gives_variable : (name : List ℕ) (line : ℕ) → given.global ≡ numbers_of global →
      variable_refusal (names_of global) (names_of own) name line ≡ None →
      Gives given (numbers_of own) 1 (variable_instr (last_place (names_of own) name) (last_place (names_of global) name) ∷ [])
      (known line (variable_in global own name))
  gives_variable name line is refused =
      by_place (last_value own name) (last_place (names_of own) name) (last_value global name) (last_place (names_of global) name)
      (last_stands own name) (last_stands global name) refused
    where
      by_place : (own_value : Option ℤ) (own_place : Option ℕ) (value : Option ℤ) (place : Option ℕ) →
          StandsAt own_value own_place (numbers_of own) → StandsAt value place (numbers_of global) →
          (if is_some own_place || is_some place then None else Some (UnknownName line)) ≡ None →
          Gives given (numbers_of own) 1 (variable_instr own_place place ∷ []) (known line (option_or own_value value))
      by_place (Some n) (Some k) value place stands there refused =
          gives_number given (numbers_of own) (Own k) n (λ next stack. ap (λ o. pushed given o next stack (numbers_of own)) stands)
      by_place (Some n) None value place stands there refused = absurd stands
      by_place None (Some k) value place stands there refused = absurd stands
      by_place None None (Some n) (Some k) stands there refused =
          gives_number given (numbers_of own) (Global k) n
          (λ next stack. ap (λ o. pushed given o next stack (numbers_of own)) (ap (λ l. slice_get l k) is ∙ there))
      by_place None None (Some n) None stands there refused = absurd there
      by_place None None None (Some k) stands there refused = absurd there
      by_place None None None None stands there refused = cc

-- ---- Looks

-- a place is below a bound, if there is one
abbrev IsBelow : Option ℕ → ℕ → Type 0
IsBelow None n = Unit {0}
IsBelow (Some place) n = place < n

-- the place of a tag is that of one of the tags
place_below : (rows : List TagRow) (tag : List ℕ) → IsBelow (place_of rows tag) (length rows)
place_below [] tag = tt
place_below (r ∷ rs) tag = by_first (bytes_eq tag r.name) (place_of rs tag) (place_below rs tag)
  where
    by_first : (b : Bool) (place : Option ℕ) → IsBelow place (length rs) →
        IsBelow (if b then Some 0 else option_map suc place) (suc (length rs))
    by_first true place below = omega arith
    by_first false None below = tt
    by_first false (Some place) below = omega arith

-- what a look comes to, where it is known
abbrev pub look_result : ℕ → Option Bool → Result ℤ Fault
look_result line found = and_then (known line found) (λ found. Ok (truth found))

-- the code of a look among tags
abbrev pub look_code : List TagRow → List ℕ → List (List ℕ) → List Instr
look_code rows tag values = look_instr tag (look_at rows (place_of rows tag) values) ∷ []

-- the operation of a look that is known gives whether the tag's number is asked for
pub gives_look : (given : Given) (own : List ℤ) (rows : List TagRow) (tag : List ℕ) (values : List (List ℕ)) (line : ℕ) →
    length given.numbers ≡ length rows → look_refusal (Some rows) tag values line ≡ None →
    Gives given own 1 (look_code rows tag values) (look_result line (looks_in rows given.numbers tag values))
gives_look given own rows tag values line as_many refused = by_place (place_of rows tag) (place_below rows tag) refused
  where
    by_numbers : (place : ℕ) (numbers : Option (List ℕ)) → place < length rows → value_refusal numbers line ≡ None →
        Gives given own 1 (look_instr tag (option_map (λ ns. (place, ns)) numbers) ∷ [])
        (look_result line (option_map (is_found given.numbers) (option_map (λ ns. (place, ns)) numbers)))
    by_numbers place None below refused = cc
    by_numbers place (Some ns) below refused =
        let number = slice_index_or given.numbers place 0 in
        let at : slice_get given.numbers place ≡ Some number = slice_get-get_or given.numbers place 0 (omega arith) in
        gives_number given own _ (truth (is_listed number ns)) (λ next stack.
        ap (λ o. pushed given (look_value (ascending ns) o) next stack own) at
        ∙ ap (λ b. pushed given (Some (truth b)) next stack own) (ascending_listed number ns))

    by_place : (place : Option ℕ) → IsBelow place (length rows) → tag_refusal rows place values line ≡ None →
        Gives given own 1 (look_instr tag (look_at rows place values) ∷ [])
        (look_result line (option_map (is_found given.numbers) (look_at rows place values)))
    by_place None below refused = cc
    by_place (Some place) below refused = by_numbers place (look_numbers (row_at rows place) values) below refused
