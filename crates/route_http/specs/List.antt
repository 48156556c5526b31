-- Lists of items that a mark parts. This project's own rule.
use Rattle.std.specs.Prelude.{ℕ, ◌==◌, nat_lt, List, [], ◌∷◌, ◌++◌, length, if◌then◌else◌, Option, Some, None, Result, Ok, Err}
use Rattle.std.specs.List.{slice_split}
use Rattle.item_list.specs.Answer.{and_then}
use Rattle.route_http.specs.declared.key.Key.{Key}
use Rattle.route_http.specs.declared.error.RequestError.{RequestError}
use Rattle.route_http.specs.declared.error.RequestError.TheVariants as error

-- what stands between the marks
abbrev pub parts_of : (mark : ℕ) → List ℕ → List (List ℕ)
parts_of mark text = slice_split (λ b. b == mark) text

-- one more item at the end of those before it: it has to be well formed, and then there has to be room for it
abbrev pub one_more : {A : Type 0} → Key → ℕ → List A → Option A → Result (List A) RequestError
one_more key most before None = Err (error.BadValue key)
one_more key most before (Some item) =
    if nat_lt (length before) most then Ok (before ++ item ∷ []) else Err (error.TooMany key)

-- the items of these texts after those before them: the first at fault counts
abbrev pub items_of : {A : Type 0} → (List ℕ → Option A) → Key → ℕ → List A → List (List ℕ)
    → Result (List A) RequestError
items_of read key most before [] = Ok before
items_of read key most before (text ∷ texts) =
    and_then (one_more key most before (read text)) (λ items. items_of read key most items texts)
