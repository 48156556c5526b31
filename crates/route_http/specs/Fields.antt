-- What the header lines of a request say of its body. This project's own rule, after RFC 9112, section 6.
use Rattle.std.specs.Prelude.{ℕ, Bool, List, [], ◌∷◌, map, min, if◌then◌else◌, Option, Some, None, codes, bytes_eq}
use Rattle.std.specs.Char.{to_ascii_lowercase}
use Rattle.std.specs.List.{filter, list_any}
use Rattle.std.specs.Str.{all_ascii_digits}
use Rattle.fixed_num.specs.Decimal.{digits_after}

-- whether two names are one, whatever the case of their ASCII letters
unfoldable pub same_name : List ℕ → List ℕ → Bool
same_name a b = bytes_eq (map to_ascii_lowercase a) (map to_ascii_lowercase b)

-- whether a header line has this name; a header line is told by its name and its value
abbrev pub is_named : List ℕ → List ℕ × List ℕ → Bool
is_named name header = same_name header.0 name

-- the values of the header lines that have this name
abbrev pub values_of : List ℕ → List (List ℕ × List ℕ) → List (List ℕ)
values_of name headers = map (λ (h : List ℕ × List ℕ). h.1) (filter (is_named name) headers)

-- the number of one digit or more, or the greatest of 64 bits where it is larger
unfoldable pub number_of : List ℕ → Option ℕ
number_of [] = None
number_of (c ∷ cs) = if all_ascii_digits (c ∷ cs) then Some
    (min (digits_after 0 (c ∷ cs)) 18446744073709551615) else None

-- the length that lines of Content-Length tell: 0 where there is none, and no length where there are two
abbrev pub told_length : List (List ℕ) → Option ℕ
told_length [] = Some 0
told_length (text ∷ []) = number_of text
told_length (text ∷ next ∷ more) = None

-- the length of the body, where it is told soundly and no Transfer-Encoding is named
abbrev pub body_of : List (List ℕ × List ℕ) → Option ℕ
body_of headers =
    if list_any (is_named (codes "transfer-encoding")) headers then None
    else told_length (values_of (codes "content-length") headers)
