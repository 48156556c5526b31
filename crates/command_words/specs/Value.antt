-- The values of keys: numbers, places, what is made, names of files, queries, addresses and costs. This
-- project's own rule.
use Rattle.std.specs.List.{before_first, after_first, position_or_len, prefix_len}
use Rattle.std.specs.Prelude.{ℕ, ◌+◌, ◌-◌, ◌*◌, ◌==◌, ℤ, unsigned_abs, Bool, true, false, cond, ◌&&◌, nat_lt, nat_le, Option, Some, None, Result, Ok, Err, List, [], ◌∷◌, length, take, drop, codes}
use Rattle.std.specs.Int.{is_negative}
use Rattle.std.specs.Str.{bytes_eq}
use Rattle.fixed_num.specs.Literal.{literal_of}
use Rattle.fixed_num.specs.declared.literal.NumError.{NumError}
use Rattle.item_list.specs.Bytes.{is_digit, is_other}
use Rattle.command_words.specs.Addresses.{is_address}
use Rattle.command_words.specs.FileNames.{is_file_name, is_profile_file}
use Rattle.command_words.specs.declared.rows.Form.{Form}
use Rattle.command_words.specs.declared.rows.Form.TheVariants as Wanted
use Rattle.command_words.specs.declared.value.Value.{Value}
use Rattle.command_words.specs.declared.value.Value.TheVariants.{Number, At, Made, Named}
use Rattle.command_words.specs.declared.value.Place.{Place}
use Rattle.command_words.specs.declared.value.Product.{Product}
use Rattle.command_words.specs.declared.value.Product.TheVariants.{Map, Hgt}

-- the number that digits after a number make
abbrev pub number_from : ℕ → List ℕ → ℕ
number_from number [] = number
number_from number (byte ∷ bytes) = number_from (10 * number + (byte - 48)) bytes

-- all bytes are digits
abbrev pub all_digits : List ℕ → Bool
all_digits [] = true
all_digits (byte ∷ bytes) = is_digit byte && all_digits bytes

-- the number of a text of 1 to 19 digits, which may begin with zeros
unfoldable pub number_of : List ℕ → Option ℕ
number_of text =
    cond (nat_le 1 (length text) && nat_le (length text) 19 && all_digits text) (Some (number_from 0 text))
    None

-- the number, where it lies between these two
abbrev pub within : ℕ → ℕ → Option ℕ → Option ℕ
within low high None = None
within low high (Some number) = cond (nat_le low number && nat_le number high) (Some number) None

-- a place of two numbers
abbrev pub place_by : Option ℕ → Option ℕ → Option Place
place_by None y = None
place_by (Some x) None = None
place_by (Some x) (Some y) = Some (record { x = x; y = y })

-- the place of a text that is cut here, none where that is its end
abbrev pub place_cut : List ℕ → ℕ → Option Place
place_cut text at =
    cond (at == length text) None (place_by (number_of (take at text)) (number_of (drop (at + 1) text)))

-- the place of a text: two numbers parted by a comma
unfoldable pub place_of : List ℕ → Option Place
place_of text = place_cut text (prefix_len (is_other 44) text)

-- a number as a value
abbrev pub number_value : Option ℕ → Option Value
number_value None = None
number_value (Some number) = Some (Number number)

-- a place as a value
abbrev pub place_value : Option Place → Option Value
place_value None = None
place_value (Some place) = Some (At place)

-- what a text names to be made
unfoldable pub product_of : List ℕ → Option Product
product_of text = cond (bytes_eq text (codes "map")) (Some Map)
    (cond (bytes_eq text (codes "hgt")) (Some Hgt) None)

-- what is made as a value
abbrev pub product_value : Option Product → Option Value
product_value None = None
product_value (Some product) = Some (Made product)

-- a name of a file, a query or an address as a value
abbrev pub file_value : Bool → Option Value
file_value false = None
file_value true = Some Named

-- a number that isn't negative, as a value
abbrev pub unsigned_value : ℤ → Option Value
unsigned_value number = cond (is_negative number) None (Some (Number (unsigned_abs number)))

-- a number that was read and isn't negative, as a value
abbrev pub cost_value : Result ℤ NumError → Option Value
cost_value (Ok number) = unsigned_value number
cost_value (Err error) = None

-- the value of a text that is to have this form
unfoldable pub value_of : Form → List ℕ → Option Value
value_of (Wanted.Number low high) text = number_value (within low high (number_of text))
value_of Wanted.Place text = place_value (place_of text)
value_of Wanted.Product text = product_value (product_of text)
value_of Wanted.File text = file_value (is_file_name text)
value_of Wanted.ProfileFile text = file_value (is_profile_file text)
value_of Wanted.Query text = file_value (is_file_name text)
value_of Wanted.Address text = file_value (is_address text)
value_of Wanted.Cost text = cost_value (literal_of text)

-- a byte is an equals sign
abbrev pub is_equals : ℕ → Bool
is_equals byte = byte == 61

-- what a word has before its first equals sign and after it, if there is one
abbrev pub cut_word : List ℕ → Option (List ℕ × List ℕ)
cut_word text =
    cond (nat_lt (position_or_len is_equals text) (length text))
    (Some (before_first is_equals text, after_first is_equals text)) None

-- the number of a value
abbrev pub number_in : Value → ℕ
number_in (Number number) = number
number_in value = 0

-- the place of a value
abbrev pub place_in : Value → Place
place_in (At place) = place
place_in value = record { x = 0; y = 0 }

-- what is made by a value
abbrev pub product_in : Value → Product
product_in (Made product) = product
product_in value = Map
