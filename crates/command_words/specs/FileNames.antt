-- Names of files among the words. This project's own rule.
use Rattle.item_list.specs.Bytes.{base_name}
use Rattle.std.specs.List.{ends_with, starts_with, list_all}
use Rattle.std.specs.Prelude.{ℕ, ◌-◌, ◌==◌, Bool, not, cond, ◌&&◌, ◌||◌, nat_lt, nat_le, nat_eq, List, length, take, codes}

-- a text names a file, or is a query: it isn't empty
abbrev pub is_file_name : List ℕ → Bool
is_file_name text = nat_lt 0 (length text)

-- a name without a last `.brf`
abbrev pub stem : List ℕ → List ℕ
stem name = cond (ends_with nat_eq name (codes ".brf")) (take (length name - 4) name) name

-- a byte that the name of a profile may have: a letter, a digit, `_` or `-`
abbrev pub is_name_byte : ℕ → Bool
is_name_byte byte =
    (nat_le 48 byte && nat_le byte 57)
    || ((nat_le 65 byte && nat_le byte 90) ||
    ((nat_le 97 byte && nat_le byte 122) || ((byte == 95) || (byte == 45))))

-- a name for a profile: 1 to 64 such bytes, which don't begin like the names of uploaded ones
abbrev pub is_profile_name : List ℕ → Bool
is_profile_name name =
    nat_lt 0 (length name) && (nat_le (length name) 64 &&
    (list_all is_name_byte name && not (starts_with nat_eq name (codes "custom_"))))

-- the name of the profile of a file: its last part, without a last `.brf`
abbrev pub profile_name : List ℕ → List ℕ
profile_name path = stem (base_name path)

-- a path of a profile's file: its last part names a profile
unfoldable pub is_profile_file : List ℕ → Bool
is_profile_file path = is_profile_name (profile_name path)
