-- A path is looked through from its end to its last slash.
use Rattle.std.proofs.Common.{◌≡◌, ◌≢◌, ℕ, ◌+◌, ◌-◌, ◌<◌, ◌≤◌, Bool, true, false, not, ◌==◌, List, length, take, drop, get_or, sym, ap, ◌∙◌, arith, length-drop}
use Rattle.std.proofs.Math.Seq.{take-length}
use Rattle.std.proofs.lemmas.Bool.Decides.{nat_tests}
use Rattle.std.proofs.lemmas.List.{take_all}
use Rattle.std.proofs.lemmas.List.Sums.{suffix_len-take_no, suffix_len-take_yes}
use Rattle.std.specs.List.{suffix_len}
use Rattle.item_list.specs.Bytes.{base_name}

-- a byte is no slash
abbrev is_plain : ℕ → Bool
is_plain byte = not (byte == 47)

-- no slash stands from this place on
pub record IsPlainFrom (path : List ℕ) (start : ℕ) : Type 0 where
  pub within : start ≤ length path
  pub counted : suffix_len is_plain path ≡ length path - start + suffix_len is_plain (take start path)

-- none stands behind the end
pub plain-begin : (path : List ℕ) → IsPlainFrom path (length path)
plain-begin path =
    record {
      within = omega arith;
      counted = let same = ap (suffix_len is_plain) (take-length path) in omega (arith, same);
    }

-- one byte more
pub plain-more : (path : List ℕ) (start : ℕ) → 0 < start → get_or path (start - 1) 0 ≢ 47 → IsPlainFrom path start →
    IsPlainFrom path (start - 1)
plain-more path start some byte plain =
    let test : is_plain (get_or path (start - 1) 0) ≡ true = grind (arith, nat_tests) in
    let more = suffix_len-take_yes is_plain path start 0 some plain.within test in
    record { within = omega (arith, plain.within); counted = omega (arith, more, plain.counted, plain.within) }

-- what follows is the base, where a slash stands before it or nothing does
rest : (path : List ℕ) (start : ℕ) → IsPlainFrom path start → suffix_len is_plain (take start path) ≡ 0 →
    take (length path - start) (drop start path) ≡ base_name path
rest path start plain none =
    let place : length path - suffix_len is_plain path ≡ start = omega (arith, plain.within, plain.counted, none) in
    let long : length (drop start path) ≤ length path - start = omega (arith, length-drop start path) in
    take_all (length path - start) (drop start path) long ∙ sym (ap (λ k. drop k path) place)

-- a slash stands before it
pub base-after_slash : (path : List ℕ) (start : ℕ) → 0 < start → get_or path (start - 1) 0 ≡ 47 → IsPlainFrom path start →
    take (length path - start) (drop start path) ≡ base_name path
base-after_slash path start some byte plain =
    let test : is_plain (get_or path (start - 1) 0) ≡ false = grind (arith, nat_tests) in
    rest path start plain (suffix_len-take_no is_plain path start 0 some plain.within test)

-- nothing stands before it
pub base-whole : (path : List ℕ) (start : ℕ) → start ≡ 0 → IsPlainFrom path start →
    take (length path - start) (drop start path) ≡ base_name path
base-whole path start none plain = rest path start plain (ap (λ k. suffix_len is_plain (take k path)) none)
