-- Texts that are told of words at fault.
use Rattle.std.proofs.Common.{◌≡◌, ℕ, List, ◌++◌, take, Some, None, Result, Ok, Err, option_map, slice_get, OnOk, ap, ◌∙◌, append_assoc, sym}
use Rattle.std.proofs.lemmas.List.{take-map}
use Rattle.std.proofs.lemmas.Option.{slice_get-map}
use Rattle.std.specs.String.{string_bytes}
use Rattle.std.specs.declared.string.String.{String}
use Rattle.std.specs.declared.alloc.Global.{Global}
use Rattle.command_words.specs.Refusals.{texts_of}
use Rattle.command_words.specs.Usage.{end_fault, fault_at, fault_line, word_fault}
use Rattle.command_words.specs.declared.rows.KeyRow.{KeyRow}

-- what is said of an answer that is no error follows from what was said of it
on-ok : {T E : Type 0} {P Q : Type 0} (result : Result T E) → (P → Q) → OnOk result P → OnOk result Q
on-ok (Ok a) go p = go p
on-ok (Err e) go p = p

-- three texts, one after the other
pub three-are : {T E : Type 0} (result : Result T E) (old a b c one two new : List ℕ) → one ≡ old ++ a → two ≡ one ++ b →
    OnOk result (new ≡ two ++ c) → OnOk result (new ≡ old ++ (a ++ (b ++ c)))
three-are result old a b c one two new first second third =
    let begun : two ≡ (old ++ a) ++ b = cc in
    on-ok result
    (λ (last : new ≡ two ++ c). (let all : new ≡ ((old ++ a) ++ b) ++ c = cc in
    all ∙ append_assoc (old ++ a) b c ∙ append_assoc old a (b ++ c)))
    third

-- of the word at a place
pub fault-some : (keys : List KeyRow) (words : List (String Global)) (at : ℕ) (word : String Global) (text : List ℕ) →
    slice_get words at ≡ Some word → text ≡ string_bytes word →
    fault_line keys (texts_of words) at ≡ word_fault keys (texts_of (take at words)) text
unfolding fault_line
fault-some keys words at word text found is =
    let got : slice_get (texts_of words) at ≡ Some (string_bytes word) =
    slice_get-map string_bytes words at ∙ ap (option_map string_bytes) found in
    ap (fault_at keys (texts_of words) at) got
    ∙ ap (λ (texts : List (List ℕ)). word_fault keys texts (string_bytes word)) (take-map string_bytes at words)
    ∙ ap (word_fault keys (texts_of (take at words))) (sym is)

-- of a place behind the words
pub fault-none : (keys : List KeyRow) (words : List (String Global)) (at : ℕ) → slice_get words at ≡ None →
    fault_line keys (texts_of words) at ≡ end_fault keys (texts_of words)
unfolding fault_line
fault-none keys words at found =
    ap (fault_at keys (texts_of words) at) (slice_get-map string_bytes words at ∙ ap (option_map string_bytes) found)
