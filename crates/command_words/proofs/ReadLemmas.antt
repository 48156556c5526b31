-- How the reading of words goes on.
use Rattle.std.proofs.Common.{◌≡◌, ℕ, suc, ◌+◌, ◌<◌, Bool, true, cond, Option, Some, None, Result, Err, List, [], ◌∷◌, ◌++◌, length, drop, get_or, add-one, ◌∙◌, ap, subst, sym}
use Rattle.std.proofs.Math.Seq.{drop-cons}
use Rattle.std.proofs.lemmas.List.{length-append}
use Rattle.std.specs.String.{string_bytes}
use Rattle.std.specs.declared.string.String.{String}
use Rattle.std.specs.declared.alloc.Global.{Global}
use Rattle.command_words.specs.Given.{Given}
use Rattle.command_words.specs.Reader.{entries_after, entry_of, may_follow}
use Rattle.command_words.specs.Refusals.{texts_of}
use Rattle.command_words.specs.declared.rows.KeyRow.{KeyRow}

-- one entry more
pub counted-next : (before new : List Given) (entry : Given) (k : ℕ) → new ≡ before ++ entry ∷ [] → length before ≡ k →
    length new ≡ k + 1
counted-next before new entry k pushed counted =
    ap length pushed ∙ length-append before (entry ∷ []) ∙ ap (λ n. n + 1) counted

-- a word whose entry may follow is read, and then those after it
read-next : (keys : List KeyRow) (before : List Given) (entry : Given) (text : List ℕ) (texts : List (List ℕ)) →
    entry_of keys (length before + 1) text ≡ Some entry → may_follow keys before entry ≡ true →
    entries_after keys before (text ∷ texts) ≡ entries_after keys (before ++ entry ∷ []) texts
read-next keys before entry text texts found free =
    subst
    (λ (r : Option Given).
    ◌≡◌ {A = Result (List Given) ℕ}
    (elim r [
      | None ↦ Err (length before + 1)
      | Some entry ↦
          cond (may_follow keys before entry)
          (entries_after keys (before ++ entry ∷ []) texts) (Err (length before + 1))
    ])
    (entries_after keys (before ++ entry ∷ []) texts))
    (sym found) (ap (λ (b : Bool). cond b (entries_after keys (before ++ entry ∷ []) texts) (Err (length before + 1))) free)

-- once a word is read, what is left to be read are those after it
pub after-next : (keys : List KeyRow) (words : List (String Global)) (k : ℕ) (word : String Global) (before new slice : List Given)
    (entry : Given) (whole : Result (List Given) ℕ) (count : ℕ) (text : List ℕ) (made : Option Given) (may : Bool) →
    k < length words → word ≡ get_or words k word → whole ≡ entries_after keys before (texts_of (drop k words)) →
    count ≡ length before → text ≡ string_bytes word → made ≡ entry_of keys (count + 1) text → made ≡ Some entry →
    slice ≡ before → may ≡ may_follow keys slice entry → may ≡ true → new ≡ before ++ entry ∷ [] →
    whole ≡ entries_after keys new (texts_of (drop (k + 1) words))
after-next keys words k word before new slice entry whole count text made may here is held counted named given some same tested passed
    pushed =
    let cut : whole ≡ entries_after keys before (texts_of (get_or words k word ∷ drop (suc k) words)) =
    subst (λ ws. whole ≡ entries_after keys before (texts_of ws)) (drop-cons words k word here) held in
    let next : whole ≡ entries_after keys before (string_bytes word ∷ texts_of (drop (suc k) words)) =
    subst (λ (w : String Global). whole ≡ entries_after keys before (string_bytes w ∷ texts_of (drop (suc k) words))) (sym is) cut in
    let found : entry_of keys (length before + 1) (string_bytes word) ≡ Some entry = cc in
    let free : may_follow keys before entry ≡ true = cc in
    let left : whole ≡ entries_after keys new (texts_of (drop (suc k) words)) =
    next ∙ read-next keys before entry (string_bytes word) (texts_of (drop (suc k) words)) found free
    ∙ ap (λ (es : List Given). entries_after keys es (texts_of (drop (suc k) words))) (sym pushed) in
    rw add-one left
