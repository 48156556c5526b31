-- How a command is called, and texts one after the other.
use Rattle.std.proofs.Common.{◌≡◌, ℕ, suc, ◌+◌, ◌<◌, List, ◌∷◌, ◌++◌, length, drop, get_or, add-one, ◌∙◌, append_assoc, ap, subst, sym}
use Rattle.std.proofs.Math.Seq.{drop-cons}
use Rattle.command_words.specs.Help.{keys_text}
use Rattle.command_words.specs.declared.rows.KeyRow.{KeyRow}

-- how a command is called, put together
pub call-is : (old front name : List ℕ) (rows : List KeyRow) (one two new name' : List ℕ) (rows' : List KeyRow) → name' ≡ name →
    rows' ≡ rows → one ≡ old ++ front → two ≡ one ++ name' → new ≡ two ++ keys_text rows' → new ≡ old ++ (front ++ (name ++ keys_text rows))
call-is old front name rows one two new name' rows' same same' a b c =
    let begun : two ≡ (old ++ front) ++ name = cc in
    let all : new ≡ ((old ++ front) ++ name) ++ keys_text rows = cc in
    all ∙ append_assoc (old ++ front) name (keys_text rows) ∙ append_assoc old front (name ++ keys_text rows)

-- once the text of the next item is appended, what is left is that of those after it
pub texts-next : {A : Type 0} (f : A → List ℕ) (texts : List A → List ℕ) →
    ((x : A) (xs : List A) → texts (x ∷ xs) ≡ f x ++ texts xs) →
    (whole mid new : List ℕ) (xs : List A) (k : ℕ) (d : A) → k < length xs → mid ++ texts (drop k xs) ≡ whole →
    new ≡ mid ++ f (get_or xs k d) → new ++ texts (drop (k + 1) xs) ≡ whole
texts-next f texts step whole mid new xs k d here held added =
    let next : mid ++ texts (get_or xs k d ∷ drop (suc k) xs) ≡ whole =
    subst (λ ys. mid ++ texts ys ≡ whole) (drop-cons xs k d here) held in
    let left : new ++ texts (drop (suc k) xs) ≡ whole =
    ap (λ text. text ++ texts (drop (suc k) xs)) added ∙ append_assoc mid (f (get_or xs k d)) (texts (drop (suc k) xs))
    ∙ ap (λ text. mid ++ text) (sym (step (get_or xs k d) (drop (suc k) xs))) ∙ next in
    rw add-one left
