-- The texts of the items of a list, one item further.
use Rattle.std.proofs.Common.{◌≡◌, ℕ, suc, ◌+◌, ◌<◌, List, [], ◌∷◌, ◌++◌, length, take, get_or, sym, ap, ◌∙◌, arith}
use Rattle.std.specs.List.{flat_map}
use Rattle.std.proofs.Math.Seq.{take-suc}
use Rattle.std.proofs.lemmas.List.{append-nil, flat_map_more}
use Rattle.track_reply.specs.Joined.{behind}

-- the items before a place and the one at it
pub taken-next : {A : Type 0} (xs : List A) (place : ℕ) (x d : A) → place < length xs → x ≡ get_or xs place d →
    take (place + 1) xs ≡ take place xs ++ x ∷ []
taken-next xs place x d below is =
    let one : place + 1 ≡ suc place = omega arith in
    ap (λ n. take n xs) one ∙ take-suc xs place d below ∙ ap (λ y. take place xs ++ y ∷ []) (sym is)

-- the texts of the items before a place and of the one at it
pub texts-more : {A : Type 0} (f : A → List ℕ) (xs : List A) (place : ℕ) (x d : A) (first mid new : List ℕ) → place < length xs →
    x ≡ get_or xs place d → mid ≡ first ++ flat_map f (take place xs) → new ≡ mid ++ f x →
    new ≡ first ++ flat_map f (take (place + 1) xs)
texts-more f xs place x d first mid new below is so_far added =
    added ∙ ap (λ text. text ++ f x) so_far ∙ flat_map_more f first (take place xs) x
    ∙ ap (λ ys. first ++ flat_map f ys) (sym (taken-next xs place x d below is))

-- the fields before a place and the one at it
pub fields-more : (separator : List ℕ) (fields : List (List ℕ)) (field first mid new : List ℕ) → mid ≡ first ++ behind separator fields →
    new ≡ mid ++ (separator ++ field) → new ≡ first ++ behind separator (fields ++ field ∷ [])
fields-more separator fields field first mid new so_far added =
    added ∙ ap (λ text. text ++ (separator ++ field)) so_far ∙ flat_map_more (λ text. separator ++ text) first fields field

-- the first field
pub fields-first : (separator field first new : List ℕ) → new ≡ first ++ (separator ++ field) →
    new ≡ first ++ behind separator (field ∷ [])
fields-first separator field first new added = fields-more separator [] field first first new (sym (append-nil first)) added
