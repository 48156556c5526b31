-- Texts parted by commas, one item further.
use Rattle.std.proofs.Common.{◌≡◌, ℕ, ◌+◌, ◌<◌, List, [], ◌∷◌, ◌++◌, length, take, get_or, sym, ap, ◌∙◌, arith, append_assoc}
use Rattle.std.specs.List.{join_by}
use Rattle.std.proofs.lemmas.List.{append-nil, flat_map_more, length-take-le}
use Rattle.track_reply.specs.Joined.{comma, comma_before}
use Rattle.track_reply.proofs.JoinLemmas.{taken-next}

module _ {A : Type 0} (f : A → List ℕ)
  where
    -- the text of one item more
    joined-push : (xs : List A) (x : A) → join_by f comma (xs ++ x ∷ []) ≡ join_by f comma xs ++ (comma_before (length xs) ++ f x)
    joined-push [] x = append-nil (f x)
    joined-push (y ∷ xs) x = sym (flat_map_more (λ z. comma ++ f z) (f y) xs x)

    -- the text of the items before a place and of the one at it
    pub joined-more : (xs : List A) (place : ℕ) (x d : A) (first mid between new : List ℕ) → place < length xs → x ≡ get_or xs place d →
        mid ≡ first ++ join_by f comma (take place xs) → between ≡ mid ++ comma_before place → new ≡ between ++ f x →
        new ≡ first ++ join_by f comma (take (place + 1) xs)
    joined-more xs place x d first mid between new below is so_far parted added =
        let before = take place xs in
        let count : length before ≡ place = omega (arith, length-take-le place xs (omega arith)) in
        added ∙ ap (λ text. text ++ f x) parted ∙ append_assoc mid (comma_before place) (f x)
        ∙ ap (λ text. text ++ (comma_before place ++ f x)) so_far
        ∙ append_assoc first (join_by f comma before) (comma_before place ++ f x)
        ∙ ap (λ n. first ++ (join_by f comma before ++ (comma_before n ++ f x))) (sym count)
        ∙ ap (λ text. first ++ text) (sym (joined-push before x))
        ∙ ap (λ ys. first ++ join_by f comma ys) (sym (taken-next xs place x d below is))
